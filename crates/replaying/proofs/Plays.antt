-- One entry: what the calls make of the words and the counts. Assumes nothing.
use Prim.Native.Nat.{ℕ}
use mathlib.Core.Path.{◌≡◌, ap}
use mathlib.Core.List.{List}
use Rattle.answers.specs.Answers.{Said, Outcome, outcome}
use Rattle.pairs.specs.declared.Command.TheVariants.{Add as AddPgn, Delete as DeletePgn, Renew as RenewMode}
use Rattle.ports.specs.Filters.{commanded}
use Rattle.bridge.specs.Bridge.{Bridge, offered}
use Rattle.trace.specs.declared.Entry.{Entry}
use Rattle.trace.specs.declared.Entry.TheVariants.{Frame, Slot, Add, Delete, Renew, Other}
use Rattle.replaying.specs.declared.Counts.{Counts}
use Rattle.replaying.specs.Counts.{with_frame, with_slot, with_command, with_other}
use Rattle.replaying.specs.Feed.{State, state, slot_words, with_outcome, played}

module _ (s : State) (e : Entry) where
  pub play_frame : (port id : ℕ) (b : Bridge) (k : Counts) → e ≡ Frame port id → b ≡ (offered s.words s.filters port id).words → k ≡ with_frame s.counts → state b s.filters k ≡ played s e
  unfolding played
  play_frame port id b k p q r = rw (p, q, r)

  pub play_slot : (port : ℕ) (b : Bridge) (k : Counts) → e ≡ Slot port → b ≡ slot_words s.words port → k ≡ with_slot s.counts → state b s.filters k ≡ played s e
  unfolding played
  play_slot port b k p q r = rw (p, q, r)

  pub play_other : (k : Counts) → e ≡ Other → k ≡ with_other s.counts → state s.words s.filters k ≡ played s e
  unfolding played
  play_other k p r = rw (p, r)

  -- a command: the filters that it left, and its answer counted
  obeyed : (o : Outcome) (a : Said) (w : List ℕ) (k : Counts) → outcome a w ≡ o → k ≡ with_command s.counts a.number → state s.words w k ≡ with_outcome s o
  obeyed o a w k q r = rw r (ap (with_outcome s) q)

  module _ (from to x : ℕ) (a : Said) (w : List ℕ) (k : Counts) (r : k ≡ with_command s.counts a.number) where
    pub play_add : e ≡ Add from to x → outcome a w ≡ commanded s.filters from to (AddPgn x) → state s.words w k ≡ played s e
    unfolding played
    play_add p q = rw p (obeyed (commanded s.filters from to (AddPgn x)) a w k q r)

    pub play_delete : e ≡ Delete from to x → outcome a w ≡ commanded s.filters from to (DeletePgn x) → state s.words w k ≡ played s e
    unfolding played
    play_delete p q = rw p (obeyed (commanded s.filters from to (DeletePgn x)) a w k q r)

    pub play_renew : e ≡ Renew from to x → outcome a w ≡ commanded s.filters from to (RenewMode x) → state s.words w k ≡ played s e
    unfolding played
    play_renew p q = rw p (obeyed (commanded s.filters from to (RenewMode x)) a w k q r)

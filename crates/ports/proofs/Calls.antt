-- What the functions cite: a call is answered from its pair's row, by the pair's number. Assumes nothing.
use mathlib.Core.Path.{◌≡◌, ap, ◌∙◌}
use mathlib.Core.Bool.{Bool, cond}
use mathlib.Core.List.{List}
use Prim.Native.Nat.{ℕ, ◌≤◌, ◌<◌}
use borrow.Author.Tests.{lt-ltb, le-ltb}
use lib.Dec.{ltb}
use lib.ListN.{length, replicate}
use Rattle.words.proofs.Tests.{test}
use Rattle.answers.specs.Answers.{Said, plain, detailed, outcome}
use Rattle.frame.specs.Frame.{greatest_identifier, fields_of, pgn_of}
use Rattle.frame.specs.declared.Fields.{Fields}
use Rattle.pairs.specs.declared.Command.{Command}
use Rattle.pairs.specs.Pairs.{decided_by}
use Rattle.pairs.specs.Row.{Noted, noted, obeys_at, passes_at}
use Rattle.ports.specs.Filters.{pair_of, fresh_words, commanded, decided}
use Rattle.ports.proofs.Numbers.{by_number}

-- a command, by the number of its pair
pub obeyed_by : (w : List ℕ) (f t : ℕ) (c : Command) → length w ≡ 408 → {s : Said} {n i : ℕ} {v : List ℕ} → i ≡ pair_of f t → noted n v ≡ obeys_at w i c → s ≡ plain n
    → outcome s v ≡ commanded w f t c
unfolding commanded
obeyed_by w f t c long {s} {n} {i} {v} e o p =
    rw (by_number f t, ← e, p)
    (ap (λ (a : Noted). outcome (plain a.number) a.row) (rw long at o) ∙ test (ltb i 12) (λ y. rw y) (λ m. rw m))

pub no_pair : (w : List ℕ) (f t : ℕ) (c : Command) {s : Said} → 12 ≡ pair_of f t → s ≡ plain 15 → outcome s w ≡ commanded w f t c
unfolding commanded
no_pair w f t c e p = rw (by_number f t, ← e, p)

-- the deciding call
module _ (w : List ℕ) (f t id : ℕ) {s : Said} {i : ℕ} (e : i ≡ pair_of f t) where
  pub undecided : i ≡ 12 → s ≡ plain 15 → s ≡ decided w f t id
  unfolding decided
  undecided h p = rw (by_number f t, ← e, h) p

  pub too_long : i < 12 → greatest_identifier < id → s ≡ plain 1 → s ≡ decided w f t id
  unfolding decided decided_by
  too_long h l p = rw (by_number f t, ← e, lt-ltb i 12 h, lt-ltb greatest_identifier id l) p

  pub decides : length w ≡ 408 → i < 12 → id ≤ greatest_identifier → {fs : Fields} {g d : ℕ} {b : Bool} → fs ≡ fields_of id → g ≡ pgn_of fs → b ≡ passes_at w i g
      → d ≡ cond b 1 0 → s ≡ detailed 0 d → s ≡ decided w f t id
  unfolding decided decided_by
  decides long h l p q r u v =
      let pgn = q ∙ ap pgn_of p in
      let pass = rw (long, lt-ltb i 12 h) at (r ∙ ap (passes_at w i) pgn) in
      rw (by_number f t, ← e, lt-ltb i 12 h, le-ltb greatest_identifier id l) (v ∙ ap (detailed 0) (u ∙ ap (λ (x : Bool). cond x 1 0) pass))

-- words that are all 0
pub all_fresh : (n : ℕ) → n ≡ 408 → replicate n 0 ≡ fresh_words
unfolding fresh_words
all_fresh n e = rw e

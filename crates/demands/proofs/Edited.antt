-- 02's Req 10, "Two editions of the dictionary", sentence by sentence, over any runs of calls (specs/Calls.antt; an edition that is asked for a key is one of them). Assumes
-- nothing: `Carried` and `InBytes` say only that bytes are bytes.
use Prim.Native.Nat.{ℕ}
use mathlib.Core.Path.{◌≡◌, refl, sym, ap, ◌∙◌}
use mathlib.Core.Bool.{true, false}
use mathlib.Core.Option.{Option, none, some}
use mathlib.Core.List.{List, [], ◌∷◌, ◌++◌}
use Rattle.message.specs.declared.Key.{Key}
use Rattle.message.specs.declared.Message.{Message}
use Rattle.message.specs.Message.{heard}
use Rattle.maps.specs.Maps.{same_key}
use Rattle.history.specs.History.{Event, Forget, Edition, is_empty, is_edition, kept, set_of, edition_of}
use Rattle.history.specs.Frames.{learns}
use Rattle.history.proofs.Demand.{kept_forget, kept-edition}
use Rattle.history.proofs.Edition.{edition-fresh, edition-set, edition-other, edition-kept, edition_two, edition_unheld, edition-last}
use Rattle.keyrow.specs.Row.{key_number, InBytes}
use Rattle.lookup.specs.View.{map_in, edition_in}
use Rattle.learned.proofs.Editing.{edit_map}
use Rattle.learned.proofs.Histories.{sane_by}
use Rattle.learned.proofs.Editions.{edition-is}
use Rattle.demands.specs.Calls.{Call, Frame, Forgets, Sets, run, happened, Carried, AllCarried}
use Rattle.demands.proofs.Calls.{run_is}

module _ (calls : List Call) (bytes : AllCarried calls) (k : Key) (b : InBytes k) where
  -- the edition after a run
  after : (more : List Call) → AllCarried more → edition_in (run more) k ≡ edition_of (kept (happened more)) k
  after more ok = let (w, i) = run_is more ok in rw w (edition-is (happened more) i k b)

  -- it is one of the two
  pub one_of_two : is_edition (edition_in (run calls) k) ≡ true
  one_of_two = rw (after calls bytes) (edition_two (kept (happened calls)) k)

  -- "A fresh key has 2010": so has every key that is not held, and its first message leaves it
  pub fresh_2010 : set_of (happened calls) k ≡ [] → edition_in (run calls) k ≡ 2010
  fresh_2010 e = after calls bytes ∙ edition_unheld (kept (happened calls)) k (ap is_empty e)

  -- messages never change it, whatever they say and whatever they are answered
  pub frame_keeps : (id len : ℕ) (d : List ℕ) → Carried (Frame id len d) → edition_in (run (Frame id len d ∷ calls)) k ≡ edition_in (run calls) k
  unfolding happened
  frame_keeps id len d c = after (Frame id len d ∷ calls) (c, bytes) ∙ learned (heard id len d).message ∙ sym (after calls bytes)
    where
      learned : (o : Option Message) → edition_of (kept (learns o ++ happened calls)) k ≡ edition_of (kept (happened calls)) k
      learned none = refl
      learned (some m) = edition-kept m (happened calls) k

  -- a forget brings 2010 back
  pub forget_2010 : edition_in (run (Forgets k ∷ calls)) k ≡ 2010
  unfolding happened
  forget_2010 = after (Forgets k ∷ calls) (b, bytes) ∙ ap (λ (h : List Event). edition_of h k) (kept_forget (happened calls) k) ∙ edition-fresh (kept (happened calls)) k

  -- "a command changes one held key's edition": to the one that is asked
  pub set_sets : (e : ℕ) → is_empty (set_of (happened calls) k) ≡ false → is_edition e ≡ true → edition_in (run (Sets k e ∷ calls)) k ≡ e
  unfolding happened
  set_sets e held two =
      after (Sets k e ∷ calls) (b, bytes) ∙ ap (λ (h : List Event). edition_of h k) (kept-edition (happened calls) k e) ∙ edition-set (kept (happened calls)) k e held two

  -- and no other key's
  pub set_others : (j : Key) (e : ℕ) → InBytes j → same_key j k ≡ false → edition_in (run (Sets j e ∷ calls)) k ≡ edition_in (run calls) k
  unfolding happened
  set_others j e c n =
      after (Sets j e ∷ calls) (c, bytes) ∙ ap (λ (h : List Event). edition_of h k) (kept-edition (happened calls) j e)
      ∙ edition-other (Edition j e) (kept (happened calls)) k n ∙ sym (after calls bytes)

  -- "and nothing else of it": every key's map is as it was
  pub set-map : (j : Key) (e : ℕ) → map_in (run (Sets j e ∷ calls)) k ≡ map_in (run calls) k
  unfolding run
  set-map j e = edit_map (run calls) (rw (run_is calls bytes).0 (sane_by (happened calls) (run_is calls bytes).1).long) (key_number j) e k

-- "the edition last set since then": what was before the last forget of a key counts for nothing, and of what came since only the key's own editions do
pub since_then : (a h : List Event) (k : Key) → edition_of (a ++ (Forget k ∷ h)) k ≡ edition_of a k
since_then = edition-last

-- Runs of events over a table that holds a state for each key, whatever the events, keys and states are. A run is a list of events, the
-- latest first. Assumes nothing.
use Rattle.std.specs.Prelude.{◌≡◌, Bool, ◌&&◌, cond}
use mathlib.Core.List.{List, [], ◌∷◌, foldr}

module _ {E : Type 0} where
  -- the run without the events that do not count after what counted before them (such as those that are answered 9)
  abbrev pub kept : (List E → E → Bool) → List E → List E
  kept counts [] = []
  kept counts (e ∷ h) = cond (counts (kept counts h) e) (e ∷ kept counts h) (kept counts h)

  -- the events that pass a test, in their order (such as those that name a key)
  abbrev pub only : (E → Bool) → List E → List E
  only p [] = []
  only p (e ∷ h) = cond (p e) (e ∷ only p h) (only p h)

  -- the events after the latest that passes a test (such as those since the last forget)
  abbrev pub since : (E → Bool) → List E → List E
  since p [] = []
  since p (e ∷ h) = cond (p e) [] (e ∷ since p h)

  -- the same with that latest one (such as those from the last renew on)
  abbrev pub up_to : (E → Bool) → List E → List E
  up_to p [] = []
  up_to p (e ∷ h) = cond (p e) (e ∷ []) (e ∷ up_to p h)

  -- what the events make of a start, the earliest first
  abbrev pub fold : {S : Type 0} → (S → E → S) → S → List E → S
  fold step s h = foldr (λ e t. step t e) s h

-- A table after each run (its state for each key) goes by its events: every key has the same start, an event that counts is a step of the
-- keys that it names, and every other state is as it was.
pub record Keyed {Key E S : Type 0} (names : Key → E → Bool) (counts : List E → E → Bool) (step : S → E → S) (start : S) (table : List E → Key → S) : Type 0 where
  pub fresh : (k : Key) → table [] k ≡ start
  pub next : (e : E) (h : List E) (k : Key) → table (e ∷ h) k ≡ cond (counts (kept counts h) e && names k e) (step (table h k) e) (table h k)

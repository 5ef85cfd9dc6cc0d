-- A key's state after any run is what the run's counted events that name it make of the start, in their order: events that name other
-- keys, and those that do not count, fall away. Assumes nothing.
use mathlib.Core.Path.{◌≡◌, refl, ap, ◌∙◌}
use mathlib.Core.Bool.{Bool, true, false, ◌&&◌, cond}
use mathlib.Core.List.{List, [], ◌∷◌}
use Rattle.words.specs.Runs.{kept, only, since, up_to, fold, Keyed}

module _ {Key E S : Type 0} (names : Key → E → Bool) (counts : List E → E → Bool) (step : S → E → S) (start : S) where
  -- what the counted events that name a key make of the start
  abbrev pub made : List E → Key → S
  made h k = fold step start (only (names k) (kept counts h))

  -- of a table in which one event more is a step of the keys that it names, if it counts; whether it does may be seen from what the events before it made
  pub made_by : (table : List E → Key → S) → ((k : Key) → table [] k ≡ start)
      → ((e : E) (h : List E) → ((j : Key) → table h j ≡ made h j) → (k : Key) → table (e ∷ h) k ≡ cond (counts (kept counts h) e && names k e) (step (table h k) e) (table h k))
      → (h : List E) (k : Key) → table h k ≡ made h k
  made_by table fresh next [] k = fresh k
  made_by table fresh next (e ∷ h) k =
      next e h (made_by table fresh next h) k ∙ go (counts (kept counts h) e) (names k e) refl (made_by table fresh next h k)
    where
      go : (c n : Bool) {s : S} → names k e ≡ n → s ≡ fold step start (only (names k) (kept counts h))
          → cond (c && n) (step s e) s ≡ fold step start (only (names k) (cond c (e ∷ kept counts h) (kept counts h)))
      go true true q i = rw q (ap (λ (s : S). step s e) i)
      go true false q i = rw q i
      go false n q i = i

module _ {Key E S : Type 0} (names : Key → E → Bool) (counts : List E → E → Bool) (step : S → E → S) (start : S)
    {table : List E → Key → S} (t : Keyed names counts step start table) where
  pub own_events : (h : List E) (k : Key) → table h k ≡ fold step start (only (names k) (kept counts h))
  own_events h k = made_by names counts step start table t.fresh (λ e g so j. t.next e g j) h k

-- a run of which every event counts is kept whole
pub kept_all : {E : Type 0} (counts : List E → E → Bool) → ((h : List E) (e : E) → counts h e ≡ true) → (h : List E) → kept counts h ≡ h
kept_all counts all [] = refl
kept_all counts all (e ∷ h) = rw (all (kept counts h) e) (ap (λ (l : List _). e ∷ l) (kept_all counts all h))

-- an event that brings back the start cuts off what was before it
pub fold-since : {E S : Type 0} (step : S → E → S) (start : S) (ends : E → Bool) → ((s : S) (e : E) → ends e ≡ true → step s e ≡ start)
    → (h : List E) → fold step start h ≡ fold step start (since ends h)
fold-since step start ends again [] = refl
fold-since step start ends again (e ∷ h) = go (ends e) refl (fold-since step start ends again h)
  where
    go : (b : Bool) → ends e ≡ b → fold step start h ≡ fold step start (since ends h) → step (fold step start h) e ≡ fold step start (cond b [] (e ∷ since ends h))
    go true q i = again (fold step start h) e q
    go false q i = ap (λ (s : _). step s e) i

-- an event that makes the same of any state cuts off what was before it
pub fold-up_to : {E S : Type 0} (step : S → E → S) (start : S) (ends : E → Bool) → ((s t : S) (e : E) → ends e ≡ true → step s e ≡ step t e)
    → (h : List E) → fold step start h ≡ fold step start (up_to ends h)
fold-up_to step start ends same [] = refl
fold-up_to step start ends same (e ∷ h) = go (ends e) refl (fold-up_to step start ends same h)
  where
    go : (b : Bool) → ends e ≡ b → fold step start h ≡ fold step start (up_to ends h) → step (fold step start h) e ≡ fold step start (cond b (e ∷ []) (e ∷ up_to ends h))
    go true q i = same (fold step start h) start e q
    go false q i = ap (λ (s : _). step s e) i

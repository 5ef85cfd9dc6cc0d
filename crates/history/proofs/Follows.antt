-- A table that does with each event what specs/Table.antt says holds, after any history, of each key the map of its set, and gives each event
-- the answer that is defined from the history, in whatever layout. Assumes nothing.
use mathlib.Core.Path.{◌≡◌, refl, sym, ◌∙◌}
use mathlib.Core.Bool.{cond, not}
use mathlib.Core.List.{List, [], ◌∷◌}
use lib.ListN.{length}
use lib.Dec.{eqb}
use Rattle.message.specs.declared.Key.{Key}
use Rattle.message.specs.declared.Message.{Message}
use Rattle.maps.specs.Maps.{conflict, Nothing, map_of, is_nothing, is_conflict}
use Rattle.words.proofs.Tests.{test}
use Rattle.maps.proofs.Maps.{map_more}
use Rattle.history.specs.History.{Event, Learn, Forget, Edition, is_empty, since, keys, no_room, answer, kept}
use Rattle.history.specs.Table.{Table, full, number, after}
use Rattle.history.proofs.Since.{one-event}
use Rattle.history.proofs.Keys.{has, Once, has-keys, keys-once, same_count}

-- ---- one event

-- the table holds what the history says
pub record Follows (t : Table) (h : List Event) : Type 0 where
  pub rows : (k : Key) → t.look k ≡ map_of (since h k)
  pub counted : t.count ≡ length (keys h)

pub nothing_is : (s : List Message) → is_nothing (map_of s) ≡ is_empty s
nothing_is [] = refl
nothing_is (m ∷ s) = test (conflict (m ∷ s)) (λ t. rw t) (λ f. rw f)

pub conflict-is : (m : Message) (s : List Message) → is_conflict (map_of (m ∷ s)) ≡ conflict (m ∷ s)
conflict-is m s = test (conflict (m ∷ s)) (λ t. rw t) (λ f. rw f)

full_is : (t : Table) (h : List Event) (k : Key) → Follows t h → full t k ≡ no_room h k
unfolding full no_room
full_is t h k u = rw (u.rows k, nothing_is (since h k), u.counted)

-- an event's answer is the defined one
pub answers : (t : Table) (h : List Event) → Follows t h → (e : Event) → number t e ≡ answer h e
answers t h u (Learn m) =
    rw (full_is t h m.key u, u.rows m.key, ← (map_more m (since h m.key)), conflict-is m (since h m.key))
answers t h u (Forget k) = rw (u.rows k, nothing_is (since h k))
answers t h u (Edition k e) = rw (u.rows k, nothing_is (since h k))

-- an event that is answered 9 changes nothing, and any other is one event more
rows-after : (t : Table) (h : List Event) → Follows t h → (e : Event) (k : Key) → after t e k ≡ map_of (since (cond (not (eqb (answer h e) 9)) (e ∷ h) h) k)
rows-after t h u e k =
    rw (answers t h u e, u.rows k)
    (test (eqb (answer h e) 9) (λ n. rw n) (λ c. rw c (sym (one-event e h k))))

-- ---- a whole history

-- some list names the keys that are held, each once, and the count is its length: what a layout has to keep true
pub record Sound (t : Table) : Type 0 where
  pub listed : List Key
  pub once : Once listed
  pub named : (k : Key) → has k listed ≡ not (is_nothing (t.look k))
  pub counted : t.count ≡ length listed

count-is : (t : Table) (h : List Event) → Sound t → ((k : Key) → t.look k ≡ map_of (since h k)) → t.count ≡ length (keys h)
count-is t h s rows =
    s.counted ∙ same_count s.listed (keys h) s.once (keys-once h) (λ k. s.named k ∙ rw (rows k, nothing_is (since h k)) (sym (has-keys h k)))

-- the tables that a history goes through: each is sound, and holds what the event makes of the one before
pub data Calls : List Event → Table → Type 0 where
  start : {t : Table} → Sound t → ((k : Key) → t.look k ≡ Nothing) → Calls [] t
  call : {h : List Event} {t u : Table} (e : Event) → Calls h t → Sound u → ((k : Key) → u.look k ≡ after t e k) → Calls (e ∷ h) u

-- the table after any history
pub follows : {h : List Event} {t : Table} → Calls h t → Follows t (kept h)
follows {t = t} (start s e) = record { rows = e; counted = count-is t [] s e }
follows {t = u} (call {h} {t} e c s p) =
    let g = kept (e ∷ h) in
    let rows : (k : Key) → u.look k ≡ map_of (since g k) = λ k. p k ∙ rows-after t (kept h) (follows c) e k in
    record { rows = rows; counted = count-is u g s rows }

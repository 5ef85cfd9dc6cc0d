-- Sets of messages, and the map that a set says (01, "A set and its judgement"). A set is a list whose order and repeats don't count.
-- Assumes nothing.
use Rattle.std.specs.Prelude.{ℕ, ◌≡◌, Bool, true, false, cond, ◌&&◌, ◌||◌, not, eqb}
use Rattle.std.specs.Bool.{beq}
use Rattle.std.proofs.Math.Option.{Option, none, some}
use mathlib.Core.List.{List, [], ◌∷◌, Memᴰ}
use Rattle.message.specs.declared.Key.{Key}
use Rattle.message.specs.declared.Head.{Head}
use Rattle.message.specs.declared.Place.{Place}
use Rattle.message.specs.declared.Message.{Message}

-- "A key is (source, destination, k)"
unfoldable pub same_key : Key → Key → Bool
same_key a b = eqb a.source b.source && (eqb a.destination b.destination && eqb a.k b.k)

-- no difference "in n, the proprietary flag or the transport flag"
unfoldable pub same_head : Head → Head → Bool
same_head a b = eqb a.n b.n && (beq a.proprietary b.proprietary && beq a.transport b.transport)

-- no difference "in SPN or start"
unfoldable pub same_place : Place → Place → Bool
same_place a b = eqb a.spn b.spn && eqb a.start b.start

-- "Two of them contradict each other if they differ in n, the proprietary flag or the transport flag, or have one position and differ in SPN
-- or start"
unfoldable pub contradicts : Message → Message → Bool
contradicts a b = not (same_head a.head b.head) || (eqb a.position b.position && not (same_place a.place b.place))

-- some member of a list passes the test
abbrev pub some_of {ℓ} : {A : Type ℓ} → (A → Bool) → List A → Bool
some_of f [] = false
some_of f (x ∷ l) = f x || some_of f l

-- "A set with a contradiction is in conflict"
unfoldable pub conflict : List Message → Bool
conflict s = some_of (λ a. some_of (contradicts a) s) s

-- what a set says of position p
abbrev pub place_at : List Message → ℕ → Option Place
place_at [] p = none
place_at (m ∷ s) p = cond (eqb m.position p) (some m.place) (place_at s p)

-- what is known of a key: nothing (it is not held), a conflict, or the head and what stands at each position
pub data Map : Type 0 where
  Nothing : Map
  Conflict : Map
  Held : Head → (ℕ → Option Place) → Map

abbrev pub is_nothing : Map → Bool
is_nothing Nothing = true
is_nothing Conflict = false
is_nothing (Held h at) = false

abbrev pub is_conflict : Map → Bool
is_conflict Nothing = false
is_conflict Conflict = true
is_conflict (Held h at) = false

-- the map of a set
abbrev pub map_of : List Message → Map
map_of [] = Nothing
map_of (m ∷ s) = cond (conflict (m ∷ s)) Conflict (Held m.head (place_at (m ∷ s)))

-- ---- the same by membership alone, where neither order nor repeats can matter

-- two members contradict each other
pub record Contradiction (s : List Message) : Type 0 where
  pub one : Message
  pub other : Message
  pub one_in : Memᴰ one s
  pub other_in : Memᴰ other s
  pub they : contradicts one other ≡ true

-- there is a member, all have this head, each stands at its position, and nothing else stands anywhere
pub record Says (s : List Message) (h : Head) (at : ℕ → Option Place) : Type 0 where
  pub first : Message
  pub first_in : Memᴰ first s
  pub head-is : (m : Message) → Memᴰ m s → m.head ≡ h
  pub place_is : (m : Message) → Memᴰ m s → at m.position ≡ some m.place
  pub only : (p : ℕ) (x : Place) → at p ≡ some x → (m : Message) × Memᴰ m s × (m.position ≡ p) × (m.place ≡ x)

-- the map of a set: `map_of` computes it
abbrev pub IsMap : List Message → Map → Type 0
IsMap s Nothing = (m : Message) → Memᴰ m s → ⊥
IsMap s Conflict = Contradiction s
IsMap s (Held h at) = Says s h at

-- two sets with the same members
abbrev pub SameMembers : List Message → List Message → Type 0
SameMembers s t = (m : Message) → (Memᴰ m s → Memᴰ m t) × (Memᴰ m t → Memᴰ m s)

-- ---- one message more, as a program takes it in

-- nothing stood there, or the same
abbrev pub agrees : Option Place → Place → Bool
agrees none x = true
agrees (some y) x = same_place y x

-- the places with that of one message more
abbrev pub places_with : (ℕ → Option Place) → Message → ℕ → Option Place
places_with at m p = cond (eqb m.position p) (some m.place) (at p)

-- a message contradicts nothing of a map
unfoldable pub agrees_with : Head → (ℕ → Option Place) → Message → Bool
agrees_with h at m = same_head h m.head && agrees (at m.position) m.place

-- a map after one message more
abbrev pub learned : Map → Message → Map
learned Nothing m = Held m.head (places_with (λ p. none) m)
learned Conflict m = Conflict
learned (Held h at) m = cond (agrees_with h at m) (Held h (places_with at m)) Conflict

-- 01's list of rules ("A set and its judgement"), with 02's rule 9, as statements about a map and a position, without a search, and what it is for a map to be usable.
-- proofs/Exactly.antt: `judge` gives the first of the list that applies, with its lowest position, and `usable` holds exactly where none applies to a
-- map that is held. A dictionary is a function from SPN to width, 0 where it does not have the SPN. Positions count from 1.
-- Assumes nothing.
use Rattle.std.specs.Prelude.{ℕ, ◌+◌, ◌%◌, ◌≤◌, ◌<◌, ◌≡◌, ◌⊎◌, ◌↔◌, true, false, List, [], ◌∷◌}
use Rattle.std.proofs.Math.Option.{Option, none, some}
use Rattle.message.specs.declared.Head.{Head}
use Rattle.message.specs.declared.Place.{Place}
use Rattle.places.specs.Place.{odd, place, end_of}
use Rattle.maps.specs.Maps.{Map, Conflict, Held}
use Rattle.judge.specs.Judge.{count_of, transport_of, places_of, length_of}

-- ---- the rules, each of one position

-- x stands at position p of the map, one of 1 to n
abbrev pub StandsAt : Map → ℕ → Place → Type 0
StandsAt m p x = (1 ≤ p) × (p ≤ count_of m) × (places_of m p ≡ some x)

-- "1 in conflict (position 0)"
abbrev pub ConflictAt : Map → ℕ → Type 0
ConflictAt m p = (m ≡ Conflict) × (p ≡ 0)

-- "2 a position from 1 to n is missing"
abbrev pub MissingAt : Map → ℕ → Type 0
MissingAt m p = (1 ≤ p) × (p ≤ count_of m) × (places_of m p ≡ none)

-- "3 its SPN is not in the dictionary"
abbrev pub UnknownAt : (ℕ → ℕ) → Map → ℕ → Type 0
UnknownAt width_of m p = (x : Place) × StandsAt m p x × (width_of x.spn ≡ 0)

-- "4 its SPN stands at a lower position too"
abbrev pub RepeatedAt : Map → ℕ → Type 0
RepeatedAt m p = (x : Place) × StandsAt m p x × ((q : ℕ) × (y : Place) × StandsAt m q y × (q < p) × (y.spn ≡ x.spn))

-- "5 its start is not above the start one position before"
abbrev pub NotAboveAt : Map → ℕ → Type 0
NotAboveAt m p = (x : Place) × StandsAt m p x × ((q : ℕ) × (y : Place) × StandsAt m q y × (q + 1 ≡ p) × (x.start ≤ y.start))

-- 02, Req 04: "judgement 9, start not a multiple of 8", of an odd width
abbrev pub UnevenAt : (ℕ → ℕ) → Map → ℕ → Type 0
UnevenAt width_of m p = (x : Place) × StandsAt m p x × ((odd (width_of x.spn) ≡ true) × (x.start % 8 ≡ 0 → ⊥))

-- "6 it shares a bit with an earlier one": a bit j of it has the place of a bit i of the earlier one
abbrev pub OverlapsAt : (ℕ → ℕ) → Map → ℕ → Type 0
OverlapsAt width_of m p =
    (x : Place) × StandsAt m p x
    × ((q : ℕ) × (y : Place) × StandsAt m q y × (q < p)
    × ((i j : ℕ) × (i < width_of y.spn) × (j < width_of x.spn)
    × (place y.start (width_of y.spn) i ≡ place x.start (width_of x.spn) j)))

-- "7 start + width above 14,280": the end stands for start + width
abbrev pub BeyondAt : (ℕ → ℕ) → Map → ℕ → Type 0
BeyondAt width_of m p = (x : Place) × StandsAt m p x × (14280 < end_of x.start (width_of x.spn))

-- "8 transport flag is yes with a payload of 8 bytes, or no with a longer one (position 0)"
abbrev pub TransportAt : (ℕ → ℕ) → Map → ℕ → Type 0
TransportAt width_of m p =
    (((transport_of m ≡ true) × (length_of width_of m ≡ 8)) ⊎ ((transport_of m ≡ false) × (8 < length_of width_of m))) × (p ≡ 0)

-- ---- the list

-- a rule: its number, and what it is for it to apply to a position
abbrev pub Rule : Type 1
Rule = ℕ × (ℕ → Type 0)

-- in the order in which they are tested: 01's, and 9 "after 5 and before 6"
abbrev pub rule_list : (ℕ → ℕ) → Map → List Rule
rule_list width_of m =
    (1, ConflictAt m)
    ∷ (2, MissingAt m)
    ∷ (3, UnknownAt width_of m)
    ∷ (4, RepeatedAt m)
    ∷ (5, NotAboveAt m)
    ∷ (9, UnevenAt width_of m)
    ∷ (6, OverlapsAt width_of m)
    ∷ (7, BeyondAt width_of m)
    ∷ (8, TransportAt width_of m)
    ∷ []

-- a rule applies to no position
abbrev pub Nowhere : (ℕ → Type 0) → Type 0
Nowhere says = (p : ℕ) → says p → ⊥

-- no rule of a list applies to any position
abbrev pub NoneApplies : List Rule → Type 0
NoneApplies [] = Unit {0}
NoneApplies (r ∷ rs) = Nowhere r.1 × NoneApplies rs

-- "the first of these that applies, with its lowest position": the first of the list has the number k and applies to p and to no lower position; or it
-- applies nowhere, and among the rest this holds
abbrev pub FirstApplies : List Rule → ℕ → ℕ → Type 0
FirstApplies [] k p = ⊥
FirstApplies (r ∷ rs) k p =
    ((r.0 ≡ k) × r.1 p × ((q : ℕ) → q < p → r.1 q → ⊥))
    ⊎ (Nowhere r.1 × FirstApplies rs k p)

-- ---- usable

-- all that a usable map has, rule by rule
pub record Usable (width_of : ℕ → ℕ) (m : Map) : Type 0 where
  -- the key is held and not in conflict: its messages agree on a head and on what stands at each position
  pub head : Head
  pub places : ℕ → Option Place
  pub held : m ≡ Held head places
  -- no position from 1 to n is missing: `it p` stands at position p
  pub it : ℕ → Place
  pub present : (p : ℕ) → 1 ≤ p → p ≤ head.n → places p ≡ some (it p)
  -- its SPN is in the dictionary
  pub known : (p : ℕ) → 1 ≤ p → p ≤ head.n → 1 ≤ width_of (it p).spn
  -- its SPN stands at no lower position
  pub once : (q p : ℕ) → 1 ≤ q → q < p → p ≤ head.n → (it q).spn ≡ (it p).spn → ⊥
  -- its start is above the start one position before
  pub rises : (q p : ℕ) → 1 ≤ q → q + 1 ≡ p → p ≤ head.n → (it q).start < (it p).start
  -- an odd width starts at a multiple of 8
  pub even : (p : ℕ) → 1 ≤ p → p ≤ head.n → odd (width_of (it p).spn) ≡ true → (it p).start % 8 ≡ 0
  -- it shares no bit with an earlier one: no bit j of it has the place of a bit i of an earlier one
  pub apart : (q p : ℕ) → 1 ≤ q → q < p → p ≤ head.n → (i j : ℕ) → i < width_of (it q).spn → j < width_of (it p).spn
      → place (it q).start (width_of (it q).spn) i ≡ place (it p).start (width_of (it p).spn) j → ⊥
  -- its end is at most 14,280
  pub within : (p : ℕ) → 1 ≤ p → p ≤ head.n → end_of (it p).start (width_of (it p).spn) ≤ 14280
  -- the transport flag is yes exactly where the payload has more than 8 bytes
  pub flag : (head.transport ≡ true) ↔ (8 < length_of width_of m)

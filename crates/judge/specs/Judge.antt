-- The judgement of a map, and the length of its payload (01, "A set and its judgement"; 02, Req 04). A dictionary is a function from SPN to width, 0 where
-- it does not have the SPN. Positions count from 1; position i + 1 has the index i.
-- Assumes nothing.
use Rattle.std.specs.Prelude.{ℕ, zero, suc, ◌%◌, min, Bool, true, false, cond, not, ◌&&◌, ◌||◌, List, [], ◌∷◌, eqb, leb, ltb, length, get_or}
use Rattle.std.proofs.Math.Option.{Option, none, some}
use Rattle.answers.specs.Answers.{Judged, at}
use Rattle.message.specs.declared.Place.{Place}
use Rattle.words.specs.Lists.{tabulate}
use Rattle.words.specs.First.{any, lowest}
use Rattle.places.specs.Place.{odd, end_of, shares_bit, size_of}
use Rattle.maps.specs.Maps.{Map, Nothing, Conflict, Held}

-- ---- what the judge sees of a map

-- a parameter; its width is 0 where the dictionary does not have its SPN
pub record Param : Type 0 where
  pub spn : ℕ
  pub start : ℕ
  pub width : ℕ

-- "The width of a parameter comes from a constant dictionary"
abbrev pub with_width : (ℕ → ℕ) → Option Place → Option Param
with_width width_of none = none
with_width width_of (some x) = some (record { spn = x.spn; start = x.start; width = width_of x.spn })

-- what stands at each position, with the widths of a dictionary
abbrev pub measured : (ℕ → ℕ) → (ℕ → Option Place) → ℕ → Option Param
measured width_of places p = with_width width_of (places p)

abbrev pub is_none : Option Param → Bool
is_none none = true
is_none (some x) = false

-- the numbers of a parameter; where it is missing they are 0, and judgement 2 comes before any rule that asks for them
abbrev pub spn_in : Option Param → ℕ
spn_in none = 0
spn_in (some x) = x.spn

abbrev pub start_in : Option Param → ℕ
start_in none = 0
start_in (some x) = x.start

abbrev pub width_in : Option Param → ℕ
width_in none = 0
width_in (some x) = x.width

-- the same by index
abbrev pub spn_at : (ℕ → Option Param) → ℕ → ℕ
spn_at ps i = spn_in (ps (suc i))

abbrev pub start_at : (ℕ → Option Param) → ℕ → ℕ
start_at ps i = start_in (ps (suc i))

abbrev pub width_at : (ℕ → Option Param) → ℕ → ℕ
width_at ps i = width_in (ps (suc i))

-- ---- the rules, each of one position, by its index

-- "2 a position from 1 to n is missing"
abbrev pub missing : (ℕ → Option Param) → ℕ → Bool
missing ps i = is_none (ps (suc i))

-- "3 its SPN is not in the dictionary"
abbrev pub unknown : (ℕ → ℕ) → ℕ → Bool
unknown width i = eqb (width i) 0

-- "4 its SPN stands at a lower position too"
abbrev pub repeated : (ℕ → ℕ) → ℕ → Bool
repeated spn i = any (λ j. eqb (spn j) (spn i)) i

-- "5 its start is not above the start one position before"
unfoldable pub not_above : (ℕ → ℕ) → ℕ → Bool
not_above start zero = false
not_above start (suc i) = leb (start (suc i)) (start i)

-- 02, Req 04: "judgement 9, start not a multiple of 8": of an odd width, which "starts at a multiple of 8"
abbrev pub uneven : (ℕ → ℕ) → (ℕ → ℕ) → ℕ → Bool
uneven start width i = odd (width i) && not (eqb (start i % 8) 0)

-- "6 it shares a bit with an earlier one"
abbrev pub overlaps : (ℕ → ℕ) → (ℕ → ℕ) → ℕ → Bool
overlaps start width i = any (λ j. shares_bit (start j) (width j) (start i) (width i)) i

-- "7 start + width above 14,280": the end stands for start + width
abbrev pub beyond : (ℕ → ℕ) → (ℕ → ℕ) → ℕ → Bool
beyond start width i = ltb 14280 (end_of (start i) (width i))

-- "8 transport flag is yes with a payload of 8 bytes, or no with a longer one"
abbrev pub wrong_transport : Bool → ℕ → Bool
wrong_transport transport bytes = cond transport (eqb bytes 8) (ltb 8 bytes)

-- ---- the judgement

-- "with its lowest position": 2 to 7 in order, 9 "tested after 5 and before 6", each with the lowest of the positions 1 to n that it applies to, or 0
abbrev pub rules : ℕ → (ℕ → Option Param) → List Judged
rules n ps =
    at 2 (lowest (missing ps) n)
    ∷ at 3 (lowest (unknown (width_at ps)) n)
    ∷ at 4 (lowest (repeated (spn_at ps)) n)
    ∷ at 5 (lowest (not_above (start_at ps)) n)
    ∷ at 9 (lowest (uneven (start_at ps) (width_at ps)) n)
    ∷ at 6 (lowest (overlaps (start_at ps) (width_at ps)) n)
    ∷ at 7 (lowest (beyond (start_at ps) (width_at ps)) n)
    ∷ []

-- "The judgement is the first of these that applies": the first that names a position, and `last` where none does
unfoldable pub first_named : List Judged → Judged → Judged
first_named [] last = last
first_named (r ∷ rs) last = cond (eqb r.position 0) (first_named rs last) r

-- 01's L: by the definition of `places`, from the starts and widths of the positions 1 to n
abbrev pub size_over : ℕ → (ℕ → Option Param) → ℕ
size_over n ps = size_of (tabulate (start_at ps) n) (tabulate (width_at ps) n)

-- the judgement of n parameters and a transport flag, where nothing is in conflict
unfoldable pub judge_over : ℕ → Bool → (ℕ → Option Param) → Judged
judge_over n transport ps = first_named (rules n ps) (at (cond (wrong_transport transport (size_over n ps)) 8 0) 0)

-- ---- of a map

-- "1 in conflict (position 0)". A key that is not held is not judged (answer 11): the first line only gives the definition a value
abbrev pub judge : (ℕ → ℕ) → Map → Judged
judge width_of Nothing = at 0 0
judge width_of Conflict = at 1 0
judge width_of (Held h places) = judge_over h.n h.transport (measured width_of places)

-- "0 usable": a map that is held and has judgement 0
abbrev pub usable : (ℕ → ℕ) → Map → Bool
usable width_of Nothing = false
usable width_of Conflict = false
usable width_of (Held h places) = eqb (judge width_of (Held h places)).number 0

-- the number of parameters
abbrev pub count_of : Map → ℕ
count_of Nothing = 0
count_of Conflict = 0
count_of (Held h places) = h.n

-- the transport flag
abbrev pub transport_of : Map → Bool
transport_of Nothing = false
transport_of Conflict = false
transport_of (Held h places) = h.transport

-- what stands at each position
abbrev pub places_of : Map → ℕ → Option Place
places_of Nothing p = none
places_of Conflict p = none
places_of (Held h places) p = places p

-- the same with the widths of a dictionary
abbrev pub params_of : (ℕ → ℕ) → Map → ℕ → Option Param
params_of width_of Nothing p = none
params_of width_of Conflict p = none
params_of width_of (Held h places) p = measured width_of places p

-- the SPNs, starts and widths of the positions 1 to n
abbrev pub spns_of : (ℕ → ℕ) → Map → List ℕ
spns_of width_of m = tabulate (spn_at (params_of width_of m)) (count_of m)

abbrev pub starts_of : (ℕ → ℕ) → Map → List ℕ
starts_of width_of m = tabulate (start_at (params_of width_of m)) (count_of m)

abbrev pub widths_of : (ℕ → ℕ) → Map → List ℕ
widths_of width_of m = tabulate (width_at (params_of width_of m)) (count_of m)

-- "The payload has L bytes"
abbrev pub length_of : (ℕ → ℕ) → Map → ℕ
length_of width_of m = size_of (starts_of width_of m) (widths_of width_of m)

-- ---- of plain slices

-- the width that says "nothing stands here"; a dictionary gives at most 32
abbrev pub mark : ℕ
mark = 0xffff_ffff

-- what a slice has at an index, 0 past its end
abbrev pub number_at : List ℕ → ℕ → ℕ
number_at l i = get_or l i 0

-- how many positions all three slices have
abbrev pub shortest : List ℕ → List ℕ → List ℕ → ℕ
shortest spns starts widths = min (length spns) (min (length starts) (length widths))

-- nothing stands at an index: a slice ends before it, or the widths have the mark there
abbrev pub marked : ℕ → List ℕ → ℕ → Bool
marked long widths i = leb long i || eqb (number_at widths i) mark

-- what slices of SPNs, starts and widths say of each position
abbrev pub in_slices : List ℕ → List ℕ → List ℕ → ℕ → Option Param
in_slices spns starts widths zero = none
in_slices spns starts widths (suc i) =
    cond (marked (shortest spns starts widths) widths i) none (some (record { spn = number_at spns i; start = number_at starts i; width = number_at widths i }))

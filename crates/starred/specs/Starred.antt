-- 01's starred examples and the two that 02 asks for (Req 04, 19 bits), one table, and what it is for a case to hold. It is about the definitions that the promises cite, and with the
-- dictionary of 002.
-- Assumes nothing.
use Rattle.std.specs.Prelude.{ℕ, suc, Bool, true, false, ◌&&◌, List, [], ◌∷◌, eqb, length}
use Rattle.answers.specs.Answers.{Judged, at}
use Rattle.frame.specs.declared.Three.{Three}
use Rattle.frame.specs.Frame.{fields_of, pgn_of, destination_of, spn_bytes, spn_of}
use Rattle.message.specs.declared.Place.{Place}
use Rattle.message.specs.declared.Message.{Message}
use Rattle.dictionary.specs.Dictionary.{width_of}
use Rattle.payload.specs.Payload.{packed, read_all}
use Rattle.maps.specs.Maps.{Map, map_of}
use Rattle.judge.specs.Judge.{judge, usable, starts_of, widths_of, length_of}

infix 70 ◌from◌
-- ---- maps, as 01 tells them: each parameter with its start, in position order

abbrev pub ◌from◌ : ℕ → ℕ → Place
spn from start = record { spn = spn; start = start }

-- the messages of n parameters, the first at position p
abbrev pub messages : ℕ → Bool → ℕ → List Place → List Message
messages n transport p [] = []
messages n transport p (x ∷ xs) =
    record {
      key = record { source = 38; destination = 39; k = 1 };
      head = record { n = n; proprietary = false; transport = transport };
      position = p;
      place = x;
    }
    ∷ messages n transport (suc p) xs

-- the map that those messages teach; "Transport is no unless said"
abbrev pub map_with : Bool → List Place → Map
map_with transport xs = map_of (messages (length xs) transport 1 xs)

-- ---- cases

pub data Case : Type 0 where
  -- an SPN's width
  Wide : ℕ → ℕ → Case
  -- a map, numbers for it, and its payload
  Packs : Map → List ℕ → List ℕ → Case
  -- a map, and its judgement
  Judges : Map → ℕ → ℕ → Case
  -- a usable map, and its L
  Lasts : Map → ℕ → Case
  -- an identifier, and its PGN
  Carries : ℕ → ℕ → Case
  -- an identifier, and its PGN, destination and source
  Sent : ℕ → ℕ → ℕ → ℕ → Case
  -- an SPN, and its three bytes with reserved bits 1
  Spelt : ℕ → Three → Case

abbrev pub three : ℕ → ℕ → ℕ → Three
three a b c = record { first = a; second = b; third = c }

unfoldable pub starred : List Case
starred =
    Wide 1517 8
    ∷ Wide 1519 2
    ∷ Packs (map_with false (1517 from 0 ∷ 1519 from 8 ∷ [])) (40 ∷ 1 ∷ []) (0x28 ∷ 0xfd ∷ 0xff ∷ 0xff ∷ 0xff ∷ 0xff ∷ 0xff ∷ 0xff ∷ [])
    ∷ Packs (map_with false (1519 from 0 ∷ 1517 from 4 ∷ [])) (2 ∷ 0xa5 ∷ []) (0x5e ∷ 0xfa ∷ 0xff ∷ 0xff ∷ 0xff ∷ 0xff ∷ 0xff ∷ 0xff ∷ [])
    ∷ Judges (map_with false (1517 from 0 ∷ 1519 from 7 ∷ [])) 6 2
    ∷ Judges (map_with false (1517 from 0 ∷ 1519 from 8 ∷ [])) 0 0
    ∷ Lasts (map_with false (1519 from 62 ∷ [])) 8
    ∷ Judges (map_with false (1519 from 63 ∷ [])) 8 0
    ∷ Lasts (map_with true (1519 from 63 ∷ [])) 9
    ∷ Lasts (map_with true (1517 from 14272 ∷ [])) 1785
    ∷ Judges (map_with true (1517 from 14273 ∷ [])) 7 1
    ∷ Packs (map_with false (3147 from 8 ∷ 1519 from 24 ∷ [])) (0x54321 ∷ 2 ∷ []) (0xff ∷ 0x21 ∷ 0x43 ∷ 0xbe ∷ 0xff ∷ 0xff ∷ 0xff ∷ 0xff ∷ [])
    ∷ Judges (map_with false (1519 from 0 ∷ 3147 from 4 ∷ [])) 9 2
    ∷ Carries 0x18fee300 65251
    ∷ Sent 0x18ed20f8 60672 32 248
    ∷ Spelt 1517 (three 0xed 0x05 0x1f)
    ∷ Spelt 65536 (three 0x00 0x00 0x3f)
    ∷ []

-- ---- what it is for a case to hold

abbrev pub same_numbers : List ℕ → List ℕ → Bool
same_numbers [] [] = true
same_numbers [] (y ∷ ys) = false
same_numbers (x ∷ xs) [] = false
same_numbers (x ∷ xs) (y ∷ ys) = eqb x y && same_numbers xs ys

abbrev pub same_judged : Judged → Judged → Bool
same_judged i j = eqb i.number j.number && eqb i.position j.position

abbrev pub same_three : Three → Three → Bool
same_three a b = eqb a.first b.first && (eqb a.second b.second && eqb a.third b.third)

-- the payload of a map's numbers, and the numbers that are read from it
abbrev pub payload_for : Map → List ℕ → List ℕ
payload_for m numbers = packed (starts_of width_of m) (widths_of width_of m) numbers

abbrev pub numbers_from : Map → List ℕ → List ℕ
numbers_from m payload = read_all (starts_of width_of m) (widths_of width_of m) payload

unfoldable pub right : Case → Bool
right (Wide spn width) = eqb (width_of spn) width
right (Packs m numbers payload) =
    usable width_of m && (same_numbers (payload_for m numbers) payload && same_numbers (numbers_from m payload) numbers)
right (Judges m number position) = same_judged (judge width_of m) (at number position)
right (Lasts m bytes) = usable width_of m && eqb (length_of width_of m) bytes
right (Carries id pgn) = eqb (pgn_of (fields_of id)) pgn
right (Sent id pgn destination source) =
    eqb (pgn_of (fields_of id)) pgn && (eqb (destination_of (fields_of id)) destination && eqb (fields_of id).source source)
right (Spelt spn b) = same_three (spn_bytes spn 0x1f) b && eqb (spn_of b) spn

abbrev pub every : List Case → Bool
every [] = true
every (c ∷ cs) = right c && every cs

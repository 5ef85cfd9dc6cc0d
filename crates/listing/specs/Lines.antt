-- What a listing is made of (01, "The listing program"): its lines, each ended by a newline, as pieces of text that follow each other. "All numbers are
-- decimal."
-- Assumes nothing.
use Rattle.std.specs.Prelude.{ℕ}
use mathlib.Core.List.{List, ◌∷◌, ◌++◌, flat_map}
use Rattle.answers.specs.Answers.{Judged}
use Rattle.text.specs.Text.{spelt, decimal_then}
use Rattle.dictionary.specs.Dictionary.{width_by}
use Rattle.message.specs.declared.Key.{Key}
use Rattle.maps.specs.Maps.{Map}
use Rattle.judge.specs.Judge.{count_of, judge}
use Rattle.feeding.specs.declared.Counts.{Counts}

abbrev pub header : List ℕ
header = spelt "SRC DST MSG N JUDGED AT\n"

-- the line of a key: source, destination and k, the number of parameters, the judgement and its position
abbrev pub line_of : Key → ℕ → Judged → List (List ℕ)
line_of k n j =
    decimal_then k.source " " ++ (decimal_then k.destination " " ++ (decimal_then k.k " " ++ (decimal_then n " " ++ (decimal_then j.number " " ++ decimal_then j.position "\n"))))

-- by what is known of the key, its edition and its map: "N is 0 for a key in conflict"
unfoldable pub key_line : Key → ℕ → Map → List (List ℕ)
key_line k edition m = line_of k (count_of m) (judge (width_by edition) m)

unfoldable pub last_line : Counts → ℕ → List (List ℕ)
last_line c left =
    spelt "RECORDS " ∷ (decimal_then c.records " REFUSED " ++ (decimal_then c.refused " OTHER " ++ (decimal_then c.other " LEFT " ++ decimal_then left "\n")))

-- the lines of some keys, by what is known of each
abbrev pub key_lines : (Key → ℕ) → (Key → Map) → List Key → List (List ℕ)
key_lines edition look ks = flat_map (λ k. key_line k (edition k) (look k)) ks

-- the whole listing
unfoldable pub listing_with : (Key → ℕ) → (Key → Map) → List Key → Counts → ℕ → List (List ℕ)
listing_with edition look ks c left = header ∷ (key_lines edition look ks ++ last_line c left)

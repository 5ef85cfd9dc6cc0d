-- Where the counters of the pairs stand in the words that the caller lends: six words for each pair, in the order in which 02 names them. Total on any words.
-- Assumes nothing.
use Rattle.std.specs.Prelude.{ℕ, ◌/◌, cond, List, [], ◌∷◌, length, nat_lt, slice_index}
use Rattle.words.specs.Rows.{row_at, put_at}
use Rattle.counters.specs.declared.Counters.{Counters}
use Rattle.counters.specs.declared.Fate.{Fate}
use Rattle.counters.specs.Count.{with_fate}

-- the words of a pair
abbrev pub pair_words : ℕ
pair_words = 6

abbrev pub no_counters : Counters
no_counters = record { arrived = 0; filtered = 0; queued = 0; sent = 0; turned = 0; refused = 0 }

abbrev pub counters_in : List ℕ → Counters
counters_in r = record { arrived = slice_index r 0; filtered = slice_index r 1; queued = slice_index r 2; sent = slice_index r 3; turned = slice_index r 4; refused = slice_index r 5 }

abbrev pub words_of : Counters → List ℕ
words_of c = c.arrived ∷ c.filtered ∷ c.queued ∷ c.sent ∷ c.turned ∷ c.refused ∷ []

-- the counters of the pair with number i, all 0 where no row has that number
unfoldable pub counters_at : List ℕ → ℕ → Counters
counters_at w i = cond (nat_lt i (length w / pair_words)) (counters_in (row_at pair_words w i)) no_counters

-- what became of a frame at that pair, counted in its row, while all other words stay; no word changes where no row has that number
unfoldable pub noted_at : List ℕ → ℕ → Fate → List ℕ
noted_at w i f = cond (nat_lt i (length w / pair_words)) (put_at pair_words w i (words_of (with_fate (counters_in (row_at pair_words w i)) f))) w

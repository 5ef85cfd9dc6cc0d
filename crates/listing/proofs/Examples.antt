-- 01's own listings, computed by the definition: the two records that teach case A, and an empty log. Assumes nothing.
use Prim.Native.Nat.{ℕ}
use mathlib.Core.Path.{◌≡◌, refl}
use mathlib.Core.List.{List, [], ◌∷◌, flatten, flat_map}
use Rattle.text.specs.Text.{spelt, decimal_of, decimal_to}
use Rattle.dictionary.specs.Dictionary.{width_by, width_in}
use Rattle.rowrule.specs.Rows.{table}
use Rattle.message.specs.Message.{heard}
use Rattle.places.specs.Place.{odd, skipped, meet, place, end_of, shares_bit, end_to, bytes_for, size_of}
use Rattle.words.specs.Lists.{tabulate}
use Rattle.words.specs.First.{first, any, lowest}
use Rattle.maps.specs.Maps.{same_key, same_head, same_place, contradicts, conflict}
use Rattle.judge.specs.Judge.{not_above, first_named, judge_over}
use Rattle.history.specs.History.{no_room, edition_of}
use Rattle.record.specs.Record.{record_in}
use Rattle.record.specs.Sized.{whole_by, record_by, left_by, over_to_by, over_by}
use Rattle.listing.specs.Lines.{key_line, last_line, listing_with}
use Rattle.listing.specs.Listing.{tell, story_of, sorted, listing_of}

-- "For two records that teach case A"
abbrev pub case_a : List ℕ
case_a =
    38 ∷ 39 ∷ 176 ∷ 24 ∷ 8 ∷ 0 ∷ 177 ∷ 0 ∷ 237 ∷ 5 ∷ 1 ∷ 130 ∷ 1
    ∷ 38 ∷ 39 ∷ 176 ∷ 24 ∷ 8 ∷ 0 ∷ 177 ∷ 0 ∷ 239 ∷ 5 ∷ 2 ∷ 130 ∷ 9 ∷ []

pub empty_log : listing_of [] ≡ spelt "SRC DST MSG N JUDGED AT\nRECORDS 0 REFUSED 0 OTHER 0 LEFT 0\n"
unfolding listing_of story_of over_by over_to_by whole_by left_by listing_with last_line sorted flatten flat_map decimal_of decimal_to
empty_log = refl

pub two_records : listing_of case_a ≡ spelt "SRC DST MSG N JUDGED AT\n38 39 1 2 0 0\nRECORDS 2 REFUSED 0 OTHER 0 LEFT 0\n"
unfolding listing_of story_of over_by over_to_by whole_by left_by record_by record_in tell heard listing_with key_line last_line sorted flatten flat_map decimal_of decimal_to same_key same_head same_place contradicts conflict no_room edition_of width_by width_in not_above first_named judge_over lowest table first any shares_bit meet odd skipped place end_of size_of bytes_for end_to tabulate
two_records = refl

-- A small hire, computed by the definition: case A is taught, then three payloads come (40 and 1; 255 and 2; 10 and 3), the first of them also before it was taught, where it does not
-- count. Assumes nothing.
use Prim.Native.Nat.{ℕ}
use mathlib.Core.Path.{◌≡◌, refl}
use mathlib.Core.List.{List, [], ◌∷◌, ◌++◌, flat_map}
use Rattle.words.specs.Lists.{tabulate}
use Rattle.words.specs.First.{first, any, lowest}
use Rattle.rowrule.specs.Rows.{table}
use Rattle.dictionary.specs.Dictionary.{width_by, width_in}
use Rattle.places.specs.Place.{odd, skipped, meet, place, end_of, shares_bit, end_to, bytes_for, size_of}
use Rattle.bits.specs.Bits.{bit, bit_at, from_bits, read_number}
use Rattle.payload.specs.Payload.{read_all}
use Rattle.states.specs.States.{by_byte, by_two_bits, kind_of, state_by}
use Rattle.message.specs.Message.{heard}
use Rattle.maps.specs.Maps.{same_key, same_head, same_place, contradicts, conflict}
use Rattle.judge.specs.Judge.{not_above, first_named, judge_over}
use Rattle.history.specs.History.{no_room}
use Rattle.record.specs.Record.{record_in}
use Rattle.record.specs.Sized.{whole_by, record_by, over_to_by, over_by}
use Rattle.keyrow.specs.Row.{key_of}
use Rattle.ask.specs.Ask.{read_by}
use Rattle.listing.specs.Listing.{sorted}
use Rattle.tally.specs.Summary.{summary}
use Rattle.hire.specs.Payloads.{is_payload, payload_key, is_read, reading_of}
use Rattle.reported.specs.Readings.{frames_of, taught_by, read_as, readings, column}
use Rattle.reported.specs.Report.{Counted, TooMany, once_usable, lines_to, report_of}

-- a payload of the key 38, 39, 1
abbrev paid : ℕ → ℕ → List ℕ
paid a b = 38 ∷ 39 ∷ 177 ∷ 24 ∷ 8 ∷ a ∷ b ∷ 255 ∷ 255 ∷ 255 ∷ 255 ∷ 255 ∷ 255 ∷ []

abbrev pub hired : List ℕ
hired =
    paid 40 253
    ++ (38 ∷ 39 ∷ 176 ∷ 24 ∷ 8 ∷ 0 ∷ 177 ∷ 0 ∷ 237 ∷ 5 ∷ 1 ∷ 130 ∷ 1
    ∷ 38 ∷ 39 ∷ 176 ∷ 24 ∷ 8 ∷ 0 ∷ 177 ∷ 0 ∷ 239 ∷ 5 ∷ 2 ∷ 130 ∷ 9 ∷ (paid 40 253 ++ (paid 255 254 ++ paid 10 255)))

pub a_hire : report_of 3 hired
    ≡ Counted (key_of 38 39 1) 1 1517 3 (record { read = 3; valid = 2; reserved = 0; error = 0; missing = 1; least = 10; greatest = 40; sum = 50 })
    ∷ Counted (key_of 38 39 1) 2 1519 3 (record { read = 3; valid = 1; reserved = 0; error = 1; missing = 1; least = 1; greatest = 1; sum = 1 }) ∷ []
unfolding report_of frames_of taught_by read_as readings column once_usable lines_to is_payload payload_key is_read reading_of read_by read_all read_number bit bit_at from_bits by_byte by_two_bits kind_of state_by summary over_by over_to_by whole_by record_by record_in heard flat_map sorted same_key same_head same_place contradicts conflict no_room width_by width_in not_above first_named judge_over lowest table first any shares_bit meet odd skipped place end_of size_of bytes_for end_to tabulate
a_hire = refl

-- above a limit of 2
pub too_many : report_of 2 hired ≡ TooMany (key_of 38 39 1) ∷ []
unfolding report_of frames_of taught_by read_as readings column once_usable lines_to is_payload payload_key is_read reading_of read_by read_all read_number bit bit_at from_bits by_byte by_two_bits kind_of state_by summary over_by over_to_by whole_by record_by record_in heard flat_map sorted same_key same_head same_place contradicts conflict no_room width_by width_in not_above first_named judge_over lowest table first any shares_bit meet odd skipped place end_of size_of bytes_for end_to tabulate
too_many = refl

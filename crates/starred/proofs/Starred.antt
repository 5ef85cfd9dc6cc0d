-- Every starred example of 01 and 02 holds of the definitions, by computing. Assumes nothing.
use mathlib.Core.Path.{◌≡◌, refl}
use mathlib.Core.Bool.{true}
use Rattle.rowrule.specs.Rows.{table}
use Rattle.dictionary.specs.Dictionary.{width_in, width_of}
use Rattle.bits.specs.Bits.{bit, bit_at, from_bits, bytes_with, bit_after, read_number}
use Rattle.places.specs.Place.{odd, skipped, meet, place, end_of, shares_bit, end_to, bytes_for, size_of}
use Rattle.words.specs.Lists.{tabulate}
use Rattle.words.specs.First.{first, any, lowest}
use Rattle.payload.specs.Payload.{bit_after_all, packed, read_all}
use Rattle.maps.specs.Maps.{same_head, same_place, contradicts, conflict}
use Rattle.judge.specs.Judge.{not_above, first_named, judge_over}
use Rattle.starred.specs.Starred.{starred, right, every}

pub starred_hold : every starred ≡ true
unfolding starred right table width_in width_of bit bit_at from_bits tabulate bytes_with bit_after first any meet lowest odd skipped place end_of shares_bit end_to bytes_for size_of bit_after_all packed read_number read_all same_head same_place contradicts conflict not_above first_named judge_over
starred_hold = refl

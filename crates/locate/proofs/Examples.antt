-- 01's case A, asked for its second parameter, computed by the definition: the record that answers is the one that taught it, byte for byte. Assumes nothing.
use Prim.Native.Nat.{ℕ}
use mathlib.Core.Path.{◌≡◌, refl}
use mathlib.Core.Bool.{true, false}
use mathlib.Core.List.{List, [], ◌∷◌, flatten}
use Rattle.dictionary.specs.Dictionary.{width_of, width_in}
use Rattle.rowrule.specs.Rows.{table}
use Rattle.message.specs.declared.Key.{Key}
use Rattle.message.specs.declared.Message.{Message}
use Rattle.places.specs.Place.{odd, skipped, meet, place, end_of, shares_bit, end_to, bytes_for, size_of}
use Rattle.words.specs.Lists.{tabulate}
use Rattle.words.specs.First.{first, any, lowest}
use Rattle.maps.specs.Maps.{same_key, same_head, same_place, contradicts, conflict, map_of}
use Rattle.judge.specs.Judge.{not_above, first_named, judge_over}
use Rattle.ask.specs.Ask.{position_of}
use Rattle.record.specs.Record.{bytes_of}
use Rattle.written.specs.Written.{id_of, five_of, with_key, record_of, log_of}
use Rattle.locate.specs.Locate.{placement, messages_of}

abbrev key : Key
key = record { source = 38; destination = 39; k = 1 }

-- the message of one position of two
abbrev says : ℕ → ℕ → ℕ → Message
says position spn start = record { key = key; head = record { n = 2; proprietary = true; transport = false }; position = position; place = record { spn = spn; start = start } }

-- "A: 1517 at 0, 1519 at 8"
abbrev case_a : List Message
case_a = says 1 1517 0 ∷ says 2 1519 8 ∷ []

pub second_of_two : log_of (messages_of (λ k. width_of) (λ k. map_of case_a) 38 1519 (key ∷ [])) ≡ 38 ∷ 39 ∷ 176 ∷ 24 ∷ 8 ∷ 0 ∷ 177 ∷ 0 ∷ 239 ∷ 5 ∷ 2 ∷ 130 ∷ 9 ∷ []
unfolding placement position_of record_of bytes_of id_of five_of with_key flatten same_key same_head same_place contradicts conflict width_of width_in not_above first_named judge_over lowest table first any shares_bit meet odd skipped place end_of size_of bytes_for end_to tabulate
second_of_two = refl

-- an SPN that the map does not have, and the keys of another address: nothing
pub not_there : log_of (messages_of (λ k. width_of) (λ k. map_of case_a) 38 1520 (key ∷ [])) ≡ []
unfolding placement position_of record_of bytes_of id_of five_of with_key flatten same_key same_head same_place contradicts conflict width_of width_in not_above first_named judge_over lowest table first any shares_bit meet odd skipped place end_of size_of bytes_for end_to tabulate
not_there = refl

pub not_ours : log_of (messages_of (λ k. width_of) (λ k. map_of case_a) 39 1519 (key ∷ [])) ≡ []
unfolding flatten
not_ours = refl

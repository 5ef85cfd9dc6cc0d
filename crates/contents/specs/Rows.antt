-- The code's struct of a row in 01's numbers. Assumes nothing.
use Rattle.answers.specs.Answers.{Said, in_numbers}
use Rattle.keyrow.specs.Row.{key_of}
use Rattle.image.specs.Part.{Entry}
use Rattle.contents.specs.declared.Listed.{Listed}

abbrev pub entry_in : Listed → Entry
entry_in r = record { answer = in_numbers r.answer; key = r.key; offset = r.offset; size = r.size; edition = r.edition }

-- a refusal: all 0
abbrev pub no_entry : Said → Entry
no_entry a = record { answer = a; key = key_of 0 0 0; offset = 0; size = 0; edition = 0 }

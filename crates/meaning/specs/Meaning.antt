-- What a number of an SPN means (02, Req 05): "The dictionary lookup shall give width, resolution, offset and kind", and "Scaled whole numbers, in the unit and step listed
-- in docs/, keep their sign where the offset is negative".
-- Assumes nothing.
use Rattle.std.specs.Prelude.{ℕ, ◌*◌, cond, eqb, ℤ, pos, neg_ℤ, ◌+ℤ◌}
use Rattle.std.proofs.Math.Option.{Option, none, some}
use Rattle.dictionary.specs.Dictionary.{width_of, number_of}
use Rattle.slots.specs.declared.Slot.{Slot}
use Rattle.slots.specs.Slots.{slot, slot_at}
use Rattle.states.specs.States.{kind_of, state_of}
use Rattle.meaning.specs.declared.Meaning.{Meaning}
use Rattle.meaning.specs.declared.Scaled.{Scaled}

-- the slot of the row that a look-up found, zeros where it found none
abbrev pub slot_in : Option ℕ → Slot
slot_in none = slot 0 0
slot_in (some i) = slot_at i

-- of an SPN
unfoldable pub slot_of : ℕ → Slot
slot_of spn = slot_in (number_of spn)

-- what a look-up gives: all 0, and the kind 0, where the dictionary does not have the SPN
unfoldable pub meaning_of : ℕ → Meaning
meaning_of spn = record {
  width = width_of spn;
  resolution = (slot_of spn).resolution;
  offset = neg_ℤ (pos (slot_of spn).below);
  kind = kind_of (width_of spn);
}

-- number * resolution + offset
abbrev pub scale : Meaning → ℕ → ℤ
scale m number = pos (number * m.resolution) +ℤ m.offset

-- a number of an SPN with its state: scaled where it is valid, 0 where it is not
unfoldable pub scaled_of : ℕ → ℕ → Scaled
scaled_of spn number = record {
  value = cond (eqb (state_of (width_of spn) number) 0) (scale (meaning_of spn) number) (pos 0);
  kind = kind_of (width_of spn);
  state = state_of (width_of spn) number;
}

-- What is counted of a trace: its records, and what they were. Assumes nothing.
use Rattle.std.specs.Prelude.{ℕ, cond, eqb}
use Rattle.counters.specs.Count.{more}
use Rattle.replaying.specs.declared.Counts.{Counts}

-- nothing counted yet
abbrev pub no_counts : Counts
no_counts = record { events = 0; frames = 0; slots = 0; commands = 0; refused = 0; other = 0 }

-- one record more: a frame, a slot, a command that was answered with this number, none of these
abbrev pub with_frame : Counts → Counts
with_frame k = record { events = more k.events; frames = more k.frames; slots = k.slots; commands = k.commands; refused = k.refused; other = k.other }

abbrev pub with_slot : Counts → Counts
with_slot k = record { events = more k.events; frames = k.frames; slots = more k.slots; commands = k.commands; refused = k.refused; other = k.other }

abbrev pub with_command : Counts → ℕ → Counts
with_command k number = record {
  events = more k.events;
  frames = k.frames;
  slots = k.slots;
  commands = more k.commands;
  refused = cond (eqb number 0) k.refused (more k.refused);
  other = k.other;
}

abbrev pub with_other : Counts → Counts
with_other k = record { events = more k.events; frames = k.frames; slots = k.slots; commands = k.commands; refused = k.refused; other = more k.other }

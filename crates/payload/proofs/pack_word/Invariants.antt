use mathlib.Core.Path.{◌≡◌}
use Rattle.words.proofs.Lowest.{None}
use Rattle.payload.proofs.OneWord.{stops, word_to}
use Rattle.payload.proofs.pack_word.Given as goal

abbrev pub invariant-loop-i : goal.invariant-loop-i
invariant-loop-i l = (l.word ≡ word_to l.starts l.widths l.numbers l.i) × None (stops l.starts l.widths l.numbers) l.i

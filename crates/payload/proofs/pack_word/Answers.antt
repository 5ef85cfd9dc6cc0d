-- `pack_word`: every parameter passed lies in eight bytes and its number fits, and the numbers of the first i are laid. Assumes nothing.
use mathlib.Core.Path.{◌≡◌, refl, sym, ◌∙◌}
use mathlib.Core.Bool.{false, not}
use native.Mathlib.Omega.{arith}
use borrow.Author.Count.{below_none}
use borrow.Author.Tests.{not-false}
use Rattle.words.proofs.Lowest.{turn, neither}
use Rattle.bits.specs.Bits.{from_bits}
use Rattle.single.proofs.Cutting.{there}
use Rattle.payload.specs.Payload.{bit_after_all}
use Rattle.payload.proofs.OneWord.{stops, word_turn, word-packed}
use Rattle.payload.proofs.pack_word.Goals as goal

pub loop-i-init : goal.loop-i-init
unfolding from_bits bit_after_all
loop-i-init c = (refl, below_none _)

pub loop-i-preserved : goal.loop-i-preserved
loop-i-preserved c =
    let a = c.args in
    let passed : stops a.starts.now a.widths.now a.numbers.now c.loop-i.i ≡ false =
    let (f, g) = neither (not c.lies.result) _ c.if-lies-needs_more.false in
    let y = sym c.lies.ensures ∙ not-false _ f in
    rw y (sym (c.needs_more.ensures (there _ _ y).1) ∙ g)
    in (
      word_turn a.starts.now a.widths.now a.numbers.now c.loop-i.i c.loop-i.word _ passed c.loop-i.invariant.0 c.with_number-word.ensures,
      turn _ c.loop-i.i _ c.loop-i.invariant.1 refl passed,
    )

pub returns : goal.returns
returns c = word-packed c.args.starts.now c.args.widths.now c.args.numbers.now c.loop-i.i c.loop-i.word (omega arith) c.requires.0 c.requires.2 c.loop-i.invariant.1 c.loop-i.invariant.0

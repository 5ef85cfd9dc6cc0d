-- `pack`: what is packed as one number is what packing makes. Assumes nothing.
use mathlib.Core.Path.{◌≡◌, ◌∙◌}
use mathlib.Core.Bool.{true}
use Prim.Native.Nat.{◌≤◌}
use lib.ListN.{length}
use Rattle.payload.proofs.OneWord.{tried, short-packed, le_bytes}
use Rattle.payload.proofs.pack.Goals as goal

pub returns-in-Some : goal.returns-in-Some
returns-in-Some c =
    let a = c.args in
    let r : (length a.numbers.now ≡ length a.starts.now) × (8 ≤ length a.out.now) × (c.may_be_short.result ≡ true) = tried _ _ _ _ _ c.if-numbers-starts.true in
    let p = c.in-Some.ensures in
    short-packed a.starts.now a.widths.now a.numbers.now a.out.now _ p.0 p.1 p.2 r.0 r.1
    (c.copy_from_slice.ensures.after ∙ c.to_le_bytes.ensures ∙ le_bytes c.in-Some.word ∙ p.3)

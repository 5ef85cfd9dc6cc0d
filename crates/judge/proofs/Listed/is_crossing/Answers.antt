-- `is_crossing`: what starts at or after the largest end of the earlier ones is above the start before and shares no bit with them; what starts at or after the ends of those before the last
-- shares no bit with these. Assumes nothing.
use Prim.Native.Nat.{◌-◌}
use mathlib.Core.Path.{sym, ap₂, ◌∙◌}
use mathlib.Core.Bool.{◌||◌}
use native.Mathlib.Omega.{arith}
use mathlib.Core.Path.{◌≡◌}
use Prim.Native.Nat.{◌-◌}
use Rattle.places.specs.Place.{shares_bit}
use Rattle.judge.specs.Judge.{number_at}
use Rattle.judge.proofs.Clear.{not-crossing, not_first, last_alone}
use Rattle.judge.proofs.Listed.is_crossing.Goals as goal

pub returns-then-end-start : goal.returns-then-end-start
returns-then-end-start c =
    let m = c.args.self in
    sym (not-crossing m.starts.now m.widths.now c.args.i c.requires.3 (omega (arith, c.requires.2, c.number_at-start.ensures, c.if-end-start.true)))

-- what starts below that end is not the first
pub overflow_sub-j : goal.overflow_sub-j
overflow_sub-j c =
    let m = c.args.self in
    let later = not_first m.starts.now m.widths.now c.args.i (omega (arith, c.requires.2, c.if-end-start.false)) in
    omega (arith, later)

pub returns-then-before-start : goal.returns-then-before-start
returns-then-before-start c =
    let m = c.args.self in
    let later = not_first m.starts.now m.widths.now c.args.i (omega (arith, c.requires.2, c.if-end-start.false)) in
    let shared : c.shares.result ≡ shares_bit (number_at m.starts.now (c.args.i - 1)) (number_at m.widths.now (c.args.i - 1)) (number_at m.starts.now c.args.i) (number_at m.widths.now c.args.i) = cc in
    ap₂ ◌||◌ c.is_not_above.ensures
    (shared ∙ sym (last_alone m.starts.now m.widths.now (c.args.i - 1) c.args.i (omega (arith, later)) (omega (arith, c.requires.1, c.number_at-start.ensures, c.if-before-start.true))))

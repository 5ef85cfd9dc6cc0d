-- `less`: both numbers and their difference fit 64 bits with a sign, so nothing is lost on the way. Assumes nothing.
use Prim.Native.Nat.{ℕ, ◌^◌, ◌≤◌}
use mathlib.Core.Path.{◌≡◌}
use native.Mathlib.Omega.{arith}
use lib.IntN.{pos, ◌-ℤ◌}
use mir.Syntax.{w64}
use mir.Val.{SFits, to_z}
use mir.ValLaws.{to_z-of_z}
use Rattle.meaning.proofs.Scaling.{less_fits}
use Rattle.meaning.proofs.less.Goals as goal

-- a number up to 2^62 is itself, read with a sign
plain : (x : ℕ) → x ≤ 2 ^ 62 → to_z w64 x ≡ pos x
plain x l = to_z-of_z w64 (pos x) (record { sfits = omega (arith, l) })

fits : (x y : ℕ) → x ≤ 2 ^ 62 → y ≤ 2 ^ 62 → SFits w64 (pos x -ℤ pos y)
fits x y l m = record { sfits = less_fits x y (omega (arith, l)) (omega (arith, m)) }

pub overflow_sub-result : goal.overflow_sub-result
overflow_sub-result c =
    let a = c.args in
    rw (plain a.x c.requires.0, plain a.y c.requires.1) (fits a.x a.y c.requires.0 c.requires.1)

pub returns : goal.returns
returns c =
    let a = c.args in
    rw (plain a.x c.requires.0, plain a.y c.requires.1) (to_z-of_z w64 (pos a.x -ℤ pos a.y) (fits a.x a.y c.requires.0 c.requires.1))

-- `message::is_refused` meets its contract: one of the tests applies where the first that does has a number. Assumes nothing.
use Prim.Native.Nat.{◌*◌, ◌^◌}
use mathlib.Core.Path.{◌≡◌, refl, ap, ◌∙◌}
use mathlib.Core.Bool.{Bool, true, false, cond, not, ◌||◌}
use lib.Dec.{eqb, ltb}
use Rattle.frame.specs.Frame.{greatest_identifier, pgn_of}
use Rattle.message.proofs.is_refused.Goals as goal

one-applies : (a b c : Bool) → (a || b || c) ≡ not (eqb (cond a 1 (cond b 2 (cond c 3 0))) 0)
one-applies true b c = refl
one-applies false true c = refl
one-applies false false true = refl
one-applies false false false = refl

pub returns : goal.returns
returns c =
    let a = c.args in
    ap (λ (b : Bool). ltb greatest_identifier a.id || not b || not (eqb a.len 8)) c.is_of.ensures
    ∙ one-applies (ltb greatest_identifier a.id) (not (eqb (pgn_of a.f) (a.pf * 2 ^ 8))) (not (eqb a.len 8))

-- `save::put_bodies`: the bodies of the keys from the index on, laid after what there is, make the page that all of them make. Assumes nothing.
use mathlib.Core.Path.{refl, ap, ◌∙◌}
use mathlib.Core.List.{List}
use native.Mathlib.Numerals.{add-one}
use native.Mathlib.Omega.{arith}
use lib.ListN.{length, get_or}
use Rattle.text.specs.Page.{held}
use Rattle.message.specs.declared.Key.{Key}
use Rattle.lookup.specs.Next.{held_keys}
use Rattle.image.specs.Write.{is_saved}
use Rattle.save.proofs.Walked.{each_saved, bodies_turn, bodies_end}
use Rattle.save.proofs.put_bodies.Goals as goal

pub loop-key-init : goal.loop-key-init
loop-key-init c = (refl, refl)

pub put_body-requires : goal.put_body-requires
put_body-requires c =
    let t = c.args.t.now in
    let i = c.loop-key.key-index in
    ap (λ (ks : List Key). is_saved t (get_or ks i _)) c.requires ∙ each_saved t (held_keys t) i _ (omega (arith, ap length c.requires, c.loop-key-test.true))

pub loop-key-preserved : goal.loop-key-preserved
loop-key-preserved c =
    let l = c.loop-key in
    let e = c.put_body.ensures in
    (e.same ∙ l.invariant.0, rw add-one (bodies_turn c.args.t.now c.args.keys.now l.key-index _ c.loop-key-test.true (held l.page) _ e.holds ∙ l.invariant.1))

pub returns : goal.returns
returns c =
    let l = c.loop-key in
    record { same = l.invariant.0; holds = bodies_end c.args.t.now c.args.keys.now l.key-index (omega (arith, c.loop-key-test.false)) (held l.page) ∙ l.invariant.1 }

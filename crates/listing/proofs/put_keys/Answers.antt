-- The loop's invariant: the lines of the keys that are still to come, laid after what there is, make the page that all the lines make. Assumes nothing.
use mathlib.Core.Path.{refl, ap, ◌∙◌}
use mathlib.Core.List.{List}
use Rattle.text.specs.Text.{put_all}
use Rattle.text.specs.Page.{held}
use Rattle.message.specs.declared.Key.{Key}
use Rattle.lookup.specs.Next.{keys_left}
use Rattle.listing.proofs.Pieces.{lines, turn, stop}
use Rattle.listing.proofs.put_keys.Goals as goal

pub loop-key-init : goal.loop-key-init
loop-key-init c =
    let a = c.args in
    (refl, ap (λ (ks : List Key). put_all (held a.page.now) (lines a.t.now ks)) (ap keys_left c.into_iter-key-iterator.ensures.into_iter_gives ∙ c.keys-key-items.ensures))

pub loop-key-preserved : goal.loop-key-preserved
loop-key-preserved c =
    let i = c.loop-key.invariant in
    let e = c.put_key.ensures in
    (e.same ∙ i.0, turn c.args.t.now c.in-Some.key _ _ (held c.loop-key.page) _ c.in-Some.ensures.steps e.holds ∙ i.1)

pub returns : goal.returns
returns c =
    let i = c.loop-key.invariant in
    record { same = i.0; holds = stop c.args.t.now _ (held c.loop-key.page) c.in-None.ensures.steps.0 ∙ i.1 }

use mathlib.Core.Path.{sym, ap, ◌∙◌}
use Rattle.lookup.specs.Next.{key_found}
use Rattle.load.proofs.Loaded.{load_21, load_23, load_0}
use Rattle.load.proofs.load.Goals as goal

pub returns-in-Some : goal.returns-in-Some
returns-in-Some c =
    let a = c.args in
    load_23 a.t.now a.image.now _ _ c.plainly.ensures (sym c.check.ensures ∙ c.if-check.true) (sym c.first_key.ensures ∙ ap key_found c.in-Some.is)

pub returns-in-None : goal.returns-in-None
returns-in-None c =
    let a = c.args in
    load_0 a.t.now a.image.now _ _ c.plainly-in-None.ensures (sym c.check.ensures ∙ c.if-check.true)
    (sym c.first_key.ensures ∙ ap key_found c.in-None.is) c.feed.ensures

pub returns : goal.returns
returns c =
    let a = c.args in
    load_21 a.t.now a.image.now _ c.plainly-2.ensures (sym c.check.ensures ∙ c.if-check.false)

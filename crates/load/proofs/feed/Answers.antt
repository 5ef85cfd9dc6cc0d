-- `feed`: the frames, and in form 2 the editions. Assumes nothing.
use mathlib.Core.Path.{sym, ◌∙◌}
use Rattle.load.proofs.Fed.{old_fed, new-fed}
use Rattle.load.proofs.feed.Goals as goal

pub returns-then-form_of-ne-OLD : goal.returns-then-form_of-ne-OLD
returns-then-form_of-ne-OLD c =
    let a = c.args in
    new-fed a.t.now a.image.now (λ e. c.if-form_of-ne-OLD.true (c.form_of.ensures ∙ e)) _ _ c.hear_all.ensures c.set_editions.ensures

pub returns-else-form_of-ne-OLD : goal.returns-else-form_of-ne-OLD
returns-else-form_of-ne-OLD c =
    let a = c.args in
    old_fed a.t.now a.image.now (sym c.form_of.ensures ∙ c.if-form_of-ne-OLD.false) _ c.hear_all.ensures

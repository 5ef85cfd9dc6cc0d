-- `locate::look_all`: the messages that are told and those of the keys still to come are all. Assumes nothing.
use mathlib.Core.Path.{◌≡◌, refl, sym, ap, ◌∙◌}
use mathlib.Core.List.{List, [], ◌∷◌, ◌++◌, append_assoc, append-nil}
use native.Mathlib.Numerals.{add-one}
use native.Mathlib.Omega.{arith}
use lib.ListN.{length, take, length-set}
use lib.Seq.{length-take-le, take-suc-set}
use Rattle.open.specs.Open.{width_for}
use Rattle.message.specs.declared.Message.{Message}
use Rattle.lookup.specs.Next.{first_key, keys_left, held_keys}
use Rattle.locate.proofs.Keys.{walk_few}
use Rattle.locate.proofs.Walked.{all, answers}
use Rattle.locate.proofs.look_all.Goals as goal

pub loop-key-init : goal.loop-key-init
loop-key-init c =
    let a = c.args in
    let t = a.t.now in
    let held : keys_left c.into_iter-key-iterator.result ≡ held_keys t = ap keys_left c.into_iter-key-iterator.ensures.into_iter_gives ∙ c.keys-key-items.ensures in
    let few = walk_few 16 t (first_key t) in
    (omega (arith, few, ap length held), refl, ap (all (width_for t) t a.asked.own a.asked.spn) held)

pub loop-key-preserved-in-Some-position_told : goal.loop-key-preserved-in-Some-position_told
loop-key-preserved-in-Some-position_told c =
    let a = c.args in
    let t = a.t.now in
    let l = c.loop-key in
    let m = c.message_at.result in
    let later = keys_left c.next.new.self in
    let told = c.in-Some-position_told in
    let e = c.in-Some.ensures.steps in
    let one = ap length e in
    let more = answers (width_for t) t a.asked.own a.asked.spn c.in-Some.key _ later e told.ensures.0 told.position told.ensures.1 m c.message_at.ensures in (
      omega (arith, one, l.invariant.0),
      simp length-set l.invariant.1,
      rw (add-one, take-suc-set l.messages l.count m (omega (arith, one, l.invariant.0, l.invariant.1)))
          (append_assoc (take l.count l.messages) (m ∷ []) (all (width_for t) t a.asked.own a.asked.spn later) ∙ ap (λ (ms : List Message). take l.count l.messages ++ ms) (sym more) ∙ l.invariant.2),
    )

pub returns : goal.returns
returns c =
    let a = c.args in
    let t = a.t.now in
    let l = c.loop-key in
    let none = ap (all (width_for t) t a.asked.own a.asked.spn) c.in-None.ensures.steps.0 in
    let whole = sym (append-nil (take l.count l.messages)) ∙ ap (λ (ms : List Message). take l.count l.messages ++ ms) (sym none) ∙ l.invariant.2 in
    let few = l.invariant.0 in (
      whole,
      sym (length-take-le l.count l.messages (omega (arith, few, l.invariant.1))) ∙ ap length whole,
      omega (arith, few),
    )

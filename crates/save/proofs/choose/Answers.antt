-- `save::choose`: the keys that are chosen and those that are still to be chosen are all that are saved, and their bodies' length is counted. Assumes nothing.
use mathlib.Core.Path.{◌≡◌, refl, sym, ap, ◌∙◌}
use mathlib.Core.List.{List, [], ◌∷◌, ◌++◌, append_assoc, append-nil}
use native.Mathlib.Numerals.{add-one}
use native.Mathlib.Omega.{arith}
use lib.ListN.{length, take, length-set}
use lib.Seq.{length-take-le, take-suc-set}
use Rattle.message.specs.declared.Key.{Key}
use Rattle.lookup.specs.View.{map_in}
use Rattle.lookup.specs.Next.{first_key, keys_left, held_keys}
use Rattle.image.specs.Write.{bodies_of}
use Rattle.save.proofs.Walked.{walk_most, rest, taken, bodies_more, no_bodies}
use Rattle.save.proofs.choose.Goals as goal

pub loop-key-init : goal.loop-key-init
loop-key-init c =
    let t = c.args.t.now in
    let all : keys_left c.into_iter-key-iterator.result ≡ held_keys t = ap keys_left c.into_iter-key-iterator.ensures.into_iter_gives ∙ c.keys-key-items.ensures in
    let few = walk_most t 16 (first_key t) in
    let len = ap length all in
    let bodies = ap (λ (ks : List Key). length (bodies_of (map_in t) (rest t ks))) all in
    (omega (arith, few, len), refl, ap (rest t) all, omega arith, omega (arith, bodies))

pub loop-key-preserved-then-is_saved : goal.loop-key-preserved-then-is_saved
loop-key-preserved-then-is_saved c =
    let t = c.args.t.now in
    let l = c.loop-key in
    let later = keys_left c.next.new.self in
    let k = c.in-Some.key in
    let e = c.in-Some.ensures.steps in
    let one = ap length e in
    let more = taken t k _ later e (sym c.is_saved.ensures ∙ c.if-is_saved.true) in
    let bodies = ap (λ (ks : List Key). length (bodies_of (map_in t) ks)) more ∙ bodies_more t k (rest t later) in (
      omega (arith, one, l.invariant.0),
      simp length-set l.invariant.1,
      rw (add-one, take-suc-set l.keys l.count k (omega (arith, one, l.invariant.0, l.invariant.1)))
          (append_assoc (take l.count l.keys) (k ∷ []) (rest t later) ∙ ap (λ (ks : List Key). take l.count l.keys ++ ks) (sym more) ∙ l.invariant.2),
      omega (arith, l.invariant.3, c.body_len-bodies.ensures.1),
      omega (arith, bodies, l.invariant.4, c.body_len-bodies.ensures.0),
    )

pub returns : goal.returns
returns c =
    let t = c.args.t.now in
    let l = c.loop-key in
    let none = ap (rest t) c.in-None.ensures.steps.0 in
    let all = sym (append-nil (take l.count l.keys)) ∙ ap (λ (ks : List Key). take l.count l.keys ++ ks) (sym none) ∙ l.invariant.2 in
    let bodies = ap (λ (ks : List Key). length (bodies_of (map_in t) ks)) none ∙ no_bodies t in
    let few = l.invariant.0 in (
      all,
      sym (length-take-le l.count l.keys (omega (arith, few, l.invariant.1))) ∙ ap length all,
      omega (arith, bodies, l.invariant.4),
      omega (arith, few),
      omega (arith, few, l.invariant.3),
    )

-- `firmware::answered_in_c` meets its contract: each of the three answers as C gets it, or 15.
-- Assumes nothing.
use mathlib.Core.Path.{◌≡◌, ap, ◌∙◌}
use Rattle.answers.specs.declared.Answer.{Answer}
use Rattle.answers.specs.Answers.{Said, in_numbers, plain}
use Rattle.counters.specs.declared.Fate.{Fate}
use Rattle.bridge.specs.Bridge.{Offered, To, NoPort, answers, answers_of, answer_to}
use Rattle.firmware.specs.declared.Told.{Told}
use Rattle.firmware.specs.Told.{said_to, told_of}
use Rattle.firmware.proofs.answered_in_c.Goals as goal

-- one answer
said : (a : Answer) (r : Told) (s : Said) → r ≡ told_of a → in_numbers a ≡ s → said_to r ≡ s
said a r s p q = ap said_to p ∙ q

offered : (o : Offered) (t x y z : Told) (f g h : Fate) → o ≡ To f g h → said_to t ≡ plain 0 → said_to x ≡ answer_to f → said_to y ≡ answer_to g → said_to z ≡ answer_to h
    → answers (said_to t) (said_to x) (said_to y) (said_to z) ≡ answers_of o
offered o t x y z f g h e p q r s = rw (e, p, q, r, s)

no-port : (o : Offered) (t x : Told) → o ≡ NoPort → said_to t ≡ plain 15 → said_to x ≡ plain 0 → answers (said_to t) (said_to x) (said_to x) (said_to x) ≡ answers_of o
no-port o t x e p q = rw (e, p, q)

pub returns-in-Some : goal.returns-in-Some
returns-in-Some c =
    offered _ _ _ _ _ _ _ _ c.in-Some.is (said c.plainly.result _ _ c.in_c.ensures c.plainly.ensures) (said c.answer_to.result _ _ c.in_c-in-Some.ensures c.answer_to.ensures)
    (said c.answer_to-in-Some.result _ _ c.in_c-in-Some-2.ensures c.answer_to-in-Some.ensures) (said c.answer_to-in-Some-2.result _ _ c.in_c-in-Some-3.ensures c.answer_to-in-Some-2.ensures)

pub returns-in-None : goal.returns-in-None
returns-in-None c = no-port _ _ _ c.in-None.is (said c.plainly-in-None-2.result _ _ c.in_c-in-None.ensures c.plainly-in-None-2.ensures) (said c.plainly-in-None.result _ _ c.in_c-none.ensures c.plainly-in-None.ensures)

-- `firmware::yendrolf_bridge_offer` meets its contract: the promise of the room below, with the answers as C gets them.
-- Assumes nothing.
use mathlib.Core.Path.{◌≡◌, ap}
use Rattle.bridge.specs.Bridge.{Bridge, Offered, Offers, offers, Answers, answers_of, answering, in_answers}
use Rattle.firmware.proofs.yendrolf_bridge_offer.Goals as goal

in_c : (a : Answers) (o : Offered) (b : Bridge) (s : Offers) → a ≡ answers_of o → offers o b ≡ s → answering a b ≡ in_answers s
in_c a o b s p q = rw p (ap in_answers q)

pub returns : goal.returns
returns c = in_c _ _ _ _ c.answered_in_c.ensures c.offer.ensures

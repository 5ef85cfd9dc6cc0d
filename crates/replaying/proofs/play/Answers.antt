-- `replaying::play` meets its contract: an entry by its case. Assumes nothing.
use mathlib.Core.Path.{ap}
use Rattle.bridge.specs.Bridge.{bridge, Offers}
use Rattle.replaying.specs.Feed.{State, state}
use Rattle.replaying.proofs.Plays.{play_frame, play_slot, play_other, play_add, play_delete, play_renew}
use Rattle.replaying.proofs.play.Goals as goal

pub returns-in-Frame : goal.returns-in-Frame
returns-in-Frame c =
    let found : State = state (bridge c.args.c.now c.args.q.now) c.args.w.now c.args.k in
    play_frame (found) _ _ _ _ _ c.in-Frame.is (ap (λ (x : Offers). x.words) c.offer.ensures) c.with_frame.ensures

pub returns-in-Slot : goal.returns-in-Slot
returns-in-Slot c =
    let found : State = state (bridge c.args.c.now c.args.q.now) c.args.w.now c.args.k in
    play_slot (found) _ _ _ _ c.in-Slot.is c.let_go.ensures c.with_slot.ensures

pub returns-in-Add : goal.returns-in-Add
returns-in-Add c =
    let found : State = state (bridge c.args.c.now c.args.q.now) c.args.w.now c.args.k in
    play_add (found) _ _ _ _ _ _ _ c.with_command.ensures c.in-Add.is c.add-a.ensures

pub returns-in-Delete : goal.returns-in-Delete
returns-in-Delete c =
    let found : State = state (bridge c.args.c.now c.args.q.now) c.args.w.now c.args.k in
    play_delete (found) _ _ _ _ _ _ _ c.with_command-in-Delete.ensures c.in-Delete.is c.delete-a.ensures

pub returns-in-Renew : goal.returns-in-Renew
returns-in-Renew c =
    let found : State = state (bridge c.args.c.now c.args.q.now) c.args.w.now c.args.k in
    play_renew (found) _ _ _ _ _ _ _ c.with_command-in-Renew.ensures c.in-Renew.is c.renew-a.ensures

pub returns-in-Other : goal.returns-in-Other
returns-in-Other c =
    let found : State = state (bridge c.args.c.now c.args.q.now) c.args.w.now c.args.k in
    play_other (found) _ _ c.in-Other.is c.with_other.ensures

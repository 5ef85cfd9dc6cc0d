-- `transport::hand_out` meets its contract: the part is copied over the start of the buffer. Assumes nothing.
use Rattle.transport.proofs.Words.{front_handed}
use Rattle.transport.proofs.hand_out.Goals as goal

pub returns : goal.returns
returns c =
    let a = c.args in
    front_handed a.bytes.now c.told-bytes a.i c.requires.0 a.size c.requires.1 a.out.now c.told-out _ c.lay_over.ensures

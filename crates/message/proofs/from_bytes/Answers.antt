-- `message::from_bytes` meets its contract: the two three-byte numbers are what frame promises of them, the rest is the definition itself.
-- Assumes nothing.
use Rattle.message.proofs.from_bytes.Goals as goal

pub returns : goal.returns
returns c = simp (c.rest_of-position.ensures, c.spn_of-spn.ensures, c.number_of-pgn.ensures)

-- `firmware::key_in_c` meets its contract: by the two cases.
-- Assumes nothing.
use mathlib.Core.Path.{sym, ap}
use Rattle.lookup.specs.Next.{key_found}
use Rattle.firmware.specs.Told.{held_of}
use Rattle.firmware.proofs.key_in_c.Goals as goal

pub returns-in-Some : goal.returns-in-Some
returns-in-Some c = ap (λ n. held_of (key_found n)) (sym c.in-Some.is)

pub returns-in-None : goal.returns-in-None
returns-in-None c = ap (λ n. held_of (key_found n)) (sym c.in-None.is)

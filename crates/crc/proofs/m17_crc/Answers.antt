-- `crc::m17_crc` meets its contract. Assumes nothing.
use Rattle.crc.specs.Crc.{crc}
use Rattle.crc.proofs.m17_crc.Goals as goal

pub returns : goal.returns
unfolding crc
returns c = c.update.ensures

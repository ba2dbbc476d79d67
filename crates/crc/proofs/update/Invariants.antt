-- `crc::update` meets its contract: after i bytes the register is the CRC of the first i. Assumes nothing.
use mathlib.Core.Path.{◌≡◌}
use lib.ListN.{take}
use Rattle.crc.specs.Crc.{crc_from}
use Rattle.crc.proofs.update.Given as goal

abbrev pub invariant-loop-byte : goal.invariant-loop-byte
invariant-loop-byte l = l.r ≡ crc_from l.start (take l.byte-index l.input)

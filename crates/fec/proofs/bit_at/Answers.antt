-- `fec::bit_at` meets its contract: the bit is the byte shifted down, mod 2. Assumes nothing.
use mathlib.Core.Path.{sym}
use Rattle.bits.proofs.Back.{bit_at}
use Rattle.fec.proofs.bit_at.Goals as goal

pub returns : goal.returns
returns c = sym (bit_at c.args.bytes.now c.args.place)

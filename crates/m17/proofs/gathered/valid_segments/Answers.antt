-- `m17::gathered::valid_segments` meets its contract. Assumes nothing.
use Rattle.std.proofs.Common.{arith}
use Rattle.protocol.proofs.Gathered.{flags_le}
use Rattle.m17.proofs.gathered.valid_segments.Goals as goal

pub overflow_cast-result : goal.overflow_cast-result
overflow_cast-result c = omega (arith, flags_le c.in_ok-set.set, c.valid_segments.ensures)

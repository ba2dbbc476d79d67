-- `bits::last_byte` meets its contract: after k turns the byte is the number of the first k bits. Assumes nothing.
use mathlib.Core.Path.{◌≡◌}
use Rattle.bits.proofs.Packed.{first_bits}
use Rattle.bits.proofs.last_byte.Given as goal

abbrev pub invariant-loop-k : goal.invariant-loop-k
invariant-loop-k l = l.byte ≡ first_bits l.bits l.k

-- `bits::pack` meets its contract: after i turns i bytes are packed, and the bits from 8 i on are left. Assumes nothing.
use mathlib.Core.Path.{◌≡◌}
use Prim.Native.Nat.{ℕ, ◌*◌}
use lib.ListN.{length, drop}
use Rattle.laws.proofs.Values.{Filled}
use Rattle.bits.specs.Bits.{byte_of}
use Rattle.bits.proofs.pack.Given as goal

abbrev pub invariant-loop-byte : goal.invariant-loop-byte
invariant-loop-byte l = (l.left ≡ drop (8 * l.byte-index) l.bits) × Filled (λ (k : ℕ). byte_of (drop (8 * k) l.bits)) (length l.fn.out) 0 l.out l.byte-index

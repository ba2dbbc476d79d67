-- CRC-16, polynomial 0x5935, start 0xFFFF, no reflection, no final xor: the remainder of a long division. Assumes nothing.
use Rattle.std.specs.Prelude.{List, ℕ, ◌*◌, ◌^◌, length}
use Rattle.std.specs.Int.Bits.{bit_xor}
use Rattle.laws.specs.Division.{rem}
use Rattle.laws.specs.Value.{value_of}

-- the message with sixteen zero bits behind it, the start value added to its first sixteen bits, divided by x^16 and the terms of 0x5935
unfoldable pub crc_from : ℕ → List ℕ → ℕ
crc_from start s = rem 16 0x5935 (8 * length s) (bit_xor (start * 2 ^ (8 * length s)) (value_of s * 2 ^ 16))

unfoldable pub crc : List ℕ → ℕ
crc s = crc_from 0xFFFF s

-- what a byte in front of sixteen zero bits leaves
unfoldable pub byte_remainder : ℕ → ℕ
byte_remainder x = rem 16 0x5935 8 (x * 2 ^ 16)

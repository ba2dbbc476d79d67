-- The fields of a header. Its bytes 0 to 27 are one number, high byte first, and a field is a place in that number; bytes 28 and 29 are the CRC.
-- Assumes nothing.
use Rattle.std.specs.Prelude.{List, ◌++◌, ℕ, ◌+◌, ◌-◌, ◌*◌, ◌/◌, ◌%◌, ◌^◌, take}
use Rattle.laws.specs.Value.{value_of, in_bytes}
use Rattle.crc.specs.Crc.{crc}

-- a place: its lowest bit, and how many bits it has
pub record Place : Type 0 where
  pub low : ℕ
  pub width : ℕ

-- what stands at a place of a number
unfoldable pub bits_at : Place → ℕ → ℕ
bits_at p n = n / 2 ^ p.low % 2 ^ p.width

-- the number with v, below 2^width, at a place, all other bits kept
unfoldable pub with_bits : Place → ℕ → ℕ → ℕ
with_bits p v n = n / 2 ^ (p.low + p.width) * 2 ^ (p.low + p.width) + v * 2 ^ p.low + n % 2 ^ p.low

-- ---- the places of a header

-- the n bytes from byte a on
abbrev pub bytes_from : ℕ → ℕ → Place
bytes_from a n = record { low = 8 * (28 - (a + n)); width = 8 * n }

-- type bits, of the value of bytes 12 and 13: w of them from bit k on
abbrev pub type_bits : ℕ → ℕ → Place
type_bits k w = record { low = 112 + k; width = w }

abbrev pub destination_bytes : Place
destination_bytes = bytes_from 0 6

abbrev pub source_bytes : Place
source_bytes = bytes_from 6 6

abbrev pub type_bytes : Place
type_bytes = bytes_from 12 2

abbrev pub mode_bits : Place
mode_bits = type_bits 0 1

abbrev pub data_bits : Place
data_bits = type_bits 1 2

abbrev pub encryption_bits : Place
encryption_bits = type_bits 3 2

abbrev pub channel_bits : Place
channel_bits = type_bits 7 4

abbrev pub meta_bytes : Place
meta_bytes = bytes_from 14 14

-- ---- reading and setting

-- bytes 0 to 27 as one number
unfoldable pub fields_of : List ℕ → ℕ
fields_of s = value_of (take 28 s)

-- a header's field
unfoldable pub field : Place → List ℕ → ℕ
field p s = bits_at p (fields_of s)

-- the 28 bytes of such a number, then the two bytes of their CRC
unfoldable pub renewed : ℕ → List ℕ
renewed n = in_bytes 28 n ++ in_bytes 2 (crc (in_bytes 28 n))

-- a header with v, below 2^width, in a field, its CRC renewed
unfoldable pub set_field : Place → ℕ → List ℕ → List ℕ
set_field p v s = renewed (with_bits p v (fields_of s))

-- What reading and writing a bit answer, and the bytes that a writing leaves. Assumes nothing.
use Rattle.std.specs.Prelude.{Bool, false, not, cond, List, ℕ, ◌*◌, eqb, ltb, length, get_or, set, ⊤, Result, Ok, Err}
use Rattle.refusal.specs.declared.Refusal.{Refusal}
use Rattle.refusal.specs.declared.Refusal.TheVariants.{OutOfRange}
use Rattle.bits.specs.Bits.{bit, bits_of, bytes_of}

-- the place is one of the bytes' bits
abbrev pub within : List ℕ → ℕ → Bool
within s i = ltb i (8 * length s)

-- the bit; 2 past the bytes
abbrev pub get_of : List ℕ → ℕ → Result ℕ Refusal
get_of s i = cond (within s i) (Ok (bit (get_or (bits_of s) i false))) (Err OutOfRange)

-- done; 2 past the bytes
abbrev pub set_of : List ℕ → ℕ → Result ⊤ Refusal
set_of s i = cond (within s i) (Ok tt) (Err OutOfRange)

-- 0 clears, any other value sets
abbrev pub flag : ℕ → Bool
flag v = not (eqb v 0)

-- the bytes whose bits are those of s but for bit i; past the bytes there is no bit i, and they are those of s
unfoldable pub with_bit : List ℕ → ℕ → ℕ → List ℕ
with_bit s i v = bytes_of (length s) (set (bits_of s) i (flag v))

-- Bytes as one number, high byte first, and back. Assumes nothing.
use Rattle.std.specs.Prelude.{List, [], ◌∷◌, ℕ, zero, suc, ◌+◌, ◌*◌, ◌/◌, ◌%◌, ◌^◌, ◌<◌, length, get_or}

-- the number that the bytes are
unfoldable pub value_of : List ℕ → ℕ
value_of [] = 0
value_of (x ∷ s) = x * 256 ^ length s + value_of s

-- the n bytes of a number below 256^n
unfoldable pub in_bytes : ℕ → ℕ → List ℕ
in_bytes zero v = []
in_bytes (suc n) v = v / 256 ^ n ∷ in_bytes n (v % 256 ^ n)

-- each is a byte
abbrev pub Bytes : List ℕ → Type 0
Bytes s = (k : ℕ) → get_or s k 0 < 256

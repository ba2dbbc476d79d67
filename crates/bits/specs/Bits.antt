-- The bits of bytes, and the way back. Assumes nothing.
use Rattle.std.specs.Prelude.{Bool, true, false, List, [], ◌∷◌, ◌++◌, ℕ, zero, suc, ◌+◌, ◌*◌, ◌/◌, ◌%◌, eqb, get_or, drop}

abbrev pub odd : ℕ → Bool
odd x = eqb (x % 2) 1

-- a bit as a number
abbrev pub bit : Bool → ℕ
bit true = 1
bit false = 0

-- the eight bits of a byte, the top one first
abbrev pub eight : ℕ → List Bool
eight x = odd (x / 128) ∷ odd (x / 64) ∷ odd (x / 32) ∷ odd (x / 16) ∷ odd (x / 8) ∷ odd (x / 4) ∷ odd (x / 2) ∷ odd x ∷ []

-- bit 0 is the top bit of byte 0
unfoldable pub bits_of : List ℕ → List Bool
bits_of [] = []
bits_of (x ∷ s) = eight x ++ bits_of s

-- the byte of the first eight bits; a bit that is missing is 0
abbrev pub byte_of : List Bool → ℕ
byte_of l =
    128 * bit (get_or l 0 false) + 64 * bit (get_or l 1 false) + 32 * bit (get_or l 2 false) + 16 * bit (get_or l 3 false) + 8 * bit (get_or l 4 false)
    + 4 * bit (get_or l 5 false) + 2 * bit (get_or l 6 false) + bit (get_or l 7 false)

-- the first n bytes of a list of bits
unfoldable pub bytes_of : ℕ → List Bool → List ℕ
bytes_of zero l = []
bytes_of (suc n) l = byte_of l ∷ bytes_of n (drop 8 l)

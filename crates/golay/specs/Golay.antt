-- The extended Golay(24,12) code: its words, and what reading a word answers. Assumes nothing.
use Rattle.std.specs.Prelude.{Bool, cond, ℕ, zero, suc, ◌+◌, ◌*◌, ◌/◌, ◌%◌, ◌^◌, eqb, ltb, leb, Result, Ok, Err}
use Rattle.std.specs.Int.Bits.{bit_xor}
use Rattle.std.specs.Int.Count.{ones_in}
use Rattle.laws.specs.Division.{rem}
use Rattle.refusal.specs.declared.Refusal.{Refusal}
use Rattle.refusal.specs.declared.Refusal.TheVariants.{OutOfRange, BadGolay}

-- the remainder of data times x^11 by x^11+x^10+x^6+x^5+x^4+x^2+1
abbrev pub check : ℕ → ℕ
check d = rem 11 0x475 12 (d * 2 ^ 11)

-- data in bits 23 to 12, the remainder in bits 11 to 1, even parity in bit 0
unfoldable pub golay : ℕ → ℕ
golay d = d * 2 ^ 12 + check d * 2 + (ones_in 12 d + ones_in 11 (check d)) % 2

-- in how many of 24 places two words differ
abbrev pub apart : ℕ → ℕ → ℕ
apart a b = ones_in 24 (bit_xor a b)

-- the word is the codeword of its own data
unfoldable pub is_word : ℕ → Bool
is_word w = eqb (golay (w / 4096)) w

-- the data below n whose codeword is within three flips of w, the highest where there were more; 4 where there is none
unfoldable pub near_below : ℕ → ℕ → Result ℕ Refusal
near_below zero w = Err BadGolay
near_below (suc n) w = cond (leb (apart (golay n) w) 3) (Ok n) (near_below n w)

-- a word of 24 bits, else 4, for no codeword has more
unfoldable pub decoded_of : ℕ → Result ℕ Refusal
decoded_of w = cond (ltb w (2 ^ 24)) (near_below 4096 w) (Err BadGolay)

-- data of 12 bits, else 2
unfoldable pub encoded_of : ℕ → Result ℕ Refusal
encoded_of d = cond (ltb d 4096) (Ok (golay d)) (Err OutOfRange)

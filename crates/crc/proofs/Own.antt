-- Data followed by its own CRC, high byte first, has CRC zero. Assumes nothing.
use mathlib.Core.Path.{◌≡◌, ap, ◌∙◌}
use mathlib.Core.List.{List, [], ◌∷◌, ◌++◌}
use Prim.Native.Nat.{ℕ, zero, suc, ◌+◌, ◌*◌, ◌/◌, ◌%◌, ◌^◌, ◌<◌}
use native.Mathlib.Omega.{arith}
use lib.Dec.{lit<}
use lib.Bits.{bit_xor, xor_self}
use Rattle.laws.specs.Division.{rem}
use Rattle.laws.specs.Value.{value_of, Bytes}
use Rattle.laws.proofs.Divide.{rem_small}
use Rattle.crc.specs.Crc.{crc_from, crc}
use Rattle.crc.proofs.Parts.{crc_append, crc_from_lt}

-- two bytes, high byte first
abbrev pub two : ℕ → List ℕ
two n = n / 256 ∷ n % 256 ∷ []

bytes_two : (n : ℕ) → n < 65536 → Bytes (two n)
bytes_two n h zero = omega arith
bytes_two n h (suc zero) = omega arith
bytes_two n h (suc (suc k)) = lit< tt

-- what is divided is the CRC and itself
own : (c : ℕ) → crc_from c (two c) ≡ 0
unfolding crc_from value_of
own c =
    let e : c / 256 * 2 ^ 8 + (c % 256 * 2 ^ 0 + 0) ≡ c = omega arith in
    ap (λ (n : ℕ). rem 16 0x5935 16 (bit_xor (c * 2 ^ 16) (n * 2 ^ 16))) e ∙ ap (rem 16 0x5935 16) (xor_self (c * 2 ^ 16))
    ∙ rem_small 16 0x5935 (lit< tt) 16 0 (lit< tt)

pub crc-lt : (s : List ℕ) → Bytes s → crc s < 65536
unfolding crc
crc-lt s h = crc_from_lt 0xFFFF s (lit< tt) h

pub crc_own : (s : List ℕ) → Bytes s → crc (s ++ two (crc s)) ≡ 0
unfolding crc
crc_own s h = crc_append 0xFFFF s (two (crc_from 0xFFFF s)) (lit< tt) h (bytes_two (crc_from 0xFFFF s) (crc-lt s h)) ∙ own (crc_from 0xFFFF s)

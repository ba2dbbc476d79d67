-- Bits packed into bytes: a byte after k of its bits, and the slice that moves on by eight. Assumes nothing.
use mathlib.Core.Path.{◌≡◌, refl, ap}
use mathlib.Core.Bool.{Bool, false}
use mathlib.Core.List.{List}
use Prim.Native.Nat.{ℕ, zero, suc, ◌+◌, ◌*◌, ◌^◌, ◌<◌}
use native.Mathlib.Nat.{pow-suc, lt_of_lt_of_le}
use native.Mathlib.Omega.{arith}
use native.Mathlib.Numerals.{add-one}
use lib.Dec.{lit<}
use lib.Pow.{pow_mono}
use lib.ListN.{get_or}
use Rattle.bits.specs.Bits.{bit, byte_of}
use Rattle.bits.proofs.Back.{bit-lt}

-- the number of the first k bits
unfoldable pub first_bits : List Bool → ℕ → ℕ
first_bits l zero = 0
first_bits l (suc k) = 2 * first_bits l k + bit (get_or l k false)

pub first_none : (l : List Bool) → first_bits l 0 ≡ 0
unfolding first_bits
first_none l = refl

pub first_more : (l : List Bool) (k : ℕ) → first_bits l (k + 1) ≡ 2 * first_bits l k + bit (get_or l k false)
unfolding first_bits
first_more l k = ap (first_bits l) (add-one k)

first_pow : (l : List Bool) (k : ℕ) → first_bits l k < 2 ^ k
unfolding first_bits
first_pow l zero = lit< tt
first_pow l (suc k) = omega (arith, first_pow l k, bit-lt (get_or l k false), pow-suc 2 k)

pub first_lt : (l : List Bool) (k : ℕ) → k < 8 → first_bits l k < 128
first_lt l k h = lt_of_lt_of_le (first_pow l k) (pow_mono {i = k} {j = 7} (omega arith))

pub first_all : (l : List Bool) → first_bits l 8 ≡ byte_of l
unfolding first_bits
first_all l = omega arith

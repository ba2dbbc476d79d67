-- Long division of polynomials over two elements, each a number whose bit k is the coefficient of x^k. Assumes nothing.
use Rattle.std.specs.Prelude.{cond, ℕ, zero, suc, ◌+◌, ◌*◌, ◌/◌, ◌^◌, eqb}
use Rattle.std.specs.Int.Bits.{bit_xor}

-- The divisor is x^w and below it the terms g.
module _ (w g : ℕ) where
  -- one step at place k, for a of at most w + k + 1 bits: where its bit w + k is set, the divisor is taken away there
  unfoldable pub reduce : ℕ → ℕ → ℕ
  reduce k a = cond (eqb (a / 2 ^ (w + k)) 1) (bit_xor a ((2 ^ w + g) * 2 ^ k)) a

  -- the remainder of a, of at most w + k bits
  unfoldable pub rem : ℕ → ℕ → ℕ
  rem zero a = a
  rem (suc k) a = rem k (reduce k a)

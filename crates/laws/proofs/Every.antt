-- A test that antt computes at every number below n, and what it then says of each. Assumes nothing.
use mathlib.Core.Path.{◌≡◌, subst, sym}
use mathlib.Core.Bool.{Bool, true, false}
use Prim.Native.Nat.{ℕ, zero, suc, ◌<◌}
use native.Mathlib.Nat.{not-suc-le-zero, le_of_suc-le-suc}
use native.Mathlib.Decide.{ℕ_discrete}
use lib.Dec.{T}
use lib.Arith.{lt_of_le-ne}

abbrev pub both : Bool → Bool → Bool
both true b = b
both false b = false

pub both_left : (a b : Bool) → T (both a b) → T a
both_left true b t = tt
both_left false b t = t

pub both_right : (a b : Bool) → T (both a b) → T b
both_right true b t = t
both_right false b t = absurd t

-- f passes at every number below n
abbrev pub every : (ℕ → Bool) → ℕ → Bool
every f zero = true
every f (suc n) = both (f n) (every f n)

pub every_at : (f : ℕ → Bool) (n k : ℕ) → k < n → T (every f n) → T (f k)
every_at f zero k h t = absurd (not-suc-le-zero h)
every_at f (suc n) k h t = go (ℕ_discrete k n) (λ l. every_at f n k l (both_right (f n) (every f n) t))
  where
    go : Dec (k ≡ n) → (k < n → T (f k)) → T (f k)
    go (yes e) r = subst (λ (m : ℕ). T (f m)) (sym e) (both_left (f n) (every f n) t)
    go (no ne) r = r (lt_of_le-ne (le_of_suc-le-suc h) ne)

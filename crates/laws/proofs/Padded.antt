-- A list that goes on with the value that is read past its end. Assumes nothing.
use mathlib.Core.Path.{◌≡◌, refl}
use mathlib.Core.List.{List, [], ◌∷◌, ◌++◌}
use Prim.Native.Nat.{ℕ, zero, suc}
use lib.ListN.{get_or, replicate}

module _ {A : Type 0} (d : A) where
  pub replicate_at : (n k : ℕ) → get_or (replicate n d) k d ≡ d
  replicate_at zero k = refl
  replicate_at (suc n) zero = refl
  replicate_at (suc n) (suc k) = replicate_at n k

  pub padded_at : (l : List A) (n k : ℕ) → get_or (l ++ replicate n d) k d ≡ get_or l k d
  padded_at [] n k = replicate_at n k
  padded_at (x ∷ l) n zero = refl
  padded_at (x ∷ l) n (suc k) = padded_at l n k

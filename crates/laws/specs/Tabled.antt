-- The list of a function's values at 0, 1, 2 and so on. Assumes nothing.
use Rattle.std.specs.Prelude.{List, [], ◌∷◌, ℕ, zero, suc}

module _ {A : Type 0} where
  -- f at i, i + 1, .., n of them
  unfoldable pub values_from : (ℕ → A) → ℕ → ℕ → List A
  values_from f i zero = []
  values_from f i (suc n) = f i ∷ values_from f (suc i) n

  -- f at 0 to n - 1
  abbrev pub tabled : (ℕ → A) → ℕ → List A
  tabled f n = values_from f 0 n

-- A loop that turns a list into another of the same length in place, one element a turn. Assumes nothing.
use mathlib.Core.Path.{◌≡◌, sym, ap, ap₂, ◌∙◌}
use mathlib.Core.List.{List, ◌++◌, append-nil}
use Prim.Native.Nat.{ℕ, suc, ◌+◌, ◌<◌, ◌≤◌}
use native.Mathlib.Numerals.{add-one}
use native.Mathlib.Omega.{arith}
use lib.ListN.{length, get_or, set, take, drop, drop_of_length-le}
use lib.Seq.{length-take-le, take-suc, drop-cons, append_snoc, set_at, get_or_at, take_all}

-- i elements of s are those of x already
abbrev pub done : List ℕ → List ℕ → ℕ → List ℕ
done x s i = take i x ++ drop i s

module _ (x s : List ℕ) (same : length x ≡ length s) where
  -- the element that is read next is still the old one
  pub done_at : (i : ℕ) → i < length s → get_or (done x s i) i 0 ≡ get_or s i 0
  done_at i h =
      ap (λ (l : List ℕ). get_or (take i x ++ l) i 0) (drop-cons s i 0 h)
      ∙ get_or_at (take i x) (get_or s i 0) (drop (suc i) s) 0 i (length-take-le i x (omega arith))

  pub done_more : (i : ℕ) → i < length s → set (done x s i) i (get_or x i 0) ≡ done x s (i + 1)
  done_more i h =
      ap (λ (l : List ℕ). set (take i x ++ l) i (get_or x i 0)) (drop-cons s i 0 h)
      ∙ set_at (take i x) (get_or s i 0) (drop (suc i) s) (get_or x i 0) i (length-take-le i x (omega arith))
      ∙ sym (append_snoc (take i x) (get_or x i 0) (drop (suc i) s))
      ∙ ap (λ (l : List ℕ). l ++ drop (suc i) s) (sym (take-suc x i 0 (omega arith)))
      ∙ ap (λ (n : ℕ). done x s n) (sym (add-one i))

  pub done_all : (i : ℕ) → length s ≤ i → done x s i ≡ x
  done_all i h =
      ap₂ (λ (a b : List ℕ). a ++ b) (take_all i x (omega arith)) (drop_of_length-le s h) ∙ append-nil x

-- The list of a function's values: how long it is, what stands at each place, and a loop that fills an array with them. Assumes nothing.
use mathlib.Core.Path.{◌≡◌, refl, sym, ap, ◌∙◌}
use mathlib.Core.List.{List}
use Prim.Native.Nat.{ℕ, zero, suc, ◌+◌, ◌<◌, ◌≤◌}
use native.Mathlib.Nat.{add-zero, zero-add, add-suc, suc-add}
use native.Mathlib.Omega.{arith}
use lib.ListN.{length, get_or, set, length-set}
use lib.Seq.{ext_get_or, get_or-set_same, get_or-set_other}
use borrow.Author.Count.{below_more}
use Rattle.laws.specs.Tabled.{values_from, tabled}

module _ {A : Type 0} where
  length_from : (f : ℕ → A) (i n : ℕ) → length (values_from f i n) ≡ n
  unfolding values_from
  length_from f i zero = refl
  length_from f i (suc n) = ap suc (length_from f (suc i) n)

  from_at : (f : ℕ → A) (i n k : ℕ) (d : A) → k < n → get_or (values_from f i n) k d ≡ f (i + k)
  unfolding values_from
  from_at f i zero k d h = absurd (omega arith)
  from_at f i (suc n) zero d h = ap f (sym (add-zero i))
  from_at f i (suc n) (suc k) d h = from_at f (suc i) n k d (omega arith) ∙ ap f (suc-add i k ∙ sym (add-suc i k))

  pub length-tabled : (f : ℕ → A) (n : ℕ) → length (tabled f n) ≡ n
  length-tabled f n = length_from f 0 n

  pub tabled_at : (f : ℕ → A) (n k : ℕ) (d : A) → k < n → get_or (tabled f n) k d ≡ f k
  tabled_at f n k d h = from_at f 0 n k d h ∙ ap f (zero-add k)

  -- a list of n elements, each f's value at its place, is the table
  pub tabled_only : (f : ℕ → A) (n : ℕ) (l : List A) (d : A) → length l ≡ n → ((k : ℕ) → k < n → get_or l k d ≡ f k) → l ≡ tabled f n
  tabled_only f n l d e at =
      ext_get_or d l (tabled f n) (e ∙ sym (length-tabled f n))
      (λ k h.
      let b : k < n = omega arith in
      at k b ∙ sym (tabled_at f n k d b))

  -- ---- an array of n elements of which the first i are filled with f's values
  pub record Filled (f : ℕ → A) (n : ℕ) (d : A) (l : List A) (i : ℕ) : Type 0 where
    pub long : length l ≡ n
    pub filled : (k : ℕ) → k < i → get_or l k d ≡ f k

  pub filled_none : (f : ℕ → A) (n : ℕ) (d : A) (l : List A) → length l ≡ n → Filled f n d l 0
  filled_none f n d l e = record { long = e; filled = λ k h. absurd (omega arith) }

  pub filled_more : (f : ℕ → A) (n : ℕ) (d : A) (l : List A) (i : ℕ) (v : A) → i < n → Filled f n d l i → v ≡ f i → Filled f n d (set l i v) (i + 1)
  filled_more f n d l i v h p e =
      record {
        long = length-set l i v ∙ p.long;
        filled =
            below_more (λ (k : ℕ). get_or (set l i v) k d ≡ f k) i
            (λ k b. get_or-set_other l i k v d (λ q. omega arith) ∙ p.filled k b)
            (get_or-set_same l i v d (omega (arith, p.long)) ∙ e);
      }

  pub filled_all : (f : ℕ → A) (n : ℕ) (d : A) (l : List A) (i : ℕ) → n ≤ i → Filled f n d l i → l ≡ tabled f n
  filled_all f n d l i h p = tabled_only f n l d p.long (λ k b. p.filled k (omega arith))

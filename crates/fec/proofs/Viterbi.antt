-- The search finds the right word, whatever a step costs: no word costs less than the rows say, and the word traced back costs that much
-- and comes first of those that do. Assumes nothing.
use mathlib.Core.Path.{◌≡◌, refl, sym, ap, ◌∙◌, subst}
use mathlib.Core.Logic.{◌⊎◌, inl, inr, ⊎_elim}
use mathlib.Core.Bool.{Bool, true, false, cond}
use mathlib.Core.List.{List, [], ◌∷◌}
use Prim.Native.Nat.{ℕ, zero, suc, ◌+◌, ◌*◌, ◌/◌, ◌%◌, ◌≤◌, ◌<◌, min}
use native.Mathlib.Omega.{arith}
use native.Mathlib.Decide.{dec_lt}
use lib.ListN.{length}
use lib.Dec.{T, ltb}
use borrow.Author.Tests.{ltb-true, ltb-false}
use Rattle.bits.proofs.Back.{bit-lt}
use Rattle.fec.specs.Nearest.{comes}
use Rattle.fec.specs.Search.{st, ix, input, start, cost as cost-of, to as to-of, row as row_of, choose as choose-of, back as back-of, trace as trace-of}
use Rattle.fec.proofs.Order.{by_same}
use Rattle.fec.proofs.States.{st-lt, into, ix_parts, bit_same, input_is, high_first, low_transition}

module _ (σ : ℕ → ℕ → ℕ) where
  abbrev cost : List Bool → ℕ
  cost r = cost-of σ r

  abbrev to : ℕ → ℕ → ℕ
  to t s = to-of σ t s

  abbrev row : ℕ → ℕ → ℕ
  row t i = row_of σ t i

  abbrev choose : ℕ → ℕ → ℕ
  choose t s = choose-of σ t s

  abbrev back : ℕ → ℕ → List Bool
  back t s = back-of σ t s

  pub row_is : (t i : ℕ) → row t i ≡ to t (i % 16) + σ t i
  unfolding row_of
  row_is t i = refl

  pub to_suc : (t s : ℕ) → to (suc t) s ≡ min (row t (2 * s)) (row t (2 * s + 1))
  unfolding to-of row_of
  to_suc t s = refl

  row_at : (t : ℕ) {i j : ℕ} → i ≡ j → row t i ≡ row t j
  row_at t e = ap (λ (k : ℕ). row t k) e

  -- ---- no word costs less

  -- what the latest bit of a word of t + 1 bits adds
  record Walked (t : ℕ) (b : Bool) (r : List Bool) : Type 0 where
    through : row t (ix b r) ≡ to t (st r) + σ t (ix b r)
    costs : cost (b ∷ r) ≡ cost r + σ t (ix b r)
    low : to t (st r) ≤ cost r

  lower_step : (b : Bool) (r : List Bool) → Walked (length r) b r → to (suc (length r)) (st (b ∷ r)) ≤ cost (b ∷ r)
  lower_step b r w =
      ⊎_elim
      (λ e. omega (arith, to_suc (length r) (st (b ∷ r)), row_at (length r) e, w.through, w.costs, w.low))
      (λ e. omega (arith, to_suc (length r) (st (b ∷ r)), row_at (length r) e, w.through, w.costs, w.low))
      (into b r)

  walked_from : (b : Bool) (r : List Bool) → to (length r) (st r) ≤ cost r → Walked (length r) b r
  unfolding cost-of
  walked_from b r low = record { through = row_is (length r) (ix b r) ∙ ap (λ (s : ℕ). to (length r) s + σ (length r) (ix b r)) (ix_parts b r).1; costs = refl; low = low }

  lower : (r : List Bool) → to (length r) (st r) ≤ cost r
  lower [] = unfold to-of st cost-of start in omega arith
  lower (b ∷ r) = lower_step b r (walked_from b r (lower r))

  walked : (t : ℕ) (b : Bool) (r : List Bool) → length r ≡ t → Walked t b r
  walked t b r l = subst (λ (t : ℕ). Walked t b r) l (walked_from b r (lower r))

  -- ---- the way back

  -- what the choice is: the lesser of the two, and the odd one among equals
  record Chosen (t s i : ℕ) : Type 0 where
    half : i / 2 ≡ s
    least : row t i ≡ to (suc t) s
    other : (j : ℕ) → (j ≡ 2 * s) ⊎ (j ≡ 2 * s + 1) → row t j ≤ row t i → (j ≡ i) ⊎ (j + 1 ≡ i)

  chosen : (t s : ℕ) → Chosen t s (choose t s)
  unfolding choose-of
  chosen t s = go (ltb (row t (2 * s)) (row t (2 * s + 1))) refl
    where
      go : (x : Bool) → ltb (row t (2 * s)) (row t (2 * s + 1)) ≡ x → Chosen t s (cond x (2 * s) (2 * s + 1))
      go true e =
          let l : row t (2 * s) < row t (2 * s + 1) = ltb-true _ _ e in
          record {
            half = omega arith;
            least = omega (arith, to_suc t s);
            other = λ j o h. ⊎_elim (λ q. inl q) (λ q. absurd (omega (arith, row_at t q))) o;
          }
      go false e =
          let l : row t (2 * s + 1) ≤ row t (2 * s) = ltb-false _ _ e in
          record {
            half = omega arith;
            least = omega (arith, to_suc t s);
            other = λ j o h. ⊎_elim (λ q. inr (omega arith)) (λ q. inl q) o;
          }

  pub choose_least : (t s : ℕ) → row t (choose t s) ≡ to (suc t) s
  choose_least t s = (chosen t s).least

  -- r is a word of t bits that ends in state s and costs the least
  record Good (t s : ℕ) (r : List Bool) : Type 0 where
    long : length r ≡ t
    ends : st r ≡ s
    costs : cost r ≡ to t s

  good_start : (s : ℕ) → to 0 s < 255 → Good 0 s []
  unfolding to-of start st cost-of
  good_start zero h = record { long = refl; ends = refl; costs = refl }
  good_start (suc s) h = absurd (omega arith)

  -- transition i after such a word makes what its row says
  good_next : (t i : ℕ) (r : List Bool) → i < 32 → Good t (i % 16) r → (ix (input i) r ≡ i) × (cost (input i ∷ r) ≡ row t i)
  good_next t i r h g =
      let w = walked t (input i) r g.long in
      let q : ix (input i) r ≡ i = omega (arith, input_is i h, g.ends) in
      (q, omega (arith, w.costs, w.through, row_at t q, g.costs, ap (to t) g.ends))

  good_step : (t s i : ℕ) (r : List Bool) → i < 32 → Chosen t s i → Good t (i % 16) r → Good (suc t) s (input i ∷ r)
  good_step t s i r h c g =
      let n = good_next t i r h g in
      record {
        long = ap suc g.long;
        ends = omega (arith, (ix_parts (input i) r).0, n.0, c.half);
        costs = n.1 ∙ c.least;
      }

  row_to : (t i : ℕ) → to t (i % 16) ≤ row t i
  row_to t i = omega (arith, row_is t i)

  good : (t s : ℕ) → s < 16 → to t s < 255 → Good t s (back t s)
  unfolding back-of
  good zero s l h = good_start s h
  good (suc t) s l h =
      good_step t s (choose t s) (back t (choose t s % 16)) (omega (arith, (chosen t s).half)) (chosen t s)
      (good t (choose t s % 16) (omega arith) (omega (arith, (chosen t s).least, row_to t (choose t s))))

  -- ---- among the words of a least cost it comes first

  same_end : (t i : ℕ) (r : List Bool) (b : Bool) (v : List Bool) → i < 32 → length v ≡ t → ix b v ≡ i → cost (b ∷ v) ≤ row t i
      → (st v ≡ i % 16 → cost v ≤ to t (i % 16) → T (comes 0 r v)) → T (comes 0 (input i ∷ r) (b ∷ v))
  unfolding comes
  same_end t i r b v h l q d rest =
      let w = walked t b v l in
      let m : st v ≡ i % 16 = sym (ix_parts b v).1 ∙ ap (λ (x : ℕ). x % 16) q in
      by_same true (input i) b (comes 0 r v) (bit_same (input i) b (omega (arith, input_is i h, st-lt v)))
      (rest m (omega (arith, w.through, w.costs, row_at t q, row_is t i, ap (to t) m)))

  earliest_step : (t s i : ℕ) (r : List Bool) (b : Bool) (v : List Bool) → i < 32 → Chosen t s i → Good t (i % 16) r
      → (st v ≡ i % 16 → cost v ≤ to t (i % 16) → T (comes 0 r v))
      → length v ≡ t → st (b ∷ v) ≡ s → cost (b ∷ v) ≤ to (suc t) s → T (comes 0 (input i ∷ r) (b ∷ v))
  earliest_step t s i r b v h c g rest l e d =
      let w = walked t b v l in
      ⊎_elim (λ q. same_end t i r b v h l q (omega (arith, c.least)) rest) other_way
      (c.other (ix b v) (subst (λ (s : ℕ). (ix b v ≡ 2 * s) ⊎ (ix b v ≡ 2 * s + 1)) e (into b v)) (omega (arith, c.least, w.through, w.costs, w.low)))
    where
      other_way : ix b v + 1 ≡ i → T (comes 0 (input i ∷ r) (b ∷ v))
      other_way q =
          let p = ix_parts b v in
          unfold comes in
          by_same true (input i) b (comes 0 r v) (bit_same (input i) b (omega (arith, input_is i h, c.half, p.0, st-lt v, bit-lt b)))
          (high_first r v (g.long ∙ sym l) (omega (arith, g.ends, p.0, p.1, c.half)))

  earliest : (t s : ℕ) (v : List Bool) → s < 16 → to t s < 255 → length v ≡ t → st v ≡ s → cost v ≤ to t s → T (comes 0 (back t s) v)
  unfolding back-of
  earliest zero s v l h e q d = unfold comes in tt
  earliest (suc t) s [] l h e q d = absurd (omega arith)
  earliest (suc t) s (b ∷ v) l h e q d =
      let c : Chosen t s (choose t s) = chosen t s in
      let s<16 : choose t s % 16 < 16 = omega arith in
      let h' : to t (choose t s % 16) < 255 = omega (arith, c.least, row_to t (choose t s)) in
      earliest_step t s (choose t s) (back t (choose t s % 16)) b v (omega (arith, c.half)) c (good t (choose t s % 16) s<16 h')
      (λ m k. earliest t (choose t s % 16) v s<16 h' (omega arith) m k) (omega arith) q d

  -- ---- the whole word

  -- no word of t + 1 bits costs less than every transition
  pub no_less : (t m : ℕ) → ((j : ℕ) → j < 32 → m ≤ row t j) → (v : List Bool) → length v ≡ suc t → m ≤ cost v
  no_less t m f [] e = absurd (omega arith)
  no_less t m f (b ∷ v) e =
      let w = walked t b v (omega arith) in
      omega (arith, f (ix b v) (ix_parts b v).2, w.through, w.costs, w.low)

  -- i is the first of the least transitions at step t
  pub record FirstLeast (t i : ℕ) : Type 0 where
    pub below : i < 32
    pub least : (j : ℕ) → j < 32 → row t i ≤ row t j
    pub earlier : (j : ℕ) → j < i → row t i < row t j

  module _ (t i : ℕ) (f : FirstLeast t i) (small : row t i < 255) where
    good_end : Good t (i % 16) (back t (i % 16))
    good_end = good t (i % 16) (omega arith) (omega (arith, row_to t i))

    pub trace_long : length (trace-of σ t i) ≡ suc t
    unfolding trace-of
    trace_long = ap suc good_end.long

    pub trace_costs : cost (trace-of σ t i) ≡ row t i
    unfolding trace-of
    trace_costs = (good_next t i (back t (i % 16)) f.below good_end).1

    pub trace_earliest : (v : List Bool) → length v ≡ suc t → cost v ≤ row t i → T (comes 5 (trace-of σ t i) v)
    unfolding trace-of
    trace_earliest [] e d = absurd (omega arith)
    trace_earliest (b ∷ v) e d =
        low_transition (input i) b (back t (i % 16)) v (omega (arith, good_end.long)) (omega (arith, ends, not_before (dec_lt (ix b v) i)))
        (λ q. same_end t i (back t (i % 16)) b v f.below l (omega (arith, ends)) d (λ m k. earliest t (i % 16) v (omega arith) (omega (arith, row_to t i)) l m k))
      where
        l : length v ≡ t
        l = omega arith

        ends : ix (input i) (back t (i % 16)) ≡ i
        ends = (good_next t i (back t (i % 16)) f.below good_end).0

        not_before : Dec (ix b v < i) → i ≤ ix b v
        not_before (yes h) = let w = walked t b v l in absurd (omega (arith, f.earlier (ix b v) h, w.through, w.costs, w.low))
        not_before (no h) = omega arith

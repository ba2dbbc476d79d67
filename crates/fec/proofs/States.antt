-- A state as a number, the transition into it, and how the order among words goes by these numbers. Assumes nothing.
use mathlib.Core.Path.{◌≡◌, refl}
use mathlib.Core.Logic.{◌⊎◌, inl, inr, ⊎_elim}
use mathlib.Core.Bool.{Bool, true, false}
use mathlib.Core.List.{List, [], ◌∷◌}
use Prim.Native.Nat.{ℕ, zero, suc, ◌+◌, ◌*◌, ◌/◌, ◌%◌, ◌≤◌, ◌<◌, ◌^◌}
use native.Mathlib.Omega.{arith}
use lib.ListN.{length}
use lib.Pow.{pow_pos}
use lib.Dec.{T, ltb}
use borrow.Author.Tests.{ltb-true, ltb-false}
use Rattle.bits.specs.Bits.{bit}
use Rattle.bits.proofs.Back.{bit-lt}
use Rattle.fec.specs.Nearest.{comes}
use Rattle.fec.specs.Search.{st, ix, input}

pub st-lt : (r : List Bool) → st r < 16
unfolding st
st-lt [] = omega arith
st-lt (b ∷ r) = omega (arith, st-lt r, bit-lt b)

halves : (x : ℕ) → (x ≡ 2 * (x / 2)) ⊎ (x ≡ 2 * (x / 2) + 1)
halves x = go (x % 2) refl
  where
    go : (m : ℕ) → x % 2 ≡ m → (x ≡ 2 * (x / 2)) ⊎ (x ≡ 2 * (x / 2) + 1)
    go zero e = inl (omega arith)
    go (suc zero) e = inr (omega arith)
    go (suc (suc m)) e = absurd (let h : x % 2 < 2 = omega arith in omega arith)

-- the transition that the latest bit made is one of the two into the state
pub into : (b : Bool) (r : List Bool) → (ix b r ≡ 2 * st (b ∷ r)) ⊎ (ix b r ≡ 2 * st (b ∷ r) + 1)
unfolding st
into b r = ⊎_elim (λ e. inl (omega arith)) (λ e. inr (omega arith)) (halves (st r))

-- its number says the bit and the state before
pub ix_parts : (b : Bool) (r : List Bool) → (ix b r / 2 ≡ st (b ∷ r)) × (ix b r % 16 ≡ st r) × (ix b r < 32)
ix_parts b r = (⊎_elim (λ q. omega arith) (λ q. omega arith) (into b r), omega (arith, st-lt r), omega (arith, st-lt r, bit-lt b))

pub bit_same : (x y : Bool) → bit x ≡ bit y → x ≡ y
bit_same true true e = refl
bit_same false false e = refl
bit_same true false e = absurd (omega arith)
bit_same false true e = absurd (omega arith)

pub input_is : (i : ℕ) → i < 32 → 16 * bit (input i) + i % 16 ≡ i
unfolding input
input_is i h = go (ltb 15 i) refl
  where
    go : (x : Bool) → ltb 15 i ≡ x → 16 * bit x + i % 16 ≡ i
    go true e = omega (arith, ltb-true 15 i e)
    go false e = omega (arith, ltb-false 15 i e)

-- ---- the order

-- where 1 comes before 0, the greater state comes first
pub high_first : (u v : List Bool) → length u ≡ length v → st v < st u → T (comes 0 u v)
unfolding st comes
high_first [] [] e h = tt
high_first [] (y ∷ v) e h = tt
high_first (x ∷ u) [] e h = absurd (omega arith)
high_first (true ∷ u) (false ∷ v) e h = tt
high_first (false ∷ u) (true ∷ v) e h = absurd (omega (arith, st-lt u, st-lt v))
high_first (true ∷ u) (true ∷ v) e h = high_first u v (omega arith) (omega arith)
high_first (false ∷ u) (false ∷ v) e h = high_first u v (omega arith) (omega arith)

-- the first k bits as a number
unfoldable top : ℕ → List Bool → ℕ
top zero u = 0
top (suc k) [] = 0
top (suc k) (x ∷ u) = 2 ^ k * bit x + top k u

top_lt : (k : ℕ) (u : List Bool) → top k u < 2 ^ k
unfolding top
top_lt zero u = omega arith
top_lt (suc k) [] = pow_pos (suc k)
top_lt (suc k) (true ∷ u) = omega (arith, top_lt k u)
top_lt (suc k) (false ∷ u) = omega (arith, top_lt k u)

-- where 0 comes before 1 in the first k places, the lesser number of k bits comes first; where they are equal the other places tell
low_first : (k : ℕ) (u v : List Bool) → length u ≡ length v → top k u ≤ top k v → (top k u ≡ top k v → T (comes 0 u v)) → T (comes k u v)
unfolding top comes
low_first zero u v e h t = t refl
low_first (suc k) [] v e h t = tt
low_first (suc k) (x ∷ u) [] e h t = absurd (omega arith)
low_first (suc k) (false ∷ u) (true ∷ v) e h t = tt
low_first (suc k) (true ∷ u) (false ∷ v) e h t = absurd (omega (arith, top_lt k v))
low_first (suc k) (true ∷ u) (true ∷ v) e h t = low_first k u v (omega arith) (omega arith) (λ q. t (omega arith))
low_first (suc k) (false ∷ u) (false ∷ v) e h t = low_first k u v (omega arith) (omega arith) (λ q. t (omega arith))

st-top : (u : List Bool) → st u ≡ top 4 u
unfolding st top
st-top [] = refl
st-top (a ∷ []) = omega arith
st-top (a ∷ b ∷ []) = omega arith
st-top (a ∷ b ∷ c ∷ []) = omega arith
st-top (a ∷ b ∷ c ∷ d ∷ u) = omega (arith, st-lt u, bit-lt d)

-- so of two words the one with the lesser last transition comes first
pub low_transition : (x y : Bool) (u v : List Bool) → length u ≡ length v → ix x u ≤ ix y v → (ix x u ≡ ix y v → T (comes 0 (x ∷ u) (y ∷ v))) → T (comes 5 (x ∷ u) (y ∷ v))
low_transition x y u v l h t =
    low_first 5 (x ∷ u) (y ∷ v) (omega arith) (omega (arith, five x u, five y v)) (λ q. t (omega (arith, five x u, five y v)))
  where
    five : (x : Bool) (u : List Bool) → top 5 (x ∷ u) ≡ ix x u
    five x u = unfold top in omega (arith, st-top u)

-- The long division of specs/Division: its remainder is small, it is linear, and it may go in parts. Assumes nothing.
use mathlib.Core.Path.{◌≡◌, refl, sym, ap, ap₂, ◌∙◌, subst}
use mathlib.Core.Bool.{cond}
use mathlib.Core.Logic.{◌⊎◌, inl, inr, ⊎_elim}
use Prim.Native.Nat.{ℕ, zero, suc, ◌+◌, ◌*◌, ◌/◌, ◌%◌, ◌^◌, ◌<◌}
use native.Mathlib.Nat.{mod-lt, zero-mul, one-mul, zero-add, add-zero, add-mul, suc-add, mul_assoc, lt_of_lt_of_le}
use native.Mathlib.Omega.{arith}
use lib.Dec.{eqb}
use lib.Pow.{pow_pos, pow-add, pow_mono, split, high, shr_lt, shl_lt, shl-shr, shr-shr}
use lib.Bits.{bit_xor, xor_block, xor_lt, xor_shr, xor_self, xor_zero_r, xor_comm}
use Rattle.laws.specs.Division.{reduce, rem}
use Rattle.laws.proofs.Xor.{xor_assoc, xor_swap}

pub bit_cases : (t : ℕ) → t < 2 → (t ≡ 0) ⊎ (t ≡ 1)
bit_cases zero h = inl refl
bit_cases (suc zero) h = inr refl
bit_cases (suc (suc t)) h = absurd (omega arith)

-- xor goes under a shift
pub shl_xor : (x y n : ℕ) → bit_xor (x * 2 ^ n) (y * 2 ^ n) ≡ bit_xor x y * 2 ^ n
shl_xor x y n =
    ap₂ bit_xor (sym (add-zero (x * 2 ^ n))) (sym (add-zero (y * 2 ^ n))) ∙ xor_block n x y 0 0 (pow_pos n) (pow_pos n) ∙ add-zero (bit_xor x y * 2 ^ n)

-- nothing is left above all its bits
beyond : {a : ℕ} (k : ℕ) → a < 2 ^ k → a / 2 ^ k ≡ 0
beyond {a} k h =
    ap (λ (n : ℕ). n / 2 ^ k) (sym (zero-add a) ∙ ap (λ (n : ℕ). n + a) (sym (zero-mul (2 ^ k)))) ∙ high 0 k h

xor_last : (a b c : ℕ) → bit_xor (bit_xor a b) c ≡ bit_xor (bit_xor a c) b
xor_last a b c = xor_assoc a b c ∙ ap (bit_xor a) (xor_comm b c) ∙ sym (xor_assoc a c b)

module _ (w g : ℕ) (small : g < 2 ^ w) where
  -- the divisor at place k, and its top bit apart
  abbrev pub divisor : ℕ → ℕ
  divisor k = (2 ^ w + g) * 2 ^ k

  pub divisor_split : (k : ℕ) → divisor k ≡ 1 * 2 ^ (w + k) + g * 2 ^ k
  divisor_split k = add-mul (2 ^ w) g (2 ^ k) ∙ ap (λ (n : ℕ). n + g * 2 ^ k) (sym (pow-add 2 w k) ∙ sym (one-mul (2 ^ (w + k))))

  low_lt : (k : ℕ) → g * 2 ^ k < 2 ^ (w + k)
  low_lt k = shl_lt w k small

  pub top_lt : (k a : ℕ) → a < 2 ^ (suc w + k) → a / 2 ^ (w + k) < 2
  top_lt k a h = shr_lt 1 (w + k) (subst (λ (n : ℕ). a < 2 ^ n) (omega arith) h)

  pub reduce_0 : (k a : ℕ) → a / 2 ^ (w + k) ≡ 0 → reduce w g k a ≡ a
  unfolding reduce
  reduce_0 k a e = ap (λ (t : ℕ). cond (eqb t 1) (bit_xor a (divisor k)) a) e

  pub reduce_1 : (k a : ℕ) → a / 2 ^ (w + k) ≡ 1 → reduce w g k a ≡ bit_xor a (divisor k)
  unfolding reduce
  reduce_1 k a e = ap (λ (t : ℕ). cond (eqb t 1) (bit_xor a (divisor k)) a) e

  pub reduce-lt : (k a : ℕ) → a < 2 ^ (suc w + k) → reduce w g k a < 2 ^ (w + k)
  reduce-lt k a h = ⊎_elim case_0 case_1 (bit_cases (a / 2 ^ (w + k)) (top_lt k a h))
    where
      low : a % 2 ^ (w + k) < 2 ^ (w + k)
      low = mod-lt a (pow_pos (w + k))

      -- where the top bit is t, a is that and what lies below it
      apart : (t : ℕ) → a / 2 ^ (w + k) ≡ t → a ≡ t * 2 ^ (w + k) + a % 2 ^ (w + k)
      apart t e = sym (split a (w + k)) ∙ ap (λ (n : ℕ). n * 2 ^ (w + k) + a % 2 ^ (w + k)) e

      none : (x : ℕ) → 0 * 2 ^ (w + k) + x ≡ x
      none x = ap (λ (n : ℕ). n + x) (zero-mul (2 ^ (w + k))) ∙ zero-add x

      case_0 : a / 2 ^ (w + k) ≡ 0 → reduce w g k a < 2 ^ (w + k)
      case_0 e = subst (λ (n : ℕ). n < 2 ^ (w + k)) (sym (reduce_0 k a e ∙ apart 0 e ∙ none (a % 2 ^ (w + k)))) low

      case_1 : a / 2 ^ (w + k) ≡ 1 → reduce w g k a < 2 ^ (w + k)
      case_1 e =
          subst (λ (n : ℕ). n < 2 ^ (w + k))
          (sym
          (reduce_1 k a e ∙ ap₂ bit_xor (apart 1 e) (divisor_split k)
          ∙ xor_block (w + k) 1 1 (a % 2 ^ (w + k)) (g * 2 ^ k) low (low_lt k)
          ∙ none (bit_xor (a % 2 ^ (w + k)) (g * 2 ^ k))))
          (xor_lt (w + k) (a % 2 ^ (w + k)) (g * 2 ^ k) low (low_lt k))

  pub reduce-xor : (k a b : ℕ) → a < 2 ^ (suc w + k) → b < 2 ^ (suc w + k)
      → reduce w g k (bit_xor a b) ≡ bit_xor (reduce w g k a) (reduce w g k b)
  reduce-xor k a b ha hb =
      ⊎_elim
      (λ ea. ⊎_elim
      (λ eb. reduce_0 k (bit_xor a b) (tops ea eb) ∙ sym (ap₂ bit_xor (reduce_0 k a ea) (reduce_0 k b eb)))
      (λ eb. reduce_1 k (bit_xor a b) (tops ea eb) ∙ xor_assoc a b (divisor k) ∙ sym (ap₂ bit_xor (reduce_0 k a ea) (reduce_1 k b eb)))
      (bit_cases (b / 2 ^ (w + k)) (top_lt k b hb)))
      (λ ea. ⊎_elim
      (λ eb.
      reduce_1 k (bit_xor a b) (tops ea eb) ∙ xor_assoc a b (divisor k) ∙ ap (bit_xor a) (xor_comm b (divisor k))
      ∙ sym (xor_assoc a (divisor k) b) ∙ sym (ap₂ bit_xor (reduce_1 k a ea) (reduce_0 k b eb)))
      (λ eb.
      reduce_0 k (bit_xor a b) (tops ea eb)
      ∙ sym (xor_swap a (divisor k) b (divisor k) ∙ ap (bit_xor (bit_xor a b)) (xor_self (divisor k)) ∙ xor_zero_r (bit_xor a b))
      ∙ sym (ap₂ bit_xor (reduce_1 k a ea) (reduce_1 k b eb)))
      (bit_cases (b / 2 ^ (w + k)) (top_lt k b hb)))
      (bit_cases (a / 2 ^ (w + k)) (top_lt k a ha))
    where
      tops : {s t : ℕ} → a / 2 ^ (w + k) ≡ s → b / 2 ^ (w + k) ≡ t → bit_xor a b / 2 ^ (w + k) ≡ bit_xor s t
      tops ea eb = xor_shr a b (w + k) ∙ ap₂ bit_xor ea eb

  pub wider : (k : ℕ) {a : ℕ} → a < 2 ^ (w + suc k) → a < 2 ^ (suc w + k)
  wider k {a} h = subst (λ (n : ℕ). a < 2 ^ n) (omega arith) h

  -- the remainder has at most w bits
  pub rem_lt : (k a : ℕ) → a < 2 ^ (w + k) → rem w g k a < 2 ^ w
  unfolding rem
  rem_lt zero a h = subst (λ (n : ℕ). a < 2 ^ n) (add-zero w) h
  rem_lt (suc k) a h = rem_lt k (reduce w g k a) (reduce-lt k a (wider k h))

  -- the remainder of a sum is the sum of the remainders
  pub rem-xor : (k a b : ℕ) → a < 2 ^ (w + k) → b < 2 ^ (w + k) → rem w g k (bit_xor a b) ≡ bit_xor (rem w g k a) (rem w g k b)
  unfolding rem
  rem-xor zero a b ha hb = refl
  rem-xor (suc k) a b ha hb =
      ap (rem w g k) (reduce-xor k a b (wider k ha) (wider k hb))
      ∙ rem-xor k (reduce w g k a) (reduce w g k b) (reduce-lt k a (wider k ha)) (reduce-lt k b (wider k hb))

  -- what has at most w bits is its own remainder
  pub rem_small : (k a : ℕ) → a < 2 ^ w → rem w g k a ≡ a
  unfolding rem
  rem_small zero a h = refl
  rem_small (suc k) a h =
      ap (rem w g k) (reduce_0 k a (beyond (w + k) (lt_of_lt_of_le h (pow_mono (omega arith))))) ∙ rem_small k a h

  -- a shifted dividend and a rest below the divisor's top bit: the step looks at the dividend alone
  reduce_shift : (n m x y : ℕ) → x < 2 ^ (suc w + n) → y < 2 ^ (w + m)
      → reduce w g (n + m) (bit_xor (x * 2 ^ m) y) ≡ bit_xor (reduce w g n x * 2 ^ m) y
  reduce_shift n m x y hx hy = ⊎_elim case_0 case_1 (bit_cases (x / 2 ^ (w + n)) (top_lt n x hx))
    where
      top : {t : ℕ} → x / 2 ^ (w + n) ≡ t → bit_xor (x * 2 ^ m) y / 2 ^ (w + (n + m)) ≡ t
      top {t} e =
          let p : w + (n + m) ≡ m + (w + n) = omega arith in
          xor_shr (x * 2 ^ m) y (w + (n + m))
          ∙ ap₂ bit_xor
          (ap (λ (k : ℕ). x * 2 ^ m / 2 ^ k) p ∙ sym (shr-shr (x * 2 ^ m) m (w + n)) ∙ ap (λ (k : ℕ). k / 2 ^ (w + n)) (shl-shr x m) ∙ e)
          (beyond (w + (n + m)) (lt_of_lt_of_le hy (pow_mono (omega arith)))) ∙ xor_zero_r t

      case_0 : x / 2 ^ (w + n) ≡ 0 → reduce w g (n + m) (bit_xor (x * 2 ^ m) y) ≡ bit_xor (reduce w g n x * 2 ^ m) y
      case_0 e =
          reduce_0 (n + m) (bit_xor (x * 2 ^ m) y) (top e) ∙ ap (λ (k : ℕ). bit_xor (k * 2 ^ m) y) (sym (reduce_0 n x e))

      case_1 : x / 2 ^ (w + n) ≡ 1 → reduce w g (n + m) (bit_xor (x * 2 ^ m) y) ≡ bit_xor (reduce w g n x * 2 ^ m) y
      case_1 e =
          let p : divisor (n + m) ≡ divisor n * 2 ^ m = ap (λ (k : ℕ). (2 ^ w + g) * k) (pow-add 2 n m) ∙ sym (mul_assoc (2 ^ w + g) (2 ^ n) (2 ^ m)) in
          reduce_1 (n + m) (bit_xor (x * 2 ^ m) y) (top e) ∙ ap (bit_xor (bit_xor (x * 2 ^ m) y)) p
          ∙ xor_last (x * 2 ^ m) y (divisor n * 2 ^ m) ∙ ap (λ (k : ℕ). bit_xor k y) (shl_xor x (divisor n) m)
          ∙ ap (λ (k : ℕ). bit_xor (k * 2 ^ m) y) (sym (reduce_1 n x e))

  -- so a long dividend may be divided in two parts: its front, then what is left of that with the rest behind it
  pub rem_shift : (n m x y : ℕ) → x < 2 ^ (w + n) → y < 2 ^ (w + m)
      → rem w g (n + m) (bit_xor (x * 2 ^ m) y) ≡ rem w g m (bit_xor (rem w g n x * 2 ^ m) y)
  unfolding rem
  rem_shift zero m x y hx hy = ap (λ (k : ℕ). rem w g k (bit_xor (x * 2 ^ m) y)) (zero-add m)
  rem_shift (suc n) m x y hx hy =
      ap (λ (k : ℕ). rem w g k (bit_xor (x * 2 ^ m) y)) (suc-add n m)
      ∙ ap (rem w g (n + m)) (reduce_shift n m x y (wider n hx) hy)
      ∙ rem_shift n m (reduce w g n x) y (reduce-lt n x (wider n hx)) hy

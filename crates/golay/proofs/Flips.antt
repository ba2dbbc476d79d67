-- A number of n digits of which at most m are set is m or fewer flips of 0, each above the one before. Assumes nothing.
use mathlib.Core.Path.{◌≡◌, sym, ap, ap₂, ◌∙◌, subst, subst₂}
use mathlib.Core.Logic.{◌⊎◌, inl, inr, ⊎_elim}
use Prim.Native.Nat.{ℕ, zero, suc, ◌+◌, ◌*◌, ◌/◌, ◌%◌, ◌^◌, ◌≤◌, ◌<◌}
use native.Mathlib.Nat.{mod-lt, zero-mul, add-mul, mul_assoc, mul_comm, one-mul, pow-suc, lt-suc_self, le_refl}
use native.Mathlib.Numerals.{add-one}
use native.Mathlib.Omega.{arith}
use lib.Dec.{lit<}
use lib.Arith.{lt-one}
use lib.Pow.{pow-lt, shr_lt}
use lib.Bits.{bit_xor, xor_comm, xor_shifted}
use lib.Count.{ones_in}
use Rattle.laws.proofs.Divide.{bit_cases}

abbrev pub Flips : ℕ → ℕ → ℕ → ℕ → Type 0
Flips hi lo zero f = f ≡ 0
Flips hi lo (suc m) f = (f ≡ 0) ⊎ ((i : ℕ) × (e : ℕ) × (lo ≤ i) × (i < hi) × (f ≡ bit_xor (2 ^ i) e) × Flips hi (suc i) m e)

none : (hi lo m f : ℕ) → f ≡ 0 → Flips hi lo m f
none hi lo zero f z = z
none hi lo (suc m) f z = inl z

lower : (hi lo m f : ℕ) → Flips hi (suc lo) m f → Flips hi lo m f
lower hi lo zero f p = p
lower hi lo (suc m) f p = ⊎_elim (λ z. inl z) (λ q. inr (q.0, q.1, omega arith, q.3, q.4, q.5)) p

pub even : (e s : ℕ) → e % 2 ≡ 0 → e / 2 * 2 ^ suc s ≡ e * 2 ^ s
even e s z =
    ap (λ (n : ℕ). e / 2 * n) (pow-suc 2 s ∙ mul_comm (2 ^ s) 2) ∙ sym (mul_assoc (e / 2) 2 (2 ^ s)) ∙ ap (λ (n : ℕ). n * 2 ^ s) (omega arith)

pub odd_sum : (e s : ℕ) → e % 2 ≡ 1 → e * 2 ^ s ≡ e / 2 * 2 ^ suc s + 2 ^ s
odd_sum e s z =
    let h : e ≡ e / 2 * 2 + 1 = omega arith in
    ap (λ (n : ℕ). n * 2 ^ s) h ∙ add-mul (e / 2 * 2) 1 (2 ^ s)
    ∙ ap₂ (λ (m n : ℕ). m + n) (mul_assoc (e / 2) 2 (2 ^ s) ∙ ap (λ (n : ℕ). e / 2 * n) (sym (pow-suc 2 s ∙ mul_comm (2 ^ s) 2))) (one-mul (2 ^ s))

pub odd : (e s : ℕ) → e % 2 ≡ 1 → e * 2 ^ s ≡ bit_xor (2 ^ s) (e / 2 * 2 ^ suc s)
odd e s z = odd_sum e s z ∙ sym (xor_shifted (e / 2) (suc s) (2 ^ s) (pow-lt (lt-suc_self s))) ∙ xor_comm (e / 2 * 2 ^ suc s) (2 ^ s)

half_lt : (n e : ℕ) → e < 2 ^ suc n → e / 2 < 2 ^ n
half_lt n e h = shr_lt n 1 (subst (λ (m : ℕ). e < 2 ^ m) (sym (add-one n)) h)

pub flips : (n s m e : ℕ) → e < 2 ^ n → ones_in n e ≤ m → Flips (s + n) s m (e * 2 ^ s)
unfolding ones_in
flips zero s m e h l = none (s + 0) s m (e * 2 ^ s) (ap (λ (x : ℕ). x * 2 ^ s) (lt-one h) ∙ zero-mul (2 ^ s))
flips (suc n) s m e h l =
    ⊎_elim
    (λ z. subst₂ (λ (hi f : ℕ). Flips hi s m f) (omega arith) (even e s z)
    (lower (suc s + n) s m (e / 2 * 2 ^ suc s) (flips n (suc s) m (e / 2) (half_lt n e h) (omega arith))))
    (λ z. set_bit m l z (λ m' l'. flips n (suc s) m' (e / 2) (half_lt n e h) l'))
    (bit_cases (e % 2) (mod-lt e (lit< tt)))
  where
    set_bit : (m : ℕ) → ones_in (suc n) e ≤ m → e % 2 ≡ 1
        → ((m' : ℕ) → ones_in n (e / 2) ≤ m' → Flips (suc s + n) (suc s) m' (e / 2 * 2 ^ suc s)) → Flips (s + suc n) s m (e * 2 ^ s)
    set_bit zero l z r = absurd (omega arith)
    set_bit (suc m) l z r =
        inr (s, e / 2 * 2 ^ suc s, le_refl s, omega arith, odd e s z, subst (λ (hi : ℕ). Flips hi (suc s) m (e / 2 * 2 ^ suc s)) (omega arith) (r m (omega arith)))

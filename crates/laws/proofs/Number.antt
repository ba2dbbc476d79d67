-- Bytes and the number that they are: each from the other, its size, and the number of two lists one after the other. Assumes nothing.
use mathlib.Core.Path.{◌≡◌, refl, sym, ap, ap₂, ◌∙◌, subst}
use mathlib.Core.List.{List, [], ◌∷◌, ◌++◌}
use Prim.Native.Nat.{ℕ, zero, suc, ◌+◌, ◌*◌, ◌/◌, ◌%◌, ◌^◌, ◌<◌}
use native.Mathlib.Nat.{zero-mul, zero-add, add-mul, mul_assoc, mul_comm, pow-suc, mod-lt, div-add-mod', one-le-pow}
use native.Mathlib.Omega.{arith}
use lib.Dec.{lit<}
use lib.Arith.{digits_lt, digits_div, digits_mod}
use lib.Pow.{pow-add}
use lib.ListN.{length, length-append}
use Rattle.laws.specs.Value.{value_of, in_bytes, Bytes}

pub value_lt : (s : List ℕ) → Bytes s → value_of s < 256 ^ length s
unfolding value_of
value_lt [] h = lit< tt
value_lt (x ∷ s) h =
    subst (λ (n : ℕ). x * 256 ^ length s + value_of s < n) (mul_comm 256 (256 ^ length s) ∙ sym (pow-suc 256 (length s)))
    (digits_lt (h 0) (value_lt s (λ k. h (suc k))))

pub length_in_bytes : (n v : ℕ) → length (in_bytes n v) ≡ n
unfolding in_bytes
length_in_bytes zero v = refl
length_in_bytes (suc n) v = ap suc (length_in_bytes n (v % 256 ^ n))

-- bytes to a number and back
pub bytes_of_value : (s : List ℕ) → Bytes s → in_bytes (length s) (value_of s) ≡ s
unfolding value_of in_bytes
bytes_of_value [] h = refl
bytes_of_value (x ∷ s) h =
    let low = value_lt s (λ k. h (suc k)) in
    ap₂ (λ (y : ℕ) (l : List ℕ). y ∷ l) (digits_div x low) (ap (in_bytes (length s)) (digits_mod x low) ∙ bytes_of_value s (λ k. h (suc k)))

-- a number to bytes and back
pub value_of_bytes : (n v : ℕ) → v < 256 ^ n → value_of (in_bytes n v) ≡ v
unfolding value_of in_bytes
value_of_bytes zero v h = omega arith
value_of_bytes (suc n) v h =
    ap₂ (λ (m w : ℕ). v / 256 ^ n * 256 ^ m + w) (length_in_bytes n (v % 256 ^ n))
    (value_of_bytes n (v % 256 ^ n) (mod-lt v (one-le-pow n 256 (lit< tt))))
    ∙ div-add-mod' v (256 ^ n)

pub value_append : (s t : List ℕ) → value_of (s ++ t) ≡ value_of s * 256 ^ length t + value_of t
unfolding value_of
value_append [] t = sym (ap (λ (n : ℕ). n + value_of t) (zero-mul (256 ^ length t)) ∙ zero-add (value_of t))
value_append (x ∷ s) t =
    let high : x * 256 ^ length (s ++ t) ≡ x * 256 ^ length s * 256 ^ length t =
    ap (λ (n : ℕ). x * 256 ^ n) (length-append s t) ∙ ap (λ (n : ℕ). x * n) (pow-add 256 (length s) (length t))
    ∙ sym (mul_assoc x (256 ^ length s) (256 ^ length t)) in
    omega (arith, high, value_append s t, add-mul (x * 256 ^ length s) (value_of s) (256 ^ length t))

-- a byte is eight bits
pub bits_of_bytes : (n : ℕ) → 256 ^ n ≡ 2 ^ (8 * n)
bits_of_bytes zero = refl
bits_of_bytes (suc n) =
    let p : 8 * n + 8 ≡ 8 * suc n = omega arith in
    pow-suc 256 n ∙ ap (λ (m : ℕ). m * 256) (bits_of_bytes n) ∙ sym (pow-add 2 (8 * n) 8) ∙ ap (λ (m : ℕ). 2 ^ m) p

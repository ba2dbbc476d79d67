-- The code is linear, and its data can be read off. Assumes nothing.
use mathlib.Core.Path.{◌≡◌, sym, ap, ap₂, ◌∙◌}
use mathlib.Core.Logic.{⊎_elim}
use Prim.Native.Nat.{ℕ, ◌+◌, ◌*◌, ◌/◌, ◌%◌, ◌^◌, ◌<◌}
use native.Mathlib.Nat.{mod-lt}
use native.Mathlib.Omega.{arith}
use lib.Dec.{lit<}
use lib.Bits.{bit_xor, xor_block}
use lib.Count.{ones_in}
use Rattle.laws.specs.Division.{rem}
use Rattle.laws.proofs.Divide.{bit_cases, shl_xor, rem_lt, rem-xor}
use Rattle.laws.proofs.Xor.{ones_parity}
use Rattle.golay.specs.Golay.{check, golay}

xor_bits : (p q : ℕ) → bit_xor (p % 2) (q % 2) ≡ (p + q) % 2
xor_bits p q =
    ⊎_elim
    (λ ep. ⊎_elim (λ eq. ap₂ bit_xor ep eq ∙ omega arith) (λ eq. ap₂ bit_xor ep eq ∙ omega arith) (bit_cases (q % 2) (mod-lt q (lit< tt))))
    (λ ep. ⊎_elim (λ eq. ap₂ bit_xor ep eq ∙ omega arith) (λ eq. ap₂ bit_xor ep eq ∙ omega arith) (bit_cases (q % 2) (mod-lt q (lit< tt))))
    (bit_cases (p % 2) (mod-lt p (lit< tt)))

add_swap : (a b c d : ℕ) → (a + b) + (c + d) ≡ (a + c) + (b + d)
add_swap a b c d = omega arith

sum_parity : (a b m n : ℕ) → a % 2 ≡ m % 2 → b % 2 ≡ n % 2 → (a + b) % 2 ≡ (m + n) % 2
sum_parity a b m n p q = omega arith

-- the three parts of a word
abbrev word : ℕ → ℕ → ℕ → ℕ
word d r p = (d * 2 ^ 11 + r) * 2 ^ 1 + p

word-xor : (d e r s p q : ℕ) → r < 2 ^ 11 → s < 2 ^ 11 → p < 2 ^ 1 → q < 2 ^ 1
    → bit_xor (word d r p) (word e s q) ≡ word (bit_xor d e) (bit_xor r s) (bit_xor p q)
word-xor d e r s p q hr hs hp hq =
    xor_block 1 (d * 2 ^ 11 + r) (e * 2 ^ 11 + s) p q hp hq ∙ ap (λ (n : ℕ). n * 2 ^ 1 + bit_xor p q) (xor_block 11 d e r s hr hs)

pub check-lt : (d : ℕ) → d < 4096 → check d < 2048
check-lt d h = rem_lt 11 0x475 (lit< tt) 12 (d * 2 ^ 11) (omega arith)

-- the bits that the parity counts
abbrev ones : ℕ → ℕ
ones d = ones_in 12 d + ones_in 11 (check d)

golay-word : (d : ℕ) → golay d ≡ word d (check d) (ones d % 2)
unfolding golay
golay-word d = omega arith

check-xor : (d e : ℕ) → d < 4096 → e < 4096 → check (bit_xor d e) ≡ bit_xor (check d) (check e)
check-xor d e hd he =
    ap (rem 11 0x475 12) (sym (shl_xor d e 11)) ∙ rem-xor 11 0x475 (lit< tt) 12 (d * 2 ^ 11) (e * 2 ^ 11) (omega arith) (omega arith)

parity_xor : (d e : ℕ) → d < 4096 → e < 4096 → ones (bit_xor d e) % 2 ≡ bit_xor (ones d % 2) (ones e % 2)
parity_xor d e hd he =
    ap (λ (n : ℕ). (ones_in 12 (bit_xor d e) + ones_in 11 n) % 2) (check-xor d e hd he)
    ∙ sum_parity (ones_in 12 (bit_xor d e)) (ones_in 11 (bit_xor (check d) (check e))) (ones_in 12 d + ones_in 12 e) (ones_in 11 (check d) + ones_in 11 (check e))
    (ones_parity 12 d e) (ones_parity 11 (check d) (check e))
    ∙ ap (λ (n : ℕ). n % 2) (add_swap (ones_in 12 d) (ones_in 12 e) (ones_in 11 (check d)) (ones_in 11 (check e))) ∙ sym (xor_bits (ones d) (ones e))

pub golay-xor : (d e : ℕ) → d < 4096 → e < 4096 → golay (bit_xor d e) ≡ bit_xor (golay d) (golay e)
golay-xor d e hd he =
    golay-word (bit_xor d e)
    ∙ ap₂ (λ (r p : ℕ). word (bit_xor d e) r p) (check-xor d e hd he) (parity_xor d e hd he)
    ∙ sym (word-xor d e (check d) (check e) (ones d % 2) (ones e % 2) (check-lt d hd) (check-lt e he) (mod-lt (ones d) (lit< tt)) (mod-lt (ones e) (lit< tt)))
    ∙ sym (ap₂ bit_xor (golay-word d) (golay-word e))

front : (d r p : ℕ) → r < 2048 → p < 2 → word d r p / 4096 ≡ d
front d r p hr hp = omega arith

pub golay_data : (d : ℕ) → d < 4096 → golay d / 4096 ≡ d
golay_data d h = ap (λ (n : ℕ). n / 4096) (golay-word d) ∙ front d (check d) (ones d % 2) (check-lt d h) (mod-lt (ones d) (lit< tt))

pub golay-lt : (d : ℕ) → d < 4096 → golay d < 2 ^ 24
golay-lt d h = omega (arith, golay_data d h)

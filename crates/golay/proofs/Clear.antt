-- What the search has passed: no codeword at one, two or three flips. Assumes nothing.
use mathlib.Core.Path.{◌≡◌}
use mathlib.Core.Bool.{false}
use Prim.Native.Nat.{ℕ, ◌+◌, ◌*◌, ◌%◌, ◌^◌, ◌<◌}
use borrow.Author.Count.{below_more}
use lib.Bits.{bit_xor}
use Rattle.golay.specs.Golay.{is_word}

-- bit i of a flipped, as the program has it
abbrev pub flip : ℕ → ℕ → ℕ
flip a i = bit_xor a (1 * 2 ^ i % 4294967296)

-- no word at b with one more bit flipped, above j and below n
abbrev pub Clear3 : ℕ → ℕ → ℕ → Type 0
Clear3 b j n = (k : ℕ) → k < n → j < k → is_word (flip b k) ≡ false

abbrev pub Clear2 : ℕ → ℕ → ℕ → Type 0
Clear2 a i n = (j : ℕ) → j < n → i < j → (is_word (flip a j) ≡ false) × Clear3 (flip a j) j 24

abbrev pub Clear1 : ℕ → ℕ → Type 0
Clear1 w n = (i : ℕ) → i < n → (is_word (flip w i) ≡ false) × Clear2 (flip w i) i 24

-- one more is passed
pub more3 : (b j k : ℕ) → Clear3 b j k → is_word (flip b k) ≡ false → Clear3 b j (k + 1)
more3 b j k c e = below_more (λ (n : ℕ). j < n → is_word (flip b n) ≡ false) k c (λ l. e)

pub more2 : (a i j : ℕ) → Clear2 a i j → is_word (flip a j) ≡ false → Clear3 (flip a j) j 24 → Clear2 a i (j + 1)
more2 a i j c e d = below_more (λ (n : ℕ). i < n → (is_word (flip a n) ≡ false) × Clear3 (flip a n) n 24) j c (λ l. (e, d))

pub more1 : (w i : ℕ) → Clear1 w i → is_word (flip w i) ≡ false → Clear2 (flip w i) i 24 → Clear1 w (i + 1)
more1 w i c e d = below_more (λ (n : ℕ). (is_word (flip w n) ≡ false) × Clear2 (flip w n) n 24) i c (e, d)

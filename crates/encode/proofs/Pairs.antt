-- The four pairs of bits of a byte, and their symbols in an array of 192. Assumes nothing.
use mathlib.Core.Path.{◌≡◌, ap, ap₂, ◌∙◌, sym, subst}
use mathlib.Core.Bool.{false}
use mathlib.Core.List.{List}
use Prim.Native.Nat.{ℕ, ◌+◌, ◌-◌, ◌*◌, ◌/◌, ◌%◌, ◌^◌, ◌<◌}
use native.Mathlib.Omega.{arith}
use lib.Dec.{eqb}
use lib.Ieee.{Float, nan}
use lib.ListN.{get_or, set}
use Rattle.laws.proofs.Values.{Filled, filled_more}
use Rattle.bits.specs.Bits.{odd, bits_of}
use Rattle.bits.proofs.Back.{bit_at}
use Rattle.encode.specs.Symbols.{symbol_of}

-- the symbol at place k of some bytes
abbrev pub symbol_at : List ℕ → ℕ → Float
symbol_at s k = symbol_of (get_or (bits_of s) (2 * k) false) (get_or (bits_of s) (2 * k + 1) false)

-- bit j of byte i
bit_of : (s : List ℕ) (i j k : ℕ) → j < 8 → k ≡ 8 * i + j → get_or (bits_of s) k false ≡ odd (get_or s i 0 / 2 ^ (7 - j))
bit_of s i j k h e =
    let q : k / 8 ≡ i = omega arith in
    let r : k % 8 ≡ j = omega arith in
    bit_at s k ∙ ap₂ (λ (m n : ℕ). odd (get_or s m 0 / 2 ^ (7 - n))) q r

-- a number whose two low bits are pair t of byte i gives the symbol there
pub pair_symbol : (s : List ℕ) (i t k d : ℕ) → t < 4 → k ≡ 4 * i + t → d / 2 % 2 ≡ get_or s i 0 / 2 ^ (7 - 2 * t) % 2
    → d % 2 ≡ get_or s i 0 / 2 ^ (7 - (2 * t + 1)) % 2 → symbol_of (odd (d / 2)) (odd d) ≡ symbol_at s k
pair_symbol s i t k d h e high low =
    ap₂ symbol_of
    (ap (λ (m : ℕ). eqb m 1) high ∙ sym (bit_of s i (2 * t) (2 * k) (omega arith) (omega arith)))
    (ap (λ (m : ℕ). eqb m 1) low ∙ sym (bit_of s i (2 * t + 1) (2 * k + 1) (omega arith) (omega arith)))

-- four more symbols of an array
pub filled_four : (f : ℕ → Float) (l : List Float) (i : ℕ) (a b c d : Float) → i < 48 → Filled f 192 nan l (4 * i)
    → a ≡ f (4 * i) → b ≡ f (4 * i + 1) → c ≡ f (4 * i + 2) → d ≡ f (4 * i + 3)
    → Filled f 192 nan (set (set (set (set l (4 * i) a) (4 * i + 1) b) (4 * i + 2) c) (4 * i + 3) d) (4 * (i + 1))
filled_four f l i a b c d h p ea eb ec ed =
    let one = filled_more f 192 nan l (4 * i) a (omega arith) p ea in
    let two = filled_more f 192 nan _ (4 * i + 1) b (omega arith) one eb in
    let n₂ : 4 * i + 1 + 1 ≡ 4 * i + 2 = omega arith in
    let three = filled_more f 192 nan _ (4 * i + 2) c (omega arith) (subst (Filled f 192 nan _) n₂ two) ec in
    let n₃ : 4 * i + 2 + 1 ≡ 4 * i + 3 = omega arith in
    let four = filled_more f 192 nan _ (4 * i + 3) d (omega arith) (subst (Filled f 192 nan _) n₃ three) ed in
    let n₄ : 4 * i + 3 + 1 ≡ 4 * (i + 1) = omega arith in
    subst (Filled f 192 nan _) n₄ four

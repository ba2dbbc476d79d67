-- A callsign and its number, each from the other: base 40, least digit first. Assumes nothing.
use mathlib.Core.Path.{◌≡◌, refl, ap, ap₂, ◌∙◌}
use mathlib.Core.Bool.{Bool, true, false, ◌&&◌}
use mathlib.Core.List.{List, [], ◌∷◌, map}
use Prim.Native.Nat.{ℕ, zero, suc, ◌+◌, ◌*◌, ◌/◌, ◌%◌, ◌^◌, ◌≤◌, ◌<◌}
use native.Mathlib.Nat.{pow-suc, mod-lt, one-le-pow}
use native.Mathlib.Omega.{arith}
use lib.Dec.{eqb, ltb, lit<}
use lib.ListN.{length, get_or}
use borrow.Author.Tests.{eqb-true, eq-eqb, ltb-true, lt-ltb}
use Rattle.address.specs.Callsign.{character, upper, digit_of, callsign_of, known, blank, callsign_value}
use Rattle.address.proofs.Alphabet.{digit_character, character_digit, digit_space, space_digit}

pub both_true : (a b : Bool) → (a && b) ≡ true → (a ≡ true) × (b ≡ true)
both_true true b e = (refl, e)
both_true false b e = absurd (let z : ◌≡◌ {A = ℕ} 0 1 = cc in omega arith)

pub known_head : (c : ℕ) (s : List ℕ) → known (c ∷ s) ≡ true → digit_of c < 40
unfolding known
known_head c s e = ltb-true (digit_of c) 40 (both_true (ltb (digit_of c) 40) (known s) e).0

pub known_tail : (c : ℕ) (s : List ℕ) → known (c ∷ s) ≡ true → known s ≡ true
unfolding known
known_tail c s e = (both_true (ltb (digit_of c) 40) (known s) e).1

pub known_more : (c : ℕ) (s : List ℕ) → digit_of c < 40 → known s ≡ true → known (c ∷ s) ≡ true
unfolding known
known_more c s h e = simp (lt-ltb (digit_of c) 40 h, e)

-- every byte of a known callsign is in the alphabet
pub known_at : (s : List ℕ) (k : ℕ) → known s ≡ true → k < length s → digit_of (get_or s k 0) < 40
known_at [] k e h = absurd (omega arith)
known_at (c ∷ s) zero e h = known_head c s e
known_at (c ∷ s) (suc k) e h = known_at s k (known_tail c s e) (omega arith)

-- a byte that is not makes it unknown
pub unknown_at : (s : List ℕ) (k : ℕ) → k < length s → 40 ≤ digit_of (get_or s k 0) → known s ≡ false
unknown_at s k h e = go (known s) refl
  where
    go : (b : Bool) → known s ≡ b → b ≡ false
    go true q = absurd (omega (arith, known_at s k q h))
    go false q = refl

-- ---- a number to characters and back
pub length_callsign : (n v : ℕ) → length (callsign_of n v) ≡ n
unfolding callsign_of
length_callsign zero v = refl
length_callsign (suc n) v = ap suc (length_callsign n (v / 40))

digit_back : (v : ℕ) → digit_of (character (v % 40)) ≡ v % 40
digit_back v = digit_character (v % 40) (mod-lt v (lit< tt))

pub callsign_known : (n v : ℕ) → known (callsign_of n v) ≡ true
unfolding callsign_of known
callsign_known zero v = refl
callsign_known (suc n) v =
    known_more (character (v % 40)) (callsign_of n (v / 40)) (omega (arith, digit_back v)) (callsign_known n (v / 40))

pub number_of_callsign : (n v : ℕ) → v < 40 ^ n → callsign_value (callsign_of n v) ≡ v
unfolding callsign_of callsign_value
number_of_callsign zero v h = omega arith
number_of_callsign (suc n) v h =
    let small : v / 40 < 40 ^ n = omega (arith, pow-suc 40 n) in
    omega (arith, digit_back v, number_of_callsign n (v / 40) small)

-- ---- characters to a number and back
pub number_lt : (n : ℕ) (s : List ℕ) → length s ≤ n → known s ≡ true → callsign_value s < 40 ^ n
unfolding callsign_value
number_lt n [] h e = one-le-pow n 40 (lit< tt)
number_lt zero (c ∷ s) h e = absurd (omega arith)
number_lt (suc n) (c ∷ s) h e = omega (arith, pow-suc 40 n, known_head c s e, number_lt n s (omega arith) (known_tail c s e))

pub callsign_of_number : (s : List ℕ) → known s ≡ true → callsign_of (length s) (callsign_value s) ≡ map upper s
unfolding callsign_of callsign_value
callsign_of_number [] e = refl
callsign_of_number (c ∷ s) e =
    let h = known_head c s e in
    let low : (digit_of c + 40 * callsign_value s) % 40 ≡ digit_of c = omega arith in
    let rest : (digit_of c + 40 * callsign_value s) / 40 ≡ callsign_value s = omega arith in
    ap₂ (λ (x : ℕ) (l : List ℕ). x ∷ l) (ap character low ∙ character_digit c h)
    (ap (callsign_of (length s)) rest ∙ callsign_of_number s (known_tail c s e))

-- 0 is the number of spaces only
pub number_zero : (s : List ℕ) → known s ≡ true → callsign_value s ≡ 0 → blank s ≡ true
unfolding callsign_value blank
number_zero [] k e = refl
number_zero (c ∷ s) k e =
    simp (eq-eqb c 32 (digit_space c (omega arith)), number_zero s (known_tail c s k) (omega arith))

pub number_blank : (s : List ℕ) → blank s ≡ true → callsign_value s ≡ 0
unfolding callsign_value blank
number_blank [] e = refl
number_blank (c ∷ s) e =
    let both = both_true (eqb c 32) (blank s) e in
    let space : digit_of c ≡ 0 = ap digit_of (eqb-true c 32 both.0) ∙ space_digit in
    omega (arith, number_blank s both.1)

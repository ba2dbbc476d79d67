-- The alphabet: 40 characters, each at one place, and what a search for a place passes. Assumes nothing.
use mathlib.Core.Path.{◌≡◌, refl, sym, ap, ◌∙◌}
use mathlib.Core.Bool.{Bool, true, false, cond, not, ◌&&◌}
use mathlib.Core.List.{List, [], ◌∷◌}
use Prim.Native.Nat.{ℕ, zero, suc, ◌+◌, ◌-◌, ◌≤◌, ◌<◌}
use native.Mathlib.Omega.{arith}
use lib.Dec.{eqb, ltb, leb, eqb→eq}
use lib.ListN.{length, get_or}
use borrow.Author.Tests.{eqb-true, eq-eqb, leb-true, le-leb, lt-leb, ltb-true, ltb-false}
use Rattle.std.specs.List.{position_or_len}
use Rattle.std.specs.Char.{to_ascii_uppercase}
use Rattle.laws.proofs.Every.{every_at}
use Rattle.address.specs.Callsign.{alphabet, character, upper, place_in, digit_of}
use Rattle.address.specs.When.{InAlphabet}

-- ---- the place of a byte in any list
-- what stands there is the byte
pub at_place : (l : List ℕ) (c : ℕ) → place_in l c < length l → get_or l (place_in l c) 0 ≡ c
unfolding place_in
at_place [] c h = absurd (omega arith)
at_place (x ∷ l) c h = go (eqb x c) refl h (at_place l c)
  where
    go : (b : Bool) → eqb x c ≡ b → cond b 0 (suc (place_in l c)) < suc (length l)
        → (place_in l c < length l → get_or l (place_in l c) 0 ≡ c) → get_or (x ∷ l) (cond b 0 (suc (place_in l c))) 0 ≡ c
    go true e k r = eqb-true x c e
    go false e k r = r (omega arith)

-- and nowhere before
pub place_first : (l : List ℕ) (c d : ℕ) → d < length l → get_or l d 0 ≡ c → place_in l c ≤ d
unfolding place_in
place_first [] c d h e = absurd (omega arith)
place_first (x ∷ l) c zero h e = rw (eq-eqb x c e) (omega arith)
place_first (x ∷ l) c (suc d) h e = go (eqb x c) (place_first l c d (omega arith) e)
  where
    go : (b : Bool) → place_in l c ≤ d → cond b 0 (suc (place_in l c)) ≤ suc d
    go true h = omega arith
    go false h = omega arith

-- it is the first place at which std's search finds it
pub place_position : (l : List ℕ) (c : ℕ) → place_in l c ≡ position_or_len (λ x. eqb x c) l
unfolding place_in
place_position [] c = refl
place_position (x ∷ l) c = go (eqb x c) (place_position l c)
  where
    go : (b : Bool) → place_in l c ≡ position_or_len (λ x. eqb x c) l
        → cond b 0 (suc (place_in l c)) ≡ cond (not b) (1 + position_or_len (λ x. eqb x c) l) 0
    go true e = refl
    go false e = omega arith

-- ---- upper case
pub upper_low : (c : ℕ) → c < 97 → upper c ≡ c
unfolding upper
upper_low c h = simp (lt-leb 97 c h)

pub upper_high : (c : ℕ) → 122 < c → upper c ≡ c
unfolding upper
upper_high c h = simp (le-leb 97 c (omega arith), lt-leb c 122 h)

pub upper_letter : (c : ℕ) → 97 ≤ c → c ≤ 122 → upper c ≡ c - 32
unfolding upper
upper_letter c l h = simp (le-leb 97 c l, le-leb c 122 h)

-- std's upper case
pub std_upper : (c : ℕ) → to_ascii_uppercase c ≡ upper c
unfolding upper
std_upper c = go (ltb c 97) (ltb c 123) refl refl
  where
    go : (a b : Bool) → ltb c 97 ≡ a → ltb c 123 ≡ b → cond a c (cond b (c - 32) c) ≡ upper c
    go true b p q = sym (upper_low c (ltb-true c 97 p))
    go false true p q = let h = ltb-true c 123 q in sym (upper_letter c (ltb-false c 97 p) (omega arith))
    go false false p q = let h = ltb-false c 123 q in sym (upper_high c (omega arith))

-- only the space is written as a space
upper_space : (c : ℕ) → upper c ≡ 32 → c ≡ 32
unfolding upper
upper_space c = go (leb 97 c) (leb c 122) refl
  where
    go : (a b : Bool) → leb 97 c ≡ a → cond (a && b) (c - 32) c ≡ 32 → c ≡ 32
    go true true h e = omega (arith, leb-true 97 c h)
    go true false h e = e
    go false b h e = e

-- ---- digits
-- the digit of a digit's character
pub digit_character : (d : ℕ) → d < 40 → digit_of (character d) ≡ d
unfolding digit_of character alphabet upper place_in
digit_character d h = eqb→eq (digit_of (character d)) d (every_at (λ k. eqb (digit_of (character k)) k) 40 d h tt)

-- the character of a byte's digit
pub character_digit : (c : ℕ) → digit_of c < 40 → character (digit_of c) ≡ upper c
unfolding digit_of character alphabet
character_digit c h = at_place alphabet (upper c) h

-- digit 0 is the space's only
pub digit_space : (c : ℕ) → digit_of c ≡ 0 → c ≡ 32
unfolding character alphabet
digit_space c e = upper_space c (sym (character_digit c (omega arith)) ∙ ap character e)

pub space_digit : digit_of 32 ≡ 0
unfolding digit_of upper place_in alphabet
space_digit = refl

-- a digit below 40 and a place in the alphabet are one thing
pub digit_in : (c : ℕ) → digit_of c < 40 → InAlphabet c
unfolding character
digit_in c h = (digit_of c, h, character_digit c h)

pub in_digit : (c : ℕ) → InAlphabet c → digit_of c < 40
unfolding digit_of alphabet
in_digit c p = omega (arith, place_first alphabet (upper c) p.0 p.1 p.2)

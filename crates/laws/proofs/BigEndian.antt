-- What std's from_be_bytes and to_be_bytes are: value_of and in_bytes, also where the first bytes are zeros. Assumes nothing.
use mathlib.Core.Path.{◌≡◌, sym, ap, ap₂, ◌∙◌}
use mathlib.Core.List.{List, [], ◌∷◌}
use Prim.Native.Nat.{ℕ, suc, ◌+◌, ◌*◌, ◌/◌, ◌%◌, ◌^◌, ◌<◌}
use native.Mathlib.Nat.{zero-mul, zero-add}
use native.Mathlib.Omega.{arith}
use lib.Arith.{digits_div, digits_mod}
use lib.ListN.{length}
use Rattle.std.specs.Int.{w16, w32, w64, from_be_bytes, to_be_bytes}
use Rattle.std.proofs.lemmas.Nat.{be_bytes_2, be_bytes_4, be_bytes_8}
use Rattle.laws.specs.Value.{value_of, in_bytes}
use Rattle.laws.proofs.Number.{length_in_bytes, value_of_bytes}
use Rattle.laws.proofs.Bytes.{bytes_in_bytes}

-- ---- bytes to a number

pub from_be_2 : (a b : ℕ) → from_be_bytes w16 (a ∷ b ∷ []) ≡ value_of (a ∷ b ∷ [])
unfolding value_of
from_be_2 a b = omega arith

pub from_be_4 : (a b c d : ℕ) → from_be_bytes w32 (a ∷ b ∷ c ∷ d ∷ []) ≡ value_of (a ∷ b ∷ c ∷ d ∷ [])
unfolding value_of
from_be_4 a b c d = omega arith

pub from_be_8 : (a b c d e f g h : ℕ)
    → from_be_bytes w64 (a ∷ b ∷ c ∷ d ∷ e ∷ f ∷ g ∷ h ∷ []) ≡ value_of (a ∷ b ∷ c ∷ d ∷ e ∷ f ∷ g ∷ h ∷ [])
unfolding value_of
from_be_8 a b c d e f g h = omega arith

-- the same of a list whose elements have no names
pub from_be_list_2 : (s : List ℕ) → length s ≡ 2 → from_be_bytes w16 s ≡ value_of s
from_be_list_2 [] e = absurd (omega arith)
from_be_list_2 (a ∷ []) e = absurd (omega arith)
from_be_list_2 (a ∷ b ∷ []) e = from_be_2 a b
from_be_list_2 (a ∷ b ∷ c ∷ s) e = absurd (omega arith)

pub from_be_list_4 : (s : List ℕ) → length s ≡ 4 → from_be_bytes w32 s ≡ value_of s
from_be_list_4 [] e = absurd (omega arith)
from_be_list_4 (a ∷ []) e = absurd (omega arith)
from_be_list_4 (a ∷ b ∷ []) e = absurd (omega arith)
from_be_list_4 (a ∷ b ∷ c ∷ []) e = absurd (omega arith)
from_be_list_4 (a ∷ b ∷ c ∷ d ∷ []) e = from_be_4 a b c d
from_be_list_4 (a ∷ b ∷ c ∷ d ∷ f ∷ s) e = absurd (omega arith)

pub from_be_list_8 : (s : List ℕ) → length s ≡ 8 → from_be_bytes w64 s ≡ value_of s
from_be_list_8 [] e = absurd (omega arith)
from_be_list_8 (a ∷ []) e = absurd (omega arith)
from_be_list_8 (a ∷ b ∷ []) e = absurd (omega arith)
from_be_list_8 (a ∷ b ∷ c ∷ []) e = absurd (omega arith)
from_be_list_8 (a ∷ b ∷ c ∷ d ∷ []) e = absurd (omega arith)
from_be_list_8 (a ∷ b ∷ c ∷ d ∷ f ∷ []) e = absurd (omega arith)
from_be_list_8 (a ∷ b ∷ c ∷ d ∷ f ∷ g ∷ []) e = absurd (omega arith)
from_be_list_8 (a ∷ b ∷ c ∷ d ∷ f ∷ g ∷ h ∷ []) e = absurd (omega arith)
from_be_list_8 (a ∷ b ∷ c ∷ d ∷ f ∷ g ∷ h ∷ i ∷ []) e = from_be_8 a b c d f g h i
from_be_list_8 (a ∷ b ∷ c ∷ d ∷ f ∷ g ∷ h ∷ i ∷ j ∷ s) e = absurd (omega arith)

-- a zero in front
pub value_zero : (s : List ℕ) → value_of (0 ∷ s) ≡ value_of s
unfolding value_of
value_zero s = ap (λ (n : ℕ). n + value_of s) (zero-mul (256 ^ length s)) ∙ zero-add (value_of s)

-- ---- a number to bytes

pub to_be_2 : (v : ℕ) → v < 256 ^ 2 → to_be_bytes w16 v ≡ in_bytes 2 v
to_be_2 v h =
    be_bytes_2 (in_bytes 2 v) v (length_in_bytes 2 v) (bytes_in_bytes 2 v h)
    (sym (from_be_list_2 (in_bytes 2 v) (length_in_bytes 2 v) ∙ value_of_bytes 2 v h))

pub to_be_4 : (v : ℕ) → v < 256 ^ 4 → to_be_bytes w32 v ≡ in_bytes 4 v
to_be_4 v h =
    be_bytes_4 (in_bytes 4 v) v (length_in_bytes 4 v) (bytes_in_bytes 4 v h)
    (sym (from_be_list_4 (in_bytes 4 v) (length_in_bytes 4 v) ∙ value_of_bytes 4 v h))

pub to_be_8 : (v : ℕ) → v < 256 ^ 8 → to_be_bytes w64 v ≡ in_bytes 8 v
to_be_8 v h =
    be_bytes_8 (in_bytes 8 v) v (length_in_bytes 8 v) (bytes_in_bytes 8 v h)
    (sym (from_be_list_8 (in_bytes 8 v) (length_in_bytes 8 v) ∙ value_of_bytes 8 v h))

-- of a number that fits in fewer bytes the first is zero
pub in_bytes_zero : (n v : ℕ) → v < 256 ^ n → in_bytes (suc n) v ≡ 0 ∷ in_bytes n v
unfolding in_bytes
in_bytes_zero n v h =
    let whole : v ≡ 0 * 256 ^ n + v = sym (ap (λ (m : ℕ). m + v) (zero-mul (256 ^ n)) ∙ zero-add v) in
    ap₂ {C = List ℕ} (λ (x y : ℕ). x ∷ in_bytes n y) (ap (λ (m : ℕ). m / 256 ^ n) whole ∙ digits_div 0 h) (ap (λ (m : ℕ). m % 256 ^ n) whole ∙ digits_mod 0 h)

-- three of four bytes, and six of eight
pub to_be_4_3 : (v : ℕ) → v < 256 ^ 3 → to_be_bytes w32 v ≡ 0 ∷ in_bytes 3 v
to_be_4_3 v h = to_be_4 v (omega arith) ∙ in_bytes_zero 3 v h

pub to_be_8_6 : (v : ℕ) → v < 256 ^ 6 → to_be_bytes w64 v ≡ 0 ∷ 0 ∷ in_bytes 6 v
to_be_8_6 v h =
    let less : v < 256 ^ 7 = omega arith in
    to_be_8 v (omega arith) ∙ in_bytes_zero 7 v less ∙ ap {B = List ℕ} (λ (s : List ℕ). 0 ∷ s) (in_bytes_zero 6 v h)

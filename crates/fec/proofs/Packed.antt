-- Bits that are summed, compared and kept. Assumes nothing.
use mathlib.Core.Path.{◌≡◌, refl, ap, ◌∙◌}
use mathlib.Core.Bool.{Bool, true, false, not, beq}
use mathlib.Core.List.{List}
use Prim.Native.Nat.{ℕ, ◌≤◌}
use native.Mathlib.Omega.{arith}
use lib.Dec.{eqb}
use lib.ListN.{take, get_or, get_or-eq_default, length-take}
use mir.Val.{bool_byte}
use Rattle.bits.specs.Bits.{bit}
use Rattle.fec.specs.Code.{◌⊕◌}

sum_is : (a b : Bool) → not (beq a b) ≡ a ⊕ b
sum_is true true = refl
sum_is true false = refl
sum_is false true = refl
sum_is false false = refl

pub sum_of_three : (a b c : Bool) → not (beq (not (beq a b)) c) ≡ a ⊕ b ⊕ c
sum_of_three a b c = sum_is (not (beq a b)) c ∙ ap (λ (x : Bool). x ⊕ c) (sum_is a b)

pub sum_of_four : (a b c d : Bool) → not (beq (not (beq (not (beq a b)) c)) d) ≡ a ⊕ b ⊕ c ⊕ d
sum_of_four a b c d = sum_is (not (beq (not (beq a b)) c)) d ∙ ap (λ (x : Bool). x ⊕ d) (sum_of_three a b c)

pub eqb-bit : (x : ℕ) (b : Bool) → x ≡ bit b → eqb x 1 ≡ b
eqb-bit x true e = ap (λ (x : ℕ). eqb x 1) e
eqb-bit x false e = ap (λ (x : ℕ). eqb x 1) e

pub bit_unlike : (a b : Bool) → bool_byte (not (beq a b)) ≡ bit (a ⊕ b)
bit_unlike true true = refl
bit_unlike true false = refl
bit_unlike false true = refl
bit_unlike false false = refl

pub kept_past : (w : List Bool) (n k : ℕ) → n ≤ k → get_or (take n w) k false ≡ false
kept_past w n k h = get_or-eq_default (take n w) false {n = k} (omega (arith, length-take n w))

-- The 48 bits of a LICH, as the code has them. Assumes nothing.
use mathlib.Core.Path.{◌≡◌, ◌∙◌}
use mathlib.Core.List.{List, [], ◌∷◌}
use Prim.Native.Nat.{ℕ, ◌*◌}
use native.Mathlib.Omega.{arith}
use lib.ListN.{length, get_or}
use Rattle.std.specs.Int.{w64, from_be_bytes}
use Rattle.laws.proofs.BigEndian.{from_be_8, value_zero}
use Rattle.encode.specs.Lich.{lich_value}

-- the eight bytes that the code reads as one number
pub value_six : (counter : ℕ) (s : List ℕ) → length s ≡ 5
    → from_be_bytes w64 (0 ∷ 0 ∷ get_or s 0 0 ∷ get_or s 1 0 ∷ get_or s 2 0 ∷ get_or s 3 0 ∷ get_or s 4 0 ∷ counter * 32 ∷ []) ≡ lich_value counter s
value_six n [] h = absurd (omega arith)
value_six n (a ∷ []) h = absurd (omega arith)
value_six n (a ∷ b ∷ []) h = absurd (omega arith)
value_six n (a ∷ b ∷ c ∷ []) h = absurd (omega arith)
value_six n (a ∷ b ∷ c ∷ d ∷ []) h = absurd (omega arith)
value_six n (a ∷ b ∷ c ∷ d ∷ e ∷ []) h =
    let six : List ℕ = a ∷ b ∷ c ∷ d ∷ e ∷ n * 32 ∷ [] in
    from_be_8 0 0 a b c d e (n * 32) ∙ value_zero (0 ∷ six) ∙ value_zero six
value_six n (a ∷ b ∷ c ∷ d ∷ e ∷ f ∷ s) h = absurd (omega arith)

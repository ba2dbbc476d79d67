-- The numbers of two and of three bytes and the first five of six bytes, written out as the code has them, and what a Golay word can
-- read as. Assumes nothing.
use mathlib.Core.Path.{◌≡◌, refl, ap, ◌∙◌}
use mathlib.Core.List.{List, [], ◌∷◌}
use Prim.Native.Nat.{ℕ, ◌+◌, ◌*◌, ◌/◌, ◌%◌, ◌^◌, ◌<◌, ◌≤◌}
use native.Mathlib.Decide.{dec_lt}
use native.Mathlib.Omega.{arith}
use lib.Pow.{mod-mod-pow}
use lib.ListN.{length, get_or, take, drop, length-take, length-drop}
use lib.Seq.{get_or-take, get_or-drop}
use Rattle.laws.specs.Value.{value_of, in_bytes}
use Rattle.std.specs.Prelude.{Ok}
use Rattle.golay.specs.Golay.{decoded_of}
use Rattle.golay.proofs.Only.{reads, over}

two : (s : List ℕ) → length s ≡ 2 → value_of s ≡ get_or s 0 0 * 256 + get_or s 1 0
unfolding value_of
two [] h = absurd (omega arith)
two (a ∷ []) h = absurd (omega arith)
two (a ∷ b ∷ []) h = omega arith
two (a ∷ b ∷ c ∷ s) h = absurd (omega arith)

three : (s : List ℕ) → length s ≡ 3 → value_of s ≡ get_or s 0 0 * 65536 + get_or s 1 0 * 256 + get_or s 2 0
unfolding value_of
three [] h = absurd (omega arith)
three (a ∷ []) h = absurd (omega arith)
three (a ∷ b ∷ []) h = absurd (omega arith)
three (a ∷ b ∷ c ∷ []) h = omega arith
three (a ∷ b ∷ c ∷ d ∷ s) h = absurd (omega arith)

-- the first two bytes
pub value_two : (s : List ℕ) → 2 ≤ length s → value_of (take 2 s) ≡ get_or s 0 0 * 256 + get_or s 1 0
value_two s h =
    two (take 2 s) (omega (arith, length-take 2 s))
    ∙ rw (get_or-take 2 s 0 0 (omega arith), get_or-take 2 s 1 0 (omega arith))

-- three bytes from i on
pub value_three : (s : List ℕ) (i : ℕ) → i + 2 < length s → value_of (take 3 (drop i s)) ≡ get_or s i 0 * 65536 + get_or s (i + 1) 0 * 256 + get_or s (i + 2) 0
value_three s i h =
    let at : (k n : ℕ) → k < 3 → i + k ≡ n → get_or (take 3 (drop i s)) k 0 ≡ get_or s n 0 =
    λ k n b e. get_or-take 3 (drop i s) k 0 b ∙ get_or-drop i s k 0 ∙ ap (λ (m : ℕ). get_or s m 0) e in
    omega (
      arith,
      three (take 3 (drop i s)) (omega (arith, length-take 3 (drop i s), length-drop i s)),
      at 0 i (omega arith) (omega arith),
      at 1 (i + 1) (omega arith) refl,
      at 2 (i + 2) (omega arith) refl,
    )

-- the first five of six bytes
pub first_five : (v : ℕ)
    → v / 0x10000000000 ∷ v % 0x10000000000 / 0x100000000 ∷ v % 0x100000000 / 0x1000000 ∷ v % 0x1000000 / 0x10000 ∷ v % 0x10000 / 0x100 ∷ []
    ≡ take 5 (in_bytes 6 v)
unfolding in_bytes
first_five v =
    let c : v % 0x10000000000 % 0x100000000 ≡ v % 0x100000000 = mod-mod-pow v 8 32 in
    let d : v % 0x100000000 % 0x1000000 ≡ v % 0x1000000 = mod-mod-pow v 8 24 in
    let e : v % 0x1000000 % 0x10000 ≡ v % 0x10000 = mod-mod-pow v 8 16 in
    simp (c, d, e)

-- what a Golay word reads as has 12 bits
pub data_lt : (w d : ℕ) → decoded_of w ≡ Ok d → d < 4096
data_lt w d e = elim (dec_lt w (2 ^ 24)) [
  | yes h ↦ ((reads w h).answered d e).0
  | no n ↦ let r = over w (omega arith) in let z : ◌≡◌ {A = ℕ} 0 1 = cc in absurd (omega arith)
]

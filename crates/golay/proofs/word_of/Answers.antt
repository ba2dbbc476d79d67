-- `golay::word_of` meets its contract: the code is linear. Assumes nothing.
use mathlib.Core.Path.{◌≡◌, sym, ap, ap₂, ◌∙◌}
use mathlib.Core.List.{List}
use Prim.Native.Nat.{ℕ, ◌+◌, ◌*◌, ◌/◌, ◌%◌, ◌<◌}
use native.Mathlib.Nat.{mod-lt}
use native.Mathlib.Omega.{arith}
use lib.Dec.{lit<}
use lib.Bits.{bit_xor, xor_shifted}
use lib.ListN.{get_or}
use Rattle.laws.proofs.Values.{tabled_at}
use Rattle.golay.specs.Golay.{golay}
use Rattle.golay.proofs.Linear.{golay-xor}
use Rattle.golay.proofs.word_of.Goals as goal

in_parts : (v : ℕ) → v < 4096 → bit_xor (golay (v / 64 * 64)) (golay (v % 64)) ≡ golay v
in_parts v h =
    let e : v / 64 * 64 + v % 64 ≡ v = omega arith in
    sym (golay-xor (v / 64 * 64) (v % 64) (omega arith) (omega arith)) ∙ ap golay (xor_shifted (v / 64) 6 (v % 64) (mod-lt v (lit< tt)) ∙ e)

pub returns : goal.returns
returns c =
    let a = c.args in
    let pre = c.requires in
    let v = a.value in
    let h : v < 4096 = pre in
    let up : get_or c.upper-high.result.now (v / 64) 0 ≡ golay (v / 64 * 64) = ap (λ (t : List ℕ). get_or t (v / 64) 0) c.upper-high.ensures ∙ tabled_at (λ (k : ℕ). golay (k * 64)) 64 (v / 64) 0 (omega arith) in
    let down : get_or c.lower-low.result.now (v % 64) 0 ≡ golay (v % 64) = ap (λ (t : List ℕ). get_or t (v % 64) 0) c.lower-low.ensures ∙ tabled_at golay 64 (v % 64) 0 (omega arith) in
    ap₂ bit_xor up down ∙ in_parts v h

-- `decode::lich_from` meets its contract: the bytes are those of the number. Assumes nothing.
use mathlib.Core.Path.{◌≡◌, ap, ap₂, ◌∙◌}
use mathlib.Core.List.{List, [], ◌∷◌}
use Prim.Native.Nat.{ℕ, ◌+◌, ◌*◌, ◌/◌, ◌%◌, ◌^◌, ◌<◌}
use native.Mathlib.Omega.{arith}
use lib.ListN.{get_or, take}
use Rattle.laws.specs.Value.{in_bytes}
use Rattle.laws.proofs.BigEndian.{to_be_8_6}
use Rattle.decode.specs.declared.LichPart.{LichPart}
use Rattle.decode.proofs.lich_from.Goals as goal

five : List ℕ → List ℕ
five l = get_or l 2 0 ∷ get_or l 3 0 ∷ get_or l 4 0 ∷ get_or l 5 0 ∷ get_or l 6 0 ∷ []

pub returns : goal.returns
unfolding five in_bytes
returns c =
    let a = c.args in
    let v = a.a * 2 ^ 36 + a.b * 2 ^ 24 + a.c * 2 ^ 12 + a.d in
    let w = c.from.result * 2 ^ 36 + c.from-2.result * 2 ^ 24 + c.from-3.result * 2 ^ 12 + c.from-4.result in
    let same : w ≡ v = omega (arith, c.from.ensures, c.from-2.ensures, c.from-3.ensures, c.from-4.ensures) in
    let small : w < 256 ^ 6 = omega arith in
    ap₂ {C = LichPart} (λ (n : ℕ) (p : List ℕ). record { counter = n; part = p })
    (ap (λ (l : List ℕ). get_or l 7 0 / 32) c.to_be_bytes.ensures ∙ ap (λ (n : ℕ). n % 256 / 32) same)
    (ap five (c.to_be_bytes.ensures ∙ to_be_8_6 w small) ∙ ap (λ (n : ℕ). take 5 (in_bytes 6 n)) same)

-- `bits::put` meets its contract: the byte that holds the bit is masked or joined. Assumes nothing.
use mathlib.Core.Path.{sym, ap, ◌∙◌}
use Prim.Native.Nat.{ℕ, ◌/◌, ◌%◌}
use native.Mathlib.Omega.{arith}
use lib.ListN.{get_or}
use Rattle.laws.specs.Value.{Bytes}
use Rattle.bits.specs.Places.{flag}
use Rattle.bits.proofs.Setting.{put_in, put_byte, and_clears, or_sets, flag_one}
use Rattle.bits.proofs.put.Goals as goal

pub returns-then-value-eq0 : goal.returns-then-value-eq0
returns-then-value-eq0 c =
    let a = c.args in
    let bytes : Bytes a.bytes.now = λ k. omega (arith, c.slice_known-1.given k) in
    put_byte a.bytes.now a.place a.value _ bytes c.requires
    (and_clears (get_or a.bytes.now (a.place / 8) 0) (a.place % 8) (omega (arith, bytes (a.place / 8))) (omega arith)
    ∙ ap (λ (v : ℕ). put_in (get_or a.bytes.now (a.place / 8) 0) (a.place % 8) (flag v)) (sym c.if-value-eq0.true))

pub returns-else-value-eq0 : goal.returns-else-value-eq0
returns-else-value-eq0 c =
    let a = c.args in
    let bytes : Bytes a.bytes.now = λ k. omega (arith, c.slice_known-1.given k) in
    put_byte a.bytes.now a.place a.value _ bytes c.requires
    (or_sets (get_or a.bytes.now (a.place / 8) 0) (a.place % 8) (omega (arith, bytes (a.place / 8))) (omega arith)
    ∙ ap (put_in (get_or a.bytes.now (a.place / 8) 0) (a.place % 8)) (sym (flag_one a.value c.if-value-eq0.false)))

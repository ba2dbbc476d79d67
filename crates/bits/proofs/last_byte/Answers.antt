-- `bits::last_byte` meets its contract: each turn moves the bits up and adds the next. Assumes nothing.
use mathlib.Core.Path.{◌≡◌, sym, ap, ap₂, ◌∙◌}
use mathlib.Core.Bool.{false}
use Prim.Native.Nat.{ℕ, ◌+◌, ◌*◌}
use native.Mathlib.Omega.{arith}
use Rattle.std.proofs.Common.{rules}
use lib.ListN.{get_or}
use Rattle.bits.specs.Bits.{bit}
use Rattle.bits.proofs.Back.{bit-lt}
use Rattle.bits.proofs.Packed.{first_bits, first_none, first_more, first_lt, first_all}
use Rattle.bits.proofs.last_byte.Goals as goal

pub loop-k-init : goal.loop-k-init
loop-k-init c = sym (first_none c.args.bits.now)

pub overflow_mul-byte : goal.overflow_mul-byte
overflow_mul-byte c = omega (arith, c.loop-k.invariant, first_lt c.args.bits.now c.loop-k.k c.loop-k-test.true)

next : (c : goal.After-from) → c.from.result ≡ bit (get_or c.args.bits.now c.loop-k.k false)
next c = search rules

pub overflow_add-byte : goal.overflow_add-byte
overflow_add-byte c = omega (arith, c.loop-k.invariant, first_lt c.args.bits.now c.loop-k.k c.loop-k-test.true, next c, bit-lt (get_or c.args.bits.now c.loop-k.k false))

pub loop-k-preserved : goal.loop-k-preserved
loop-k-preserved c =
    ap₂ (λ (m b : ℕ). 2 * m + b) c.loop-k.invariant (next c) ∙ sym (first_more c.args.bits.now c.loop-k.k)

pub returns : goal.returns
returns c =
    let e : c.loop-k.k ≡ 8 = omega arith in
    c.loop-k.invariant ∙ ap (first_bits c.args.bits.now) e ∙ first_all c.args.bits.now

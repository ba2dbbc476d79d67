-- `bits::peek` meets its contract: the bit is the byte shifted down, mod 2. Assumes nothing.
use mathlib.Core.Path.{sym, ap, ◌∙◌}
use Prim.Native.Nat.{◌-◌, ◌/◌, ◌%◌, ◌^◌}
use lib.ListN.{get_or}
use Rattle.bits.specs.Bits.{bit}
use Rattle.bits.proofs.Back.{bit_at, bit-odd}
use Rattle.bits.proofs.peek.Goals as goal

pub returns : goal.returns
returns c =
    let a = c.args in
    sym (ap bit (bit_at a.bytes.now a.place) ∙ bit-odd (get_or a.bytes.now (a.place / 8) 0 / 2 ^ (7 - a.place % 8)))

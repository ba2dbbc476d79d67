-- `bits::set_bit` meets its contract. Assumes nothing.
use mathlib.Core.Path.{sym}
use Prim.Native.Nat.{◌*◌, ◌≤◌}
use native.Mathlib.Omega.{arith}
use lib.ListN.{length}
use borrow.Author.Tests.{le-ltb}
use Rattle.bits.proofs.Setting.{unchanged}
use Rattle.bits.proofs.set_bit.Goals as goal

pub returns : goal.returns
returns c =
    let a = c.args in
    let h : 8 * length a.bytes.now ≤ a.place = omega arith in
    (simp (le-ltb a.place (8 * length a.bytes.now) h), sym (unchanged a.bytes.now a.place a.value (λ k. omega (arith, c.type_inv.bytes k)) h))

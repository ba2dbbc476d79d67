-- `decode::data_at` meets its contract. Assumes nothing.
use mathlib.Core.Path.{ap, ◌∙◌}
use Prim.Native.Nat.{◌*◌}
use native.Mathlib.Omega.{arith}
use Rattle.golay.specs.Golay.{decoded_of}
use Rattle.decode.proofs.Words.{value_three}
use Rattle.decode.proofs.data_at.Goals as goal

pub returns : goal.returns
returns c =
    let a = c.args in
    c.decode.ensures ∙ ap decoded_of (omega (arith, c.from_be_bytes.ensures, value_three a.lich.now (3 * a.j) (omega arith)))

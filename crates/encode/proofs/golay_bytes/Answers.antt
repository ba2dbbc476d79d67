-- `encode::golay_bytes` meets its contract: 12 bits are never refused, and a codeword fits three bytes. Assumes nothing.
use mathlib.Core.Path.{◌≡◌, ap, ◌∙◌}
use native.Mathlib.Omega.{arith}
use Rattle.std.specs.Result.{result_unwrap_or}
use Rattle.laws.specs.Value.{in_bytes}
use Rattle.laws.proofs.BigEndian.{to_be_4_3}
use Rattle.golay.specs.Golay.{golay}
use Rattle.golay.proofs.Linear.{golay-lt}
use Rattle.golay.proofs.Only.{written_zero}
use Rattle.encode.proofs.golay_bytes.Goals as goal

pub returns : goal.returns
unfolding in_bytes
returns c =
    let v = c.args.value in
    let is : c.unwrap_or.result ≡ golay v = c.unwrap_or.ensures ∙ ap (λ r. result_unwrap_or r 0) (c.encode.ensures ∙ written_zero v c.requires) in
    rw (c.to_be_bytes.ensures ∙ to_be_4_3 c.unwrap_or.result (omega (arith, golay-lt v c.requires)), is)

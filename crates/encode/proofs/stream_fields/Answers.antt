-- `encode::stream_fields` meets its contract: the marked number is two bytes. Assumes nothing.
use mathlib.Core.Path.{ap, ◌∙◌}
use mathlib.Core.List.{List, ◌++◌}
use Prim.Native.Nat.{ℕ}
use native.Mathlib.Omega.{arith}
use Rattle.laws.specs.Value.{in_bytes}
use Rattle.laws.proofs.BigEndian.{to_be_2}
use Rattle.encode.proofs.stream_fields.Goals as goal

pub returns : goal.returns
returns c =
    let m = c.marked-number in
    c.joined.ensures
    ∙ ap (λ (l : List ℕ). l ++ c.args.stream_data.now) (c.to_be_bytes.ensures ∙ to_be_2 m.result (omega arith) ∙ ap (in_bytes 2) m.ensures)

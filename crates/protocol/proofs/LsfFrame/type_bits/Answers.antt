-- `protocol::LsfFrame::type_bits` meets its contract. Assumes nothing.
use mathlib.Core.Path.{sym, ap, ◌∙◌}
use Prim.Native.Nat.{ℕ, ◌/◌, ◌%◌, ◌^◌}
use native.Mathlib.Omega.{arith}
use Rattle.std.proofs.lemmas.Nat.{one_shl}
use Rattle.protocol.proofs.TypeBits.{type_read}
use Rattle.protocol.proofs.LsfFrame.type_bits.Goals as goal

pub returns-clause-value : goal.returns-clause-value
returns-clause-value c =
    let a = c.args in
    ap (λ (m : ℕ). c.type_of.result / 2 ^ a.low % m) (one_shl a.width 16 (omega arith))
    ∙ sym (type_read a.low a.width a.self.bytes (omega arith) c.type_of.result c.type_of.ensures)

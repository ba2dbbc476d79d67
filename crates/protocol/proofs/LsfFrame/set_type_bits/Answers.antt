-- `protocol::LsfFrame::set_type_bits` meets its contract. Assumes nothing.
use mathlib.Core.Path.{◌≡◌, ap, ap₂, ◌∙◌}
use mathlib.Core.List.{List}
use Prim.Native.Nat.{ℕ, ◌<◌}
use native.Mathlib.Omega.{arith}
use lib.ListN.{length}
use Rattle.std.proofs.Common.{rules}
use Rattle.laws.specs.Value.{value_of, in_bytes}
use Rattle.laws.proofs.Number.{length_in_bytes, value_of_bytes}
use Rattle.laws.proofs.BigEndian.{to_be_2}
use Rattle.protocol.specs.Fields.{type_bits, type_bytes, bytes_from, set_field}
use Rattle.protocol.specs.Header.{header}
use Rattle.protocol.proofs.TypeBits.{type_set, shifted, shifted_lt}
use Rattle.protocol.proofs.Whole.{both}
use Rattle.protocol.proofs.LsfFrame.set_type_bits.Goals as goal

-- the type bytes written are its value
written : (s b : List ℕ) (n : ℕ) → n < 65536 → b ≡ in_bytes 2 n → set_field (bytes_from 12 (length b)) (value_of b) s ≡ set_field type_bytes n s
written s b n h e =
    ap (λ (l : List ℕ). set_field (bytes_from 12 (length l)) (value_of l) s) e
    ∙ ap₂ (λ (k v : ℕ). set_field (bytes_from 12 k) v s) (length_in_bytes 2 n) (value_of_bytes 2 n h)

pub overflow_add-new : goal.overflow_add-new
overflow_add-new c =
    let a = c.args in
    omega (arith, shifted_lt a.low a.width c.from.result c.type_of-old.result (omega arith) (omega arith) (omega arith))

pub overflow_add-new-2 : goal.overflow_add-new-2
overflow_add-new-2 c =
    let a = c.args in
    omega (arith, shifted_lt a.low a.width c.from.result c.type_of-old.result (omega arith) (omega arith) (omega arith))

pub returns : goal.returns
returns c =
    let a = c.args in
    let less = shifted_lt a.low a.width c.from.result c.type_of-old.result (omega arith) (omega arith) (omega arith) in
    ap header
    (c.with_bytes-self.ensures ∙ written a.self.bytes _ _ less (both c.to_be_bytes-two.result (search rules) ∙ c.to_be_bytes-two.ensures ∙ to_be_2 _ less)
    ∙ type_set a.low a.width a.self.bytes (omega arith) c.type_of-old.result c.type_of-old.ensures c.from.result _
    (shifted a.low a.width c.from.result c.type_of-old.result (omega arith) (omega arith) (omega arith))
    ∙ ap (λ (v : ℕ). set_field (type_bits a.low a.width) v a.self.bytes) c.from.ensures)

-- `protocol::with_bytes` meets its contract. Assumes nothing.
use mathlib.Core.Path.{refl, ap, ◌∙◌}
use mathlib.Core.List.{List, ◌++◌}
use Prim.Native.Nat.{ℕ, ◌+◌, ◌-◌}
use native.Mathlib.Omega.{arith}
use lib.ListN.{length, take, drop}
use Rattle.protocol.specs.Fields.{fields_of, renewed, set_field}
use Rattle.protocol.proofs.Held.{held_thirty}
use Rattle.protocol.proofs.Whole.{part_put}
use Rattle.protocol.proofs.with_bytes.Goals as goal

pub returns : goal.returns
unfolding set_field
returns c =
    let st = c in
    let a = c.args in
    let n = length a.part.now in
    c.renew.ensures
    ∙ ap (λ (m : List ℕ). renewed (fields_of (take a.at a.bytes ++ (m ++ drop (a.at + n - a.at) (drop a.at a.bytes))))) c.copy_from_slice.ensures.after
    ∙ ap renewed (part_put a.bytes (held_thirty st.args.bytes _ st.well_formed.0) a.at n _ (omega arith) a.part.now refl (omega arith))

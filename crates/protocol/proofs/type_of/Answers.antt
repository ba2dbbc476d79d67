-- `protocol::type_of` meets its contract. Assumes nothing.
use mathlib.Core.Path.{◌∙◌}
use Rattle.laws.proofs.BigEndian.{from_be_2}
use Rattle.protocol.proofs.Held.{held_thirty}
use Rattle.protocol.proofs.Whole.{type_value}
use Rattle.protocol.proofs.type_of.Goals as goal

pub returns : goal.returns
returns c =
    let st = c in
    c.from_be_bytes.ensures ∙ from_be_2 _ _ ∙ type_value st.args.bytes (held_thirty st.args.bytes _ st.well_formed.0)

-- `protocol::renew` meets its contract. Assumes nothing.
use mathlib.Core.Path.{sym, ◌∙◌}
use native.Mathlib.Omega.{arith}
use Rattle.std.proofs.Common.{rules}
use lib.Seq.{length-take-le}
use Rattle.laws.proofs.BigEndian.{to_be_2}
use Rattle.protocol.proofs.Held.{held_thirty}
use Rattle.protocol.proofs.Whole.{renew_bytes, both}
use Rattle.protocol.proofs.renew.Goals as goal

pub slice_bounds-m17_crc-end : goal.slice_bounds-m17_crc-end
slice_bounds-m17_crc-end c =
    let st = c in
    sym (length-take-le 28 st.args.bytes (omega (arith, (held_thirty st.args.bytes _ st.well_formed.0).long)))

pub returns : goal.returns
returns c =
    let st = c in
    renew_bytes st.args.bytes (held_thirty st.args.bytes _ st.well_formed.0) c.m17_crc.result c.copy_from_slice.new.self c.m17_crc.ensures
    (c.copy_from_slice.ensures.after ∙ both c.to_be_bytes-crc.result (search rules) ∙ c.to_be_bytes-crc.ensures ∙ to_be_2 c.m17_crc.result (omega arith))

-- `protocol::LsfFrame::set_address` meets its contract. Assumes nothing.
use mathlib.Core.Path.{sym, ap, ◌∙◌}
use mathlib.Core.List.{List}
use Prim.Native.Nat.{ℕ}
use Rattle.std.proofs.Common.{Ok}
use Rattle.laws.specs.Value.{value_of}
use Rattle.protocol.specs.Fields.{bytes_from, set_field}
use Rattle.protocol.specs.Header.{header}
use Rattle.protocol.proofs.Written.{accepted_long, set_done}
use Rattle.protocol.proofs.LsfFrame.set_address.Goals as goal

pub returns : goal.returns
returns c =
    let a = c.args in
    let six = c.in_ok-six.six in
    ap (λ (b : List ℕ). Ok (header b))
    (c.with_bytes-self.ensures
    ∙ ap (λ (n : ℕ). set_field (bytes_from a.at n) (value_of six) a.self.bytes)
    (accepted_long a.station.address a.station.callsign.now six (sym c.in_ok-six.ensures)))
    ∙ set_done (bytes_from a.at 6) a.station.address a.station.callsign.now a.self.bytes six c.in_ok-six.ensures

-- `address::address_of` meets its contract: one return for each kind of address. Assumes nothing.
use Rattle.std.proofs.Common.{ℕ, List, sym, ap, ◌∙◌, arith}
use Rattle.address.specs.declared.Address.TheVariants.{Callsign}
use Rattle.address.specs.declared.Reading.{Reading}
use Rattle.address.proofs.EachKind.{invalid_at, callsign_at, reserved_at, broadcast_at}
use Rattle.address.proofs.address_of.Goals as goal

pub returns-then-value-eq0 : goal.returns-then-value-eq0
returns-then-value-eq0 c = c.without_callsign.ensures ∙ sym (invalid_at c.args.value (omega arith))

pub returns-then-value-le262143999999999 : goal.returns-then-value-le262143999999999
returns-then-value-le262143999999999 c =
    ap {B = Reading} (λ (s : List ℕ). record { address = Callsign; callsign = s }) c.decode_base_40.ensures
    ∙ sym (callsign_at c.args.value (λ e. omega arith) (omega arith))

pub returns-then-value-le281474976710654 : goal.returns-then-value-le281474976710654
returns-then-value-le281474976710654 c =
    c.without_callsign-then-value-le281474976710654.ensures ∙ sym (reserved_at c.args.value (omega arith) (omega arith))

pub returns : goal.returns
returns c = c.without_callsign-2.ensures ∙ sym (broadcast_at c.args.value (omega arith))

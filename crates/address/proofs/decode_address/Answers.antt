-- `address::decode_address` meets its contract. Assumes nothing.
use Rattle.std.proofs.Common.{ℕ, List, Ok, sym, ap, ◌∙◌, rules}
use Rattle.laws.specs.Value.{value_of}
use Rattle.address.specs.Address.{address_of}
use Rattle.address.proofs.EachKind.{read_short, read_six}
use Rattle.address.proofs.decode_address.Goals as goal

pub returns-in_default : goal.returns-in_default
returns-in_default c = sym (read_short c.args.encoded.now (search rules))

pub returns : goal.returns
returns c =
    let h = c.in-Ok.ensures in
    ap Ok (c.from.ensures ∙ ap (λ (s : List ℕ). address_of (value_of s)) h.1.same) ∙ sym (read_six c.args.encoded.now h.1.long)

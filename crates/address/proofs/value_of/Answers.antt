-- `address::value_of` meets its contract. Assumes nothing.
use Rattle.std.proofs.Common.{ap, ◌∙◌, rules}
use Rattle.laws.specs.Value.{value_of}
use Rattle.laws.proofs.BigEndian.{from_be_8, value_zero}
use Rattle.address.proofs.Six.{six}
use Rattle.address.proofs.value_of.Goals as goal

pub returns : goal.returns
returns c =
    c.from_be_bytes.ensures ∙ from_be_8 0 0 _ _ _ _ _ _ ∙ value_zero _ ∙ value_zero _ ∙ ap value_of (six c.args.encoded (search rules))

-- `encode::lich_value` meets its contract: two zeros stand before the six bytes. Assumes nothing.
use mathlib.Core.Path.{◌∙◌}
use Rattle.encode.proofs.lich_value.Goals as goal
use Rattle.encode.proofs.Words.{value_six}
use borrow.Author.Rules.{rules}

pub returns : goal.returns
returns c = c.from_be_bytes.ensures ∙ value_six c.args.counter c.args.part (search rules)

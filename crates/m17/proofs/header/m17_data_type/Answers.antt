-- `m17::header::m17_data_type` meets its contract. Assumes nothing.
use Rattle.std.proofs.Common.{rules}
use Rattle.m17.proofs.Numbered.{data_named}
use Rattle.m17.proofs.header.m17_data_type.Goals as goal

pub returns : goal.returns
returns c = let named = data_named c.args.header.now in search rules

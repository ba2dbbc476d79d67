-- `m17::header::m17_encryption_type` meets its contract. Assumes nothing.
use Rattle.std.proofs.Common.{rules}
use Rattle.m17.proofs.Numbered.{encryption_named}
use Rattle.m17.proofs.header.m17_encryption_type.Goals as goal

pub returns : goal.returns
returns c = let named = encryption_named c.args.header.now in search rules

-- `crc::table` meets its contract: antt computes the list of remainders and finds the table. Assumes nothing.
use mathlib.Core.Path.{refl}
use Rattle.laws.specs.Division.{reduce, rem}
use Rattle.laws.specs.Tabled.{values_from}
use Rattle.crc.specs.Crc.{byte_remainder}
use Rattle.crc.proofs.table.Goals as goal

pub returns : goal.returns
unfolding values_from byte_remainder rem reduce
returns c = refl

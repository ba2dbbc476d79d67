-- `interleave::mapping` meets its contract: antt computes the rule at every place and finds the table. Assumes nothing.
use mathlib.Core.Path.{refl}
use Rattle.laws.specs.Tabled.{values_from}
use Rattle.interleave.specs.Interleave.{mapped}
use Rattle.interleave.proofs.mapping.Goals as goal

pub returns : goal.returns
unfolding values_from mapped
returns c = refl

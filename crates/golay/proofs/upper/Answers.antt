-- `golay::upper` meets its contract: antt computes the codewords and finds the table. Assumes nothing.
use mathlib.Core.Path.{refl}
use lib.Count.{ones_in}
use Rattle.laws.specs.Division.{reduce, rem}
use Rattle.laws.specs.Tabled.{values_from}
use Rattle.golay.specs.Golay.{golay}
use Rattle.golay.proofs.upper.Goals as goal

pub returns : goal.returns
unfolding values_from golay rem reduce ones_in
returns c = refl

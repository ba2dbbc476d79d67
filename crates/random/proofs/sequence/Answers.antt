-- `random::sequence` meets its contract: the constant is the document's list. Assumes nothing.
use mathlib.Core.Path.{refl}
use Rattle.random.specs.Random.{random_seq}
use Rattle.random.proofs.sequence.Goals as goal

pub returns : goal.returns
unfolding random_seq
returns c = refl

-- `golay::is_word` meets its contract. Assumes nothing.
use mathlib.Core.Path.{ap}
use Prim.Native.Nat.{ℕ}
use lib.Dec.{eqb}
use Rattle.golay.specs.Golay.{is_word}
use Rattle.golay.proofs.is_word.Goals as goal

pub returns : goal.returns
unfolding is_word
returns c = ap (λ (n : ℕ). eqb n c.args.word) c.word_of.ensures

-- `random::random_xor` meets its contract: after i turns the first i bytes are xored. Assumes nothing.
use mathlib.Core.Path.{◌≡◌}
use Rattle.laws.proofs.InPlace.{done}
use Rattle.random.specs.Random.{xored}
use Rattle.random.proofs.random_xor.Given as goal

abbrev pub invariant-loop-i : goal.invariant-loop-i
invariant-loop-i l = l.bytes ≡ done (xored l.fn.bytes) l.fn.bytes l.i

-- `fec::price` meets its contract. Assumes nothing.
use Prim.Native.Nat.{◌≤◌}
use Rattle.laws.proofs.Values.{Filled}
use Rattle.fec.specs.Search.{price}
use Rattle.fec.proofs.price.Given as goal

abbrev pub invariant-loop-i : goal.invariant-loop-i
invariant-loop-i l = (l.i ≤ 32) × Filled (price l.e l.x l.y) 32 0 l.costs l.i

-- `encode::to_symbols` meets its contract: after i turns the symbols of the first i bytes are there. Assumes nothing.
use Prim.Native.Nat.{◌*◌, ◌≤◌}
use lib.Ieee.{nan}
use Rattle.laws.proofs.Values.{Filled}
use Rattle.encode.proofs.Pairs.{symbol_at}
use Rattle.encode.proofs.to_symbols.Given as goal

abbrev pub invariant-loop-i : goal.invariant-loop-i
invariant-loop-i l = (l.i ≤ 48) × Filled (symbol_at l.b-items) 192 nan l.out (4 * l.i)

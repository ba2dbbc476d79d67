-- `fec::first_least` meets its contract: among the first i the best so far is the first of the least. Assumes nothing.
use Rattle.fec.proofs.Rows.{Lowering}
use Rattle.fec.proofs.first_least.Given as goal

abbrev pub invariant-loop-i : goal.invariant-loop-i
invariant-loop-i l = Lowering l.row l.i l.best l.low

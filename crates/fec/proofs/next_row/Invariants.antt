-- `fec::next_row` meets its contract. Assumes nothing.
use Rattle.fec.specs.Search.{grown}
use Rattle.fec.proofs.Rows.{Halves}
use Rattle.fec.proofs.next_row.Given as goal

abbrev pub invariant-loop-s : goal.invariant-loop-s
invariant-loop-s l = Halves (grown l.old l.cost) l.new l.s

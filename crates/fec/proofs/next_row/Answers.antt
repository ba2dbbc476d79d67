-- `fec::next_row` meets its contract. Assumes nothing.
use native.Mathlib.Omega.{arith}
use Rattle.fec.specs.Search.{grown}
use Rattle.fec.proofs.Rows.{halves_all}
use Rattle.fec.proofs.next_row.Goals as goal

pub returns : goal.returns
returns c = halves_all (grown c.args.old.now c.args.cost.now) c.loop-s.new c.loop-s.s (omega arith) c.loop-s.invariant

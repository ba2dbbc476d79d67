-- `golay::nearest` meets its contract: what the loops have passed is no codeword. Assumes nothing.
use Rattle.golay.proofs.Clear.{Clear1, Clear2, Clear3}
use Rattle.golay.proofs.nearest.Given as goal

abbrev pub invariant-loop-k : goal.invariant-loop-k
invariant-loop-k l = Clear3 l.b l.j l.k

abbrev pub invariant-loop-j : goal.invariant-loop-j
invariant-loop-j l = Clear2 l.a l.i l.j

abbrev pub invariant-loop-i : goal.invariant-loop-i
invariant-loop-i l = Clear1 l.word l.i

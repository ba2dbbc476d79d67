-- `decode::pair` meets its contract: each test in its order. Assumes nothing.
use native.Mathlib.Omega.{arith}
use lib.Ieee.{of_bits, neg, round}
use Rattle.decode.specs.Symbols.{pair_of, edge}
use Rattle.decode.proofs.pair.Goals as goal

pub returns-then-x : goal.returns-then-x
unfolding pair_of edge of_bits neg round
returns-then-x c = (rw c.if-x.true, omega arith)

pub returns-then-x-2 : goal.returns-then-x-2
unfolding pair_of edge of_bits neg round
returns-then-x-2 c = (rw (c.if-x.false, c.if-x-2.true), omega arith)

pub returns-then-x-3 : goal.returns-then-x-3
unfolding pair_of edge of_bits neg round
returns-then-x-3 c = (rw (c.if-x.false, c.if-x-2.false, c.if-x-3.true), omega arith)

pub returns : goal.returns
unfolding pair_of edge of_bits neg round
returns c = (rw (c.if-x.false, c.if-x-2.false, c.if-x-3.false), omega arith)

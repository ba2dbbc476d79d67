-- `encode::symbol` meets its contract: the quotients are computed as f32. Assumes nothing.
use mathlib.Core.Path.{◌≡◌}
use native.Mathlib.Omega.{arith}
use lib.Ieee.{div, of_bits, neg, round}
use Rattle.encode.specs.Symbols.{symbol_of, third}
use Rattle.encode.proofs.symbol.Goals as goal

pub returns-in-0 : goal.returns-in-0
unfolding symbol_of third div of_bits neg round
returns-in-0 c = rw c.in-0.is

pub returns-in-1 : goal.returns-in-1
unfolding symbol_of third div of_bits neg round
returns-in-1 c = rw c.in-1.is

pub returns-in-2 : goal.returns-in-2
unfolding symbol_of third div of_bits neg round
returns-in-2 c = rw c.in-2.is

pub returns-in_default : goal.returns-in_default
unfolding symbol_of third div of_bits neg round
returns-in_default c = let e : c.args.pair ≡ 3 = omega arith in rw e

-- `encode::combined` meets its contract. Assumes nothing.
use mathlib.Core.Path.{sym}
use native.Mathlib.Omega.{arith}
use lib.Seq.{length-take-le}
use borrow.Author.Rules.{rules}
use Rattle.encode.proofs.combined.Goals as goal

pub slice_bounds-joined-end-2 : goal.slice_bounds-joined-end-2
slice_bounds-joined-end-2 c = sym (length-take-le 34 c.args.coded (search rules))

pub joined-requires : goal.joined-requires
joined-requires c = (omega arith, omega (arith, length-take-le 34 c.args.coded (search rules)))

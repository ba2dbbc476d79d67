-- `receiver::with_part` meets its contract. Assumes nothing.
use Prim.Native.Nat.{◌*◌}
use lib.ListN.{take}
use lib.Seq.{length-take-le}
use Rattle.receiver.proofs.Gather.{two_placed}
use borrow.Author.Rules.{rules}
use Rattle.receiver.proofs.with_part.Goals as goal

pub returns : goal.returns
returns c =
    let a = c.args in
    two_placed (take (5 * a.c) a.parts) a.part c.store.new.memory c.store-2.new.memory (5 * a.c) (length-take-le (5 * a.c) a.parts (search rules)) (search rules) (search rules)
    c.store.ensures c.store-2.ensures

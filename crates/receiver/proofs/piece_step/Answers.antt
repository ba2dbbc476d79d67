-- `receiver::piece_step` meets its contract. Assumes nothing.
use mathlib.Core.Path.{refl}
use Rattle.receiver.proofs.Taken.{told_comes}
use Rattle.receiver.proofs.Pieces.{piece_other, piece_stored}
use Rattle.receiver.proofs.piece_step.Goals as goal

pub returns-then-number-n : goal.returns-then-number-n
returns-then-number-n c =
    let a = c.args in
    piece_other a.n a.number a.frame.now a.memory.now a.memory.now _ c.if-number-n.true refl

pub returns : goal.returns
returns c =
    let a = c.args in
    piece_stored a.n a.number a.frame.now a.memory.now _ _ c.if-number-n.false (told_comes _ _ _ c.told.ensures) c.store.ensures

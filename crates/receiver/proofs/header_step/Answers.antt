-- `receiver::header_step` meets its contract. Assumes nothing.
use mathlib.Core.Path.{sym, ◌∙◌}
use Rattle.receiver.proofs.Taken.{told_comes, opens}
use Rattle.receiver.proofs.header_step.Goals as goal
use Rattle.receiver.proofs.header_step.Goals.{in-Stream, in-Packet}

pub returns : goal.returns
returns c =
    elim c.match-mode.branch [
      | in-Stream w ↦ told_comes _ _ _ (rw (w.phase-is) at c.told.ensures) ∙ opens c.args.frame.bytes _ (sym c.mode.ensures ∙ w.in-Stream.is)
      | in-Packet w ↦ told_comes _ _ _ (rw (w.phase-is) at c.told.ensures) ∙ opens c.args.frame.bytes _ (sym c.mode.ensures ∙ w.in-Packet.is)
    ]

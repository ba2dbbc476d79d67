-- `receiver::Checked::stream_slot` meets its contract. Assumes nothing.
use mathlib.Core.Path.{sym, ap, ◌∙◌}
use mathlib.Core.List.{[]}
use Rattle.receiver.specs.See.{stream_seen}
use Rattle.receiver.specs.Receiver.{state_of}
use Rattle.receiver.proofs.Taken.{unread_takes, handed_comes}
use Rattle.receiver.proofs.Checked.stream_slot.Goals as goal

pub returns-in_err-frame : goal.returns-in_err-frame
returns-in_err-frame c =
    (unread_takes (state_of c.args.self.receiver) [] _ _ _ (ap stream_seen (sym c.in_err-frame.was ∙ c.read_stream.ensures)) (handed_comes _ _ c.from_residual.ensures)).0

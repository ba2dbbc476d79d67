-- `receiver::header_slot` meets its contract. Assumes nothing.
use mathlib.Core.Path.{refl, sym, ap, ◌∙◌}
use mathlib.Core.List.{[]}
use Rattle.automaton.specs.Step.{idle}
use Rattle.receiver.specs.See.{header_seen}
use Rattle.receiver.proofs.Taken.{unread_takes, handed_comes, header_bad}
use Rattle.receiver.proofs.header_slot.Goals as goal

pub returns-in_err-frame : goal.returns-in_err-frame
returns-in_err-frame c =
    (unread_takes idle [] _ _ _ (ap header_seen (sym c.in_err-frame.was ∙ c.read_lsf.ensures)) (handed_comes _ _ c.from_residual.ensures)).0

pub returns-then-check_crc-ne0 : goal.returns-then-check_crc-ne0
returns-then-check_crc-ne0 c =
    let read = ap header_seen (sym c.in_ok-frame.was ∙ c.read_lsf.ensures) in
    (unread_takes idle [] _ _ _ (header_bad c.in_ok-frame.frame (λ z. c.if-check_crc-ne0.true (c.check_crc.ensures ∙ z)) ∙ read) refl).0

-- `receiver::Checked::packet_slot` meets its contract. Assumes nothing.
use mathlib.Core.Path.{refl, sym, ap, subst, ◌∙◌}
use Rattle.std.specs.Prelude.{Result, Err}
use Rattle.refusal.specs.declared.Refusal.{Refusal}
use Rattle.refusal.specs.declared.Refusal.TheVariants.{OutOfTurn}
use Rattle.protocol.specs.declared.PacketFrame.{PacketFrame}
use Rattle.receiver.specs.See.{packet_seen}
use Rattle.receiver.specs.Receiver.{state_of, outcome_of}
use Rattle.receiver.proofs.Taken.{Takes, unread_takes, handed_comes, not_open}
use Rattle.receiver.proofs.Checked.packet_slot.Goals as goal

pub returns-in_err-frame : goal.returns-in_err-frame
returns-in_err-frame c =
    unread_takes (state_of c.args.self.receiver) c.args.memory.now _ _ _ (ap packet_seen (sym c.in_err-frame.was ∙ c.read_packet.ensures))
    (handed_comes _ _ c.from_residual.ensures)

pub returns-in_default : goal.returns-in_default
returns-in_default c =
    let a = c.args in
    let r = a.self.receiver in
    let f = c.in_ok-frame.frame in
    let closed = outcome_of (Err OutOfTurn) in
    subst (λ (x : Result PacketFrame Refusal). Takes (state_of r) a.memory.now (packet_seen x) closed a.memory.now) (sym c.in_ok-frame.was ∙ c.read_packet.ensures)
    (not_open r.phase r.parts a.memory.now f.counter f.payload _ c.in_default.not-Packet refl)

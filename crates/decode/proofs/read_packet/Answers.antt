-- `decode::read_packet` meets its contract. Assumes nothing.
use mathlib.Core.Path.{ap}
use Rattle.std.specs.Prelude.{Result, Ok}
use Rattle.refusal.specs.declared.Refusal.{Refusal}
use Rattle.fec.specs.declared.Kind.TheVariants.{Packet}
use Rattle.protocol.specs.declared.PacketFrame.{PacketFrame}
use Rattle.decode.specs.Bodies.{packet_from, packet_read_of}
use Rattle.decode.proofs.Steps.{unread, undecoded, read_by}
use Rattle.decode.proofs.read_packet.Goals as goal

pub returns-in_err-coded : goal.returns-in_err-coded
unfolding packet_read_of
returns-in_err-coded c =
    unread Packet packet_from c.args.body.now c.unmask.result c.unmask.ensures _ _ c.in_err-coded.was c.from_residual.ensures

pub returns-in_err-bytes : goal.returns-in_err-bytes
unfolding packet_read_of
returns-in_err-bytes c =
    undecoded Packet packet_from c.args.body.now c.unmask.result c.unmask.ensures _ _ c.in_ok-coded.was c.decode.result c.decode.ensures _ c.in_err-bytes.was
    c.from_residual-in_err-bytes.ensures

pub returns : goal.returns
unfolding packet_read_of
returns c =
    read_by Packet packet_from c.args.body.now c.unmask.result c.unmask.ensures _ _ c.in_ok-coded.was c.decode.result c.decode.ensures _ c.in_ok-bytes.was
    (ap {B = Result PacketFrame Refusal} Ok c.packet_from.ensures)

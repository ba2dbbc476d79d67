-- `encode::packet_fields` meets its contract. Assumes nothing.
use Rattle.encode.proofs.Fields.{fields_packet}
use Rattle.encode.proofs.packet_fields.Goals as goal

pub returns : goal.returns
returns c = fields_packet c.args.count c.args.last c.args.payload.now c.copy_from_slice.new.self c.requires.0 c.copy_from_slice.ensures.after

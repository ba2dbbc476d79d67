-- `protocol::new_header` meets its contract. Assumes nothing.
use Rattle.protocol.proofs.NewHeader.{all_good}
use Rattle.protocol.proofs.new_header.Goals as goal

pub returns : goal.returns
returns c =
    let a = c.args in
    all_good a.mode a.data_type a.source.address a.source.callsign.now a.destination.address a.destination.callsign.now c.if-source-ne9.false c.if-destination-ne9.false
    c.in_ok-sent.sent c.in_ok-sent.ensures c.in_ok-both.both c.in_ok-both.ensures
    c.set_mode.result c.set_data_type.result c.set_encryption_type.result
    c.set_mode.ensures c.set_data_type.ensures c.set_encryption_type.ensures

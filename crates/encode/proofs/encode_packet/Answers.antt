-- `encode::encode_packet` meets its contract. Assumes nothing.
use mathlib.Core.Path.{ap, ◌∙◌}
use Rattle.fec.specs.declared.Kind.TheVariants.{Packet}
use Rattle.encode.specs.Symbols.{symbols_from, packet_symbols_of}
use Rattle.encode.proofs.encode_packet.Goals as goal

pub returns : goal.returns
unfolding packet_symbols_of
returns c = c.symbols_from.ensures ∙ ap (symbols_from Packet) c.write_packet.ensures

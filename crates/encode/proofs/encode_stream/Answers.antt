-- `encode::encode_stream` meets its contract. Assumes nothing.
use mathlib.Core.Path.{ap, ◌∙◌}
use Rattle.fec.specs.declared.Kind.TheVariants.{Stream}
use Rattle.encode.specs.Symbols.{symbols_from, stream_symbols_of}
use Rattle.encode.proofs.encode_stream.Goals as goal

pub returns : goal.returns
unfolding stream_symbols_of
returns c = c.symbols_from.ensures ∙ ap (symbols_from Stream) c.write_stream-body.ensures

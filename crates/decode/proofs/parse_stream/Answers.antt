-- `decode::parse_stream` meets its contract. Assumes nothing.
use Rattle.decode.specs.Bodies.{stream_read_of}
use Rattle.decode.specs.Symbols.{stream_parsed_of}
use Rattle.decode.proofs.Steps.{parsed_of, unparsed}
use Rattle.decode.proofs.parse_stream.Goals as goal

pub returns-in_err-body : goal.returns-in_err-body
unfolding stream_parsed_of
returns-in_err-body c =
    unparsed stream_read_of c.args.frame.now c.body_of.result c.body_of.ensures _ _ c.in_err-body.was c.from_residual.ensures

pub returns : goal.returns
unfolding stream_parsed_of
returns c = parsed_of stream_read_of c.args.frame.now c.body_of.result c.body_of.ensures _ _ c.in_ok-body.was c.read_stream.ensures

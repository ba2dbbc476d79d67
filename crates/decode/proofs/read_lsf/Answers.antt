-- `decode::read_lsf` meets its contract. Assumes nothing.
use mathlib.Core.Path.{refl}
use Rattle.fec.specs.declared.Kind.TheVariants.{Header}
use Rattle.protocol.specs.Header.{header}
use Rattle.decode.specs.Bodies.{lsf_read_of}
use Rattle.decode.proofs.Steps.{unread, undecoded, read_by}
use Rattle.decode.proofs.read_lsf.Goals as goal

pub returns-in_err-coded : goal.returns-in_err-coded
unfolding lsf_read_of
returns-in_err-coded c =
    unread Header header c.args.body.now c.unmask.result c.unmask.ensures _ _ c.in_err-coded.was c.from_residual.ensures

pub returns-in_err-bytes : goal.returns-in_err-bytes
unfolding lsf_read_of
returns-in_err-bytes c =
    undecoded Header header c.args.body.now c.unmask.result c.unmask.ensures _ _ c.in_ok-coded.was c.decode.result c.decode.ensures _ c.in_err-bytes.was
    c.from_residual-in_err-bytes.ensures

pub returns : goal.returns
unfolding lsf_read_of
returns c =
    read_by Header header c.args.body.now c.unmask.result c.unmask.ensures _ _ c.in_ok-coded.was c.decode.result c.decode.ensures _ c.in_ok-bytes.was
    refl

-- `decode::byte_from` meets its contract. Assumes nothing.
use native.Mathlib.Omega.{arith}
use Rattle.decode.proofs.Pairs.{byte_of_four}
use Rattle.decode.proofs.byte_from.Goals as goal

pub returns : goal.returns
returns c =
    let r = c in
    let q = r in
    let p = q in
    let s = p in
    byte_of_four s.args.frame.now s.args.i (omega arith) (omega arith) p.pair.result q.pair-2.result r.pair-3.result c.pair-4.result p.pair.ensures.0
    q.pair-2.ensures.0 r.pair-3.ensures.0 c.pair-4.ensures.0

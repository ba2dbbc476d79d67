use native.Mathlib.Omega.{arith}
use mathlib.Core.Path.{ap}
use Prim.Native.Nat.{◌+◌}
use Rattle.bits.specs.Bits.{bits_of}
use Rattle.bits.proofs.Back.{length_bits}
use Rattle.fec.specs.Code.{sends}
use Rattle.fec.specs.Search.{count}
use Rattle.fec.proofs.Codes.{sofar_fits}
use Rattle.fec.proofs.Packed.{sum_of_three, sum_of_four}
use Rattle.fec.proofs.Written.{length-flushed, encoding_start, encoding_step, encoding_end}
use Rattle.fec.proofs.code_bits.Invariants.{word}
use Rattle.fec.proofs.code_bits.Goals as goal

pub loop-t-init : goal.loop-t-init
loop-t-init c = encoding_start (sends c.args.p) (word c.args.plain.now c.args.n)

pub put_sent-at-requires : goal.put_sent-at-requires
put_sent-at-requires c =
    let l = c.loop-t in
    let n = c.args.n in
    omega (arith, sofar_fits (sends c.args.p) (n + 4) l.t (omega arith), l.invariant.place, l.invariant.long, ap count c.sent_at.ensures)

pub loop-t-preserved : goal.loop-t-preserved
loop-t-preserved c =
    let l = c.loop-t in
    let a = c.args in
    let put = c.put_sent-at in
    let long = length-flushed a.n (bits_of a.plain.now) (omega (arith, length_bits a.plain.now)) in
    encoding_step (sends a.p) (word a.plain.now a.n) l.out l.at l.b1 l.b2 l.b3 l.b4 l.t l.invariant (omega (arith, long))
    c.sent_at.result c.sent_at.ensures c.input_at-b.result _ _ c.input_at-b.ensures
    (sum_of_three c.input_at-b.result l.b3 l.b4) (sum_of_four c.input_at-b.result l.b1 l.b2 l.b4)
    put.new.out put.result put.auto.out put.ensures.0 put.ensures.1

pub returns : goal.returns
returns c =
    let l = c.loop-t in
    let a = c.args in
    let long = length-flushed a.n (bits_of a.plain.now) (omega (arith, length_bits a.plain.now)) in
    encoding_end (sends a.p) (word a.plain.now a.n) l.out l.at l.b1 l.b2 l.b3 l.b4 l.t l.invariant (omega (arith, long))

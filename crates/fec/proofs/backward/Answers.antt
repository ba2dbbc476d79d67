-- `fec::backward` meets its contract. Assumes nothing.
use native.Mathlib.Omega.{arith}
use mathlib.Core.Path.{refl}
use mathlib.Core.Bool.{false}
use lib.ListN.{replicate, length-set}
use Rattle.fec.proofs.Tracing.{tracing_start, tracing_step, tracing_end}
use Rattle.fec.proofs.backward.Goals as goal

pub loop-step-init : goal.loop-step-init
loop-step-init c =
    let a = c.args in
    (omega arith, omega arith, simp length-set, tracing_start a.table.now a.n a.last (omega arith) (replicate 244 false) refl)

pub loop-step-preserved : goal.loop-step-preserved
loop-step-preserved c =
    let a = c.args in
    let l = c.loop-step in (
      omega arith,
      c.earlier-i.ensures.1,
      simp length-set l.invariant.2,
      tracing_step a.table.now a.n a.last (omega arith) l.step l.i c.earlier-i.result l.word (omega arith) l.invariant.0 l.invariant.2 c.earlier-i.ensures.0 l.invariant.3,
    )

pub returns : goal.returns
returns c =
    let a = c.args in
    let l = c.loop-step in
    (tracing_end a.table.now a.n a.last l.step l.i l.word (omega arith) l.invariant.3, l.invariant.2)

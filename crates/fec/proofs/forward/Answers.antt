-- `fec::forward` meets its contract. Assumes nothing.
use native.Mathlib.Omega.{arith}
use mathlib.Core.Path.{refl, ap}
use Rattle.bits.specs.Bits.{bits_of}
use Rattle.bits.proofs.Back.{length_bits}
use Rattle.fec.specs.Code.{sends}
use Rattle.fec.specs.Search.{count}
use Rattle.fec.proofs.Codes.{sofar_fits}
use Rattle.fec.proofs.Rows.{walking_start, walking_step}
use Rattle.fec.proofs.forward.Goals as goal

pub loop-step-init : goal.loop-step-init
loop-step-init c =
    let a = c.args in
    (omega arith, walking_start (sends a.p) (bits_of a.rx.now) _ refl)

pub hear-heard-requires : goal.hear-heard-requires
hear-heard-requires c =
    let l = c.loop-step in
    let start = c in
    (omega (arith, sofar_fits (sends start.args.p) start.args.steps l.step (omega arith), l.invariant.1.place, ap count c.sent_at.ensures), omega arith)

pub loop-step-preserved : goal.loop-step-preserved
loop-step-preserved c =
    let l = c.loop-step in
    let start = c in
    let a = start.args in
    let prices = c.prices-cost in
    let sent = c.sent_at in
    let heard = c.hear-heard in (
      omega arith,
      walking_step (sends a.p) (bits_of a.rx.now) l.table l.row l.at l.step l.invariant.1 sent.result sent.ensures (omega arith)
          (omega (arith, sofar_fits (sends a.p) a.steps l.step (omega arith), l.invariant.1.place, ap count sent.ensures, length_bits a.rx.now))
          prices.result prices.ensures heard.result.at heard.result.row heard.ensures.0 heard.ensures.1 c.next_row-row.result c.next_row-row.ensures,
    )

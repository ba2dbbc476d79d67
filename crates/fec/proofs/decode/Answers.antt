-- `fec::decode` meets its contract. Assumes nothing.
use native.Mathlib.Omega.{arith}
use Rattle.fec.proofs.Bodies.{plan_fits, reads_short, reads_word, reads_far}
use Rattle.fec.proofs.decode.Goals as goal

pub returns-then-received-plan : goal.returns-then-received-plan
returns-then-received-plan c =
    let a = c.args in
    let pl = c.plan_of-plan in
    reads_short a.kind pl.result pl.ensures a.received.now c.if-received-plan.true

pub search-requires : goal.search-requires
search-requires c =
    let a = c.args in
    let pl = c.plan_of-plan in
    let f = plan_fits a.kind pl.result pl.ensures a.received.now in
    (omega (arith, f.full, c.if-received-plan.false), omega (arith, f.short, c.if-received-plan.false), f.few, omega (arith, f.low))

pub returns-in_err-word : goal.returns-in_err-word
returns-in_err-word c =
    let a = c.args in
    let pl = c.plan_of-plan in
    reads_far a.kind pl.result pl.ensures a.received.now
    c.if-received-plan.false c.search.result
    c.search.ensures
    c.in_err-word.field-0.0 c.in_err-word.ensures.value c.from_residual.result c.from_residual.ensures

pub returns : goal.returns
returns c =
    let a = c.args in
    let pl = c.plan_of-plan in
    reads_word a.kind pl.result pl.ensures a.received.now
    c.if-received-plan.false c.search.result
    c.search.ensures
    c.in_ok-word.word c.in_ok-word.ensures.value c.pack.new.out c.pack.ensures

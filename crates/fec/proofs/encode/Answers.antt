-- `fec::encode` meets its contract. Assumes nothing.
use native.Mathlib.Omega.{arith}
use Rattle.fec.proofs.Bodies.{plan_fits, writes_short, writes_long}
use Rattle.fec.proofs.encode.Goals as goal

pub returns-then-plain-plan : goal.returns-then-plain-plan
returns-then-plain-plan c =
    let a = c.args in
    let pl = c.plan_of-plan in
    writes_short a.kind pl.result pl.ensures a.plain.now c.if-plain-plan.true

pub code_bits-requires : goal.code_bits-requires
code_bits-requires c =
    let a = c.args in
    let pl = c.plan_of-plan in
    let f = plan_fits a.kind pl.result pl.ensures a.plain.now in
    (f.few, omega (arith, f.given, c.if-plain-plan.false), omega (arith, f.full, f.short))

pub returns : goal.returns
returns c =
    let a = c.args in
    let pl = c.plan_of-plan in
    writes_long a.kind pl.result pl.ensures a.plain.now c.if-plain-plan.false c.code_bits.result c.pack.new.out c.code_bits.ensures c.pack.ensures

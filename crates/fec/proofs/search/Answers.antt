-- `fec::search` meets its contract: the last row of the table decides. Assumes nothing.
use native.Mathlib.Omega.{arith}
use mathlib.Core.List.{[]}
use Prim.Native.Nat.{◌+◌}
use lib.ListN.{get_or}
use Rattle.bits.specs.Bits.{bits_of}
use Rattle.fec.specs.Code.{sends}
use Rattle.fec.specs.Search.{costs_at}
use Rattle.fec.proofs.Steps.{refuses, below_255, answers}
use Rattle.fec.proofs.search.Goals as goal

pub returns-then-limit-row : goal.returns-then-limit-row
returns-then-limit-row c =
    let a = c.args in
    let rows = c.forward-table in
    let low = c.first_least-last in
    refuses (sends a.p) (bits_of a.rx.now) a.n a.limit low.result (get_or rows.result (a.n + 3) []) (rows.ensures (a.n + 3) (omega arith)) low.ensures c.if-limit-row.true

pub returns : goal.returns
returns c =
    let a = c.args in
    let rows = c.forward-table in
    let low = c.first_least-last in
    let p = sends a.p in
    let rx = bits_of a.rx.now in
    let r = get_or rows.result (a.n + 3) [] in
    let of-r = rows.ensures (a.n + 3) (omega arith) in
    let within = c.if-limit-row.false in
    let small = below_255 p rx a.n a.limit low.result r of-r low.ensures within (omega arith) in
    answers p rx a.n a.limit low.result r of-r low.ensures within (omega arith) c.backward.result (c.backward.ensures.0 (costs_at p rx) rows.ensures small)

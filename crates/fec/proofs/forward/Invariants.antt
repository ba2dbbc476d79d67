-- `fec::forward` meets its contract. Assumes nothing.
use Prim.Native.Nat.{◌≤◌}
use Rattle.bits.specs.Bits.{bits_of}
use Rattle.fec.specs.Code.{sends}
use Rattle.fec.proofs.Rows.{Walking}
use Rattle.fec.proofs.forward.Given as goal

abbrev pub invariant-loop-step : goal.invariant-loop-step
invariant-loop-step l = (l.step ≤ l.steps) × Walking (sends l.p) (bits_of l.rx) l.table l.row l.at l.step

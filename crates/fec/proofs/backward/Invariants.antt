-- `fec::backward` meets its contract. Assumes nothing.
use mathlib.Core.Path.{◌≡◌}
use Prim.Native.Nat.{◌+◌, ◌≤◌, ◌<◌}
use lib.ListN.{length}
use Rattle.fec.proofs.Tracing.{Tracing}
use Rattle.fec.proofs.backward.Given as goal

abbrev pub invariant-loop-step : goal.invariant-loop-step
invariant-loop-step l = (l.step ≤ l.n + 3) × (l.i < 32) × (length l.word ≡ 244) × Tracing l.table l.n l.last l.word l.step l.i

use Rattle.std.proofs.Common.{◌≤◌, length}
use Rattle.slots.proofs.recording.fill.Given as goal

abbrev pub invariant-loop : goal.invariant-loop
invariant-loop g l = l.done ≤ length l.slot

-- `fec::bests` meets its contract. Assumes nothing.
use mathlib.Core.List.{List}
use Prim.Native.Nat.{ℕ, ◌+◌, ◌*◌, ◌≤◌, min}
use lib.ListN.{get_or}
use Rattle.laws.proofs.Values.{Filled}
use Rattle.fec.proofs.bests.Given as goal

abbrev pub lesser : List ℕ → ℕ → ℕ
lesser old k = min (get_or old (2 * k) 0) (get_or old (2 * k + 1) 0)

abbrev pub invariant-loop-s : goal.invariant-loop-s
invariant-loop-s l = (l.s ≤ 16) × Filled (lesser l.old) 16 0 l.best-items l.s

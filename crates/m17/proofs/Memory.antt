-- A number that is yes or no: 0 is no, anything else yes. Assumes nothing.
use mathlib.Core.Path.{◌≡◌, sym, ap, ◌∙◌}
use mathlib.Core.Bool.{not}
use Prim.Native.Nat.{ℕ}
use native.Mathlib.Decide.{ℕ_discrete}
use native.Mathlib.Omega.{arith}
use lib.Dec.{ltb}
use borrow.Author.Tests.{ne_eqb, lt-ltb}
use Rattle.bits.specs.Places.{flag}

pub not_zero : (n : ℕ) → ltb 0 n ≡ flag n
not_zero n = elim (ℕ_discrete n 0) [
  | yes e ↦ rw e
  | no z ↦ lt-ltb 0 n (omega arith) ∙ sym (ap not (ne_eqb n 0 z))
]

-- `fec::outputs` meets its contract: the rule of the table, computed at each of its rows. Assumes nothing.
use mathlib.Core.Path.{◌≡◌}
use mathlib.Core.Bool.{Bool}
use mathlib.Core.List.{List, []}
use Prim.Native.Nat.{ℕ, ◌<◌}
use lib.Dec.{T, eqb, eqb→eq}
use lib.ListN.{get_or}
use Rattle.laws.proofs.Every.{every, every_at}
use Rattle.bits.specs.Bits.{bit}
use Rattle.fec.specs.Search.{out1, out2, Outputs}
use Rattle.fec.proofs.outputs.Goals as goal

right : (ℕ → Bool) → ℕ → List (List ℕ) → ℕ → Bool
right out j table k = eqb (get_or (get_or table k []) j 0) (bit (out k))

at_each : (out : ℕ → Bool) (j : ℕ) (table : List (List ℕ)) → T (every (right out j table) 32) → (i : ℕ) → i < 32 → get_or (get_or table i []) j 0 ≡ bit (out i)
unfolding right
at_each out j table t i h = eqb→eq (get_or (get_or table i []) j 0) (bit (out i)) (every_at (right out j table) 32 i h t)

rule : (table : List (List ℕ)) → T (every (right out1 0 table) 32) → T (every (right out2 1 table) 32) → Outputs table
rule table t u = record { first = at_each out1 0 table t; second = at_each out2 1 table u }

pub returns : goal.returns
unfolding right out1 out2
returns c = rule _ tt tt

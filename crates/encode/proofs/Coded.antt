-- Bytes of a kind's length are coded, never refused. Assumes nothing.
use mathlib.Core.Path.{◌≡◌, sym, ◌∙◌}
use mathlib.Core.List.{List}
use Prim.Native.Nat.{ℕ}
use native.Mathlib.Omega.{arith}
use lib.ListN.{length}
use Rattle.std.specs.Prelude.{Result, Ok, Err}
use Rattle.refusal.specs.declared.Refusal.{Refusal}
use Rattle.fec.specs.declared.Kind.{Kind}
use Rattle.fec.specs.Kinds.{data_bytes, coded_of, encoded_of}
use Rattle.fec.proofs.Bodies.{encoded_long}

-- an answer is one of the two
pub apart_said : {A : Type 0} (x : A) (why : Refusal) → Ok x ≡ Err why → ⊥
apart_said x why e = let z : ◌≡◌ {A = ℕ} 0 1 = cc in omega arith

module _ (k : Kind) (d : List ℕ) (long : length d ≡ data_bytes k) (r : Result (List ℕ) Refusal) (of-r : r ≡ encoded_of k d) where
  pub coded_is : (b : List ℕ) → r ≡ Ok b → b ≡ coded_of k d
  coded_is b e = let same : Ok b ≡ Ok (coded_of k d) = sym e ∙ of-r ∙ encoded_long k d long in cc

  pub coded_never : (why : Refusal) → r ≡ Err why → ⊥
  coded_never why e = apart_said (coded_of k d) why (sym (encoded_long k d long) ∙ sym of-r ∙ e)

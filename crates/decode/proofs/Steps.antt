-- What a `?` hands on, and what is made of an answer that a length decides. Assumes nothing.
use mathlib.Core.Path.{◌≡◌, sym, ap, ◌∙◌}
use mathlib.Core.Bool.{cond}
use mathlib.Core.List.{List}
use Prim.Native.Nat.{ℕ}
use native.Mathlib.Decide.{ℕ_discrete}
use native.Mathlib.Omega.{arith}
use lib.Dec.{eqb}
use lib.Ieee.{Float}
use lib.ListN.{length}
use borrow.Author.Tests.{eq-eqb, ne_eqb}
use Rattle.std.specs.Prelude.{Result, Ok, Err}
use Rattle.std.specs.Result.{IsErr, IsErrAnd}
use Rattle.refusal.specs.Number.{made_of}
use Rattle.refusal.specs.declared.Refusal.{Refusal}
use Rattle.refusal.specs.declared.Refusal.TheVariants.{WrongLength}
use Rattle.fec.specs.declared.Kind.{Kind}
use Rattle.fec.specs.Kinds.{decoded_of}
use Rattle.decode.specs.Bodies.{unmasked, unmasked_of}
use Rattle.decode.specs.Symbols.{body_from, body_read_of}

pub handed : {A : Type 0} (why : Refusal) (a : Result A Refusal) → IsErr a × IsErrAnd a (λ x. x ≡ why) → a ≡ Err why
handed {A} why (Err x) q = ap {B = Result A Refusal} Err q.1
handed why (Ok x) q = absurd q.1

module _ {A B : Type 0} (n m : ℕ) (x : A) (f : A → Result B Refusal) (r : Result A Refusal) (of-r : r ≡ cond (eqb n m) (Ok x) (Err WrongLength)) where
  -- of the length: what is made of it
  pub then_done : (c : A) → r ≡ Ok c → f c ≡ cond (eqb n m) (f x) (Err WrongLength)
  then_done c e = elim (ℕ_discrete n m) [
    | yes l ↦
        let q : Ok c ≡ Ok x = sym e ∙ of-r ∙ simp (eq-eqb n m l) in
        let is : c ≡ x = cc in
        simp (eq-eqb n m l) (ap f is)
    | no k ↦
        let q : Ok c ≡ Err WrongLength = sym e ∙ of-r ∙ simp (ne_eqb n m k) in
        let z : ◌≡◌ {A = ℕ} 0 1 = cc in
        absurd (omega arith)
  ]

  -- of another: 1
  pub then_not : (why : Refusal) → r ≡ Err why → Err why ≡ cond (eqb n m) (f x) (Err WrongLength)
  then_not why e = elim (ℕ_discrete n m) [
    | yes l ↦
        let q : Ok x ≡ Err why = sym (of-r ∙ simp (eq-eqb n m l)) ∙ e in
        let z : ◌≡◌ {A = ℕ} 0 1 = cc in
        absurd (omega arith)
    | no k ↦
        let q : Err WrongLength ≡ Err why = sym (of-r ∙ simp (ne_eqb n m k)) ∙ e in
        let is : WrongLength ≡ why = cc in
        simp (ne_eqb n m k) (ap {B = Result B Refusal} Err (sym is))
  ]

-- what 192 symbols are read as, by a reader of their body
module _ {A : Type 0} (f : List ℕ → Result A Refusal) (xs : List Float) (r : Result (List ℕ) Refusal) (of-r : r ≡ body_read_of xs) (a : Result A Refusal) where
  abbrev parsed : Result A Refusal
  parsed = cond (eqb (length xs) 192) (f (body_from xs)) (Err WrongLength)

  pub parsed_of : (b : List ℕ) → r ≡ Ok b → a ≡ f b → a ≡ parsed
  unfolding body_read_of
  parsed_of b e is = is ∙ then_done (length xs) 192 (body_from xs) f r of-r b e

  pub unparsed : (why : Refusal) → r ≡ Err why → IsErr a × IsErrAnd a (λ x. x ≡ why) → a ≡ parsed
  unfolding body_read_of
  unparsed why e is = handed why a is ∙ then_not (length xs) 192 (body_from xs) f r of-r why e

-- what a body that is coded whole reads as: what is made of the bytes of its code
module _ {A : Type 0} (kind : Kind) (make : List ℕ → A) (s : List ℕ) (r : Result (List ℕ) Refusal) (of-r : r ≡ unmasked_of s) (a : Result A Refusal) where
  abbrev of_code : List ℕ → Result A Refusal
  of_code u = made_of make (decoded_of kind u)

  abbrev read : Result A Refusal
  read = cond (eqb (length s) 46) (of_code (unmasked s)) (Err WrongLength)

  pub unread : (why : Refusal) → r ≡ Err why → IsErr a × IsErrAnd a (λ x. x ≡ why) → a ≡ read
  unread why e is = handed why a is ∙ then_not (length s) 46 (unmasked s) of_code r of-r why e

  module _ (u : List ℕ) (e : r ≡ Ok u) (d : Result (List ℕ) Refusal) (of-d : d ≡ decoded_of kind u) where
    pub read_by : (b : List ℕ) → d ≡ Ok b → a ≡ Ok (make b) → a ≡ read
    read_by b q is = is ∙ ap (made_of make) (sym q ∙ of-d) ∙ then_done (length s) 46 (unmasked s) of_code r of-r u e

    pub undecoded : (why : Refusal) → d ≡ Err why → IsErr a × IsErrAnd a (λ x. x ≡ why) → a ≡ read
    undecoded why q is = handed why a is ∙ ap (made_of make) (sym q ∙ of-d) ∙ then_done (length s) 46 (unmasked s) of_code r of-r u e

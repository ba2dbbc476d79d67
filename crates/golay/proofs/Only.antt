-- What a reading says, both ways: the data of the only codeword within three flips, and 4 exactly when there is none. Assumes nothing.
use mathlib.Core.Path.{◌≡◌, refl, sym, ap, ◌∙◌, subst}
use mathlib.Core.Bool.{Bool, true, false, cond}
use Prim.Native.Nat.{ℕ, zero, suc, ◌^◌, ◌≤◌, ◌<◌}
use native.Mathlib.Omega.{arith}
use lib.Dec.{leb, lit≤}
use borrow.Author.Tests.{lt-ltb, le-ltb, leb-true}
use Rattle.std.specs.Prelude.{Result, Ok, Err}
use Rattle.refusal.specs.Number.{said_of}
use Rattle.refusal.specs.declared.Refusal.{Refusal}
use Rattle.refusal.specs.declared.Refusal.TheVariants.{OutOfRange, BadGolay}
use Rattle.golay.specs.Golay.{golay, apart, near_below, decoded_of, encoded_of}
use Rattle.golay.specs.When.{Reads}
use Rattle.golay.proofs.Linear.{golay-lt}
use Rattle.golay.proofs.Near.{apart_self, near_found, near_none}

below : (w : ℕ) → w < 2 ^ 24 → decoded_of w ≡ near_below 4096 w
unfolding decoded_of
below w h = ap (λ (t : Bool). cond {A = Result ℕ Refusal} t (near_below 4096 w) (Err BadGolay)) (lt-ltb w (2 ^ 24) h)

-- data that is found is near
near_is : (n w d : ℕ) → near_below n w ≡ Ok d → (d < n) × (apart (golay d) w ≤ 3)
unfolding near_below
near_is zero w d e = let z : ◌≡◌ {A = ℕ} 0 1 = cc in absurd (omega arith)
near_is (suc n) w d e = go (leb (apart (golay n) w) 3) refl (λ r. near_is n w d r)
  where
    go : (t : Bool) → leb (apart (golay n) w) 3 ≡ t → (near_below n w ≡ Ok d → (d < n) × (apart (golay d) w ≤ 3)) → (d < suc n) × (apart (golay d) w ≤ 3)
    go true p r =
        let q : Ok n ≡ Ok d = sym (ap (λ (t : Bool). cond {A = Result ℕ Refusal} t (Ok n) (near_below n w)) p) ∙ e in
        let s : n ≡ d = cc in
        (omega arith, subst (λ (x : ℕ). apart (golay x) w ≤ 3) s (leb-true (apart (golay n) w) 3 p))
    go false p r =
        let q = r (sym (ap (λ (t : Bool). cond {A = Result ℕ Refusal} t (Ok n) (near_below n w)) p) ∙ e) in
        (omega (arith, q.0), q.1)

-- a codeword with up to three flips gives its data
pub three_flips : (w d : ℕ) → w < 2 ^ 24 → d < 4096 → apart (golay d) w ≤ 3 → decoded_of w ≡ Ok d
three_flips w d h k l = below w h ∙ near_found 4096 w d (lit≤ tt) k l

-- what is written reads back
pub reads_back : (d : ℕ) → d < 4096 → decoded_of (golay d) ≡ Ok d
reads_back d h = three_flips (golay d) d (golay-lt d h) h (omega (arith, apart_self (golay d)))

pub reads : (w : ℕ) → w < 2 ^ 24 → Reads w
reads w h =
    record {
      answered = λ d e. near_is 4096 w d (sym (below w h) ∙ e);
      near = λ d k l. three_flips w d h k l;
      refused = λ e d k l. let p = three_flips w d h k l in let z : ◌≡◌ {A = ℕ} 0 1 = cc in omega arith;
      none = λ f. below w h ∙ near_none 4096 w f;
    }

-- a word of more than 24 bits is refused
pub over : (w : ℕ) → 2 ^ 24 ≤ w → decoded_of w ≡ Err BadGolay
unfolding decoded_of
over w h = ap (λ (t : Bool). cond {A = Result ℕ Refusal} t (near_below 4096 w) (Err BadGolay)) (le-ltb w (2 ^ 24) h)

-- ---- the numbers of the refusals

-- reading gives 4 exactly when no codeword is within three flips, and 0 else
pub read_four : (w : ℕ) → w < 2 ^ 24 → ((d : ℕ) → d < 4096 → apart (golay d) w ≤ 3 → ⊥) → said_of (decoded_of w) ≡ 4
read_four w h f = ap said_of ((reads w h).none f)

pub read_zero : (w d : ℕ) → w < 2 ^ 24 → d < 4096 → apart (golay d) w ≤ 3 → said_of (decoded_of w) ≡ 0
read_zero w d h k l = ap said_of (three_flips w d h k l)

-- writing gives 2 exactly for data over 12 bits
pub written_two : (d : ℕ) → 4096 ≤ d → said_of (encoded_of d) ≡ 2
unfolding encoded_of
written_two d h = ap (λ (t : Bool). said_of (cond t (Ok (golay d)) (Err OutOfRange))) (le-ltb d 4096 h)

pub written_zero : (d : ℕ) → d < 4096 → encoded_of d ≡ Ok (golay d)
unfolding encoded_of
written_zero d h = ap (λ (t : Bool). cond {A = Result ℕ Refusal} t (Ok (golay d)) (Err OutOfRange)) (lt-ltb d 4096 h)

-- Each refusal comes exactly when the document says. Assumes nothing.
use mathlib.Core.Path.{◌≡◌, refl, ap, ◌∙◌}
use mathlib.Core.Bool.{Bool, true, false, not, ◌&&◌, and-false}
use mathlib.Core.Logic.{◌⊎◌, inl, inr, ⊎_elim}
use mathlib.Core.List.{List, [], ◌∷◌}
use Prim.Native.Nat.{ℕ, zero, suc, ◌<◌}
use native.Mathlib.Omega.{arith}
use lib.Dec.{eqb, ltb, leb}
use lib.ListN.{length, get_or}
use borrow.Author.Tests.{eqb-true, eqb-false, eq-eqb, ltb-false, leb-false, lt-leb}
use Rattle.refusal.specs.Number.{said_of}
use Rattle.address.specs.declared.Address.{Address}
use Rattle.address.specs.declared.Address.TheVariants.{Invalid, Callsign, Reserved, Broadcast}
use Rattle.address.specs.Callsign.{digit_of, known, blank}
use Rattle.address.specs.Address.{decoded_of, writable, encoded_of}
use Rattle.address.specs.When.{Foreign, AllSpaces, Unwritable, ReadExactly, WrittenExactly}
use Rattle.address.proofs.Alphabet.{digit_in, in_digit}
use Rattle.address.proofs.Number.{both_true, known_at}
use Rattle.address.proofs.EachKind.{read_short, read_six, write_short, write_good, write_bad}

-- ---- a callsign that is none
foreign : (s : List ℕ) → known s ≡ false → Foreign s
unfolding known
foreign [] e = absurd (let z : ◌≡◌ {A = ℕ} 0 1 = cc in omega arith)
foreign (c ∷ s) e = go (ltb (digit_of c) 40) refl e (foreign s)
  where
    go : (b : Bool) → ltb (digit_of c) 40 ≡ b → (b && known s) ≡ false → (known s ≡ false → Foreign s) → Foreign (c ∷ s)
    go true h e r = let f = r e in (suc f.0, omega (arith, f.1), f.2)
    go false h e r = (0, omega arith, λ p. omega (arith, ltb-false (digit_of c) 40 h, in_digit c p))

unknown : (s : List ℕ) → Foreign s → known s ≡ false
unknown s f = go (known s) refl
  where
    go : (b : Bool) → known s ≡ b → b ≡ false
    go true e = absurd (f.2 (digit_in (get_or s f.0 0) (known_at s f.0 e f.1)))
    go false e = refl

spaces : (s : List ℕ) → blank s ≡ true → AllSpaces s
unfolding blank
spaces [] e k h = absurd (omega arith)
spaces (c ∷ s) e zero h = eqb-true c 32 (both_true (eqb c 32) (blank s) e).0
spaces (c ∷ s) e (suc k) h = spaces s (both_true (eqb c 32) (blank s) e).1 k (omega arith)

all_blank : (s : List ℕ) → AllSpaces s → blank s ≡ true
unfolding blank
all_blank [] a = refl
all_blank (c ∷ s) a = simp (eq-eqb c 32 (a 0 (omega arith)), all_blank s (λ k h. a (suc k) (omega arith)))

-- ---- what the test says
unwritable : (a : Address) (s : List ℕ) → writable a s ≡ false → Unwritable a s
unwritable Invalid s e = let z : ◌≡◌ {A = ℕ} 0 1 = cc in omega arith
unwritable Callsign s e = go (known s) (blank s) refl refl e
  where
    go : (k b : Bool) → known s ≡ k → blank s ≡ b → (k && not b) ≡ false → Foreign s ⊎ AllSpaces s
    go true true p q e = inr (spaces s q)
    go true false p q e = absurd (let z : ◌≡◌ {A = ℕ} 0 1 = cc in omega arith)
    go false b p q e = inl (foreign s p)
unwritable (Reserved v) s e = go (leb 0xEE6B28000000 v) (leb v 0xFFFFFFFFFFFE) refl refl e
  where
    go : (a b : Bool) → leb 0xEE6B28000000 v ≡ a → leb v 0xFFFFFFFFFFFE ≡ b → (a && b) ≡ false → (v < 0xEE6B28000000) ⊎ (0xFFFFFFFFFFFE < v)
    go true true p q e = absurd (let z : ◌≡◌ {A = ℕ} 0 1 = cc in omega arith)
    go true false p q e = inr (leb-false v 0xFFFFFFFFFFFE q)
    go false b p q e = inl (leb-false 0xEE6B28000000 v p)
unwritable Broadcast s e = let z : ◌≡◌ {A = ℕ} 0 1 = cc in omega arith

not_writable : (a : Address) (s : List ℕ) → Unwritable a s → writable a s ≡ false
not_writable Invalid s u = absurd u
not_writable Callsign s u =
    ⊎_elim (λ f. ap (λ (b : Bool). b && not (blank s)) (unknown s f))
    (λ a. ap (λ (b : Bool). known s && not b) (all_blank s a) ∙ and-false (known s)) u
not_writable (Reserved v) s u =
    ⊎_elim (λ h. ap (λ (b : Bool). b && leb v 0xFFFFFFFFFFFE) (lt-leb 0xEE6B28000000 v h))
    (λ h. ap (λ (b : Bool). leb 0xEE6B28000000 v && b) (lt-leb v 0xFFFFFFFFFFFE h) ∙ and-false (leb 0xEE6B28000000 v)) u
not_writable Broadcast s u = absurd u

-- ---- the numbers
pub read_exactly : (s : List ℕ) → ReadExactly s (said_of (decoded_of s))
read_exactly s =
    record {
      one_only = λ e h. omega (arith, answered h);
      one_if = λ n. ap said_of (read_short s n);
      read_if = answered;
    }
  where
    answered : length s ≡ 6 → said_of (decoded_of s) ≡ 0
    answered h = ap said_of (read_six s h)

pub written_exactly : (a : Address) (s : List ℕ) → WrittenExactly a s (said_of (encoded_of a s))
written_exactly a s =
    record {
      one_only = λ e h. not_one h (writable a s) refl e;
      one_if = said_one;
      six_only = λ e. six (eqb (length s) 9) (writable a s) refl refl e;
      six_if = λ h u. said_six h (not_writable a s u);
      done_if = λ h n. done h n (writable a s) refl;
    }
  where
    said_one : (length s ≡ 9 → ⊥) → said_of (encoded_of a s) ≡ 1
    said_one n = ap said_of (write_short a s n)

    said_six : length s ≡ 9 → writable a s ≡ false → said_of (encoded_of a s) ≡ 6
    said_six h e = ap said_of (write_bad a s h e)

    said_none : length s ≡ 9 → writable a s ≡ true → said_of (encoded_of a s) ≡ 0
    said_none h e = ap said_of (write_good a s h e)

    not_one : length s ≡ 9 → (b : Bool) → writable a s ≡ b → said_of (encoded_of a s) ≡ 1 → ⊥
    not_one h true w e = omega (arith, said_none h w)
    not_one h false w e = omega (arith, said_six h w)

    six : (b w : Bool) → eqb (length s) 9 ≡ b → writable a s ≡ w → said_of (encoded_of a s) ≡ 6 → (length s ≡ 9) × Unwritable a s
    six true true p q e = absurd (omega (arith, said_none (eqb-true (length s) 9 p) q))
    six true false p q e = (eqb-true (length s) 9 p, unwritable a s q)
    six false w p q e = absurd (omega (arith, said_one (eqb-false (length s) 9 p)))

    done : length s ≡ 9 → (Unwritable a s → ⊥) → (b : Bool) → writable a s ≡ b → said_of (encoded_of a s) ≡ 0
    done h n true w = said_none h w
    done h n false w = absurd (n (unwritable a s w))

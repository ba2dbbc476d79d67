-- Each refusal comes exactly when the document says. Assumes nothing.
use mathlib.Core.Path.{◌≡◌, refl, sym, ap, ◌∙◌, subst}
use mathlib.Core.Bool.{Bool, true, false, cond, ◌&&◌, and-false}
use mathlib.Core.Logic.{⊎_elim}
use mathlib.Core.List.{List}
use Prim.Native.Nat.{ℕ}
use native.Mathlib.Omega.{arith}
use lib.Dec.{eqb}
use lib.ListN.{length}
use borrow.Author.Tests.{eq-eqb, ne_eqb, le-leb, lt-leb}
use Rattle.std.proofs.Common.{Result, Ok, Err}
use Rattle.std.specs.Result.{result_and}
use Rattle.refusal.specs.Number.{said_of, made_of}
use Rattle.refusal.specs.declared.Refusal.{Refusal}
use Rattle.refusal.specs.declared.Refusal.TheVariants.{WrongLength, BadAddress}
use Rattle.laws.specs.Value.{in_bytes}
use Rattle.address.specs.declared.Address.{Address}
use Rattle.address.specs.Address.{address_value, writable, encoded_of}
use Rattle.address.specs.When.{Unwritable, WrittenExactly}
use Rattle.address.proofs.EachKind.{write_good, write_bad}
use Rattle.address.proofs.Exactly.{written_exactly}
use Rattle.protocol.specs.declared.Mode.{Mode}
use Rattle.protocol.specs.declared.DataType.{DataType}
use Rattle.protocol.specs.Fields.{Place}
use Rattle.protocol.specs.Header.{from_of, address_set_of, channel_set_of, new_said, new_of}
use Rattle.protocol.specs.Lich.{part_said}
use Rattle.protocol.specs.When.{FromExactly, ChannelExactly, NewExactly, PartExactly}

made_said : {A B : Type 0} (f : A → B) (r : Result A Refusal) → said_of (made_of f r) ≡ said_of r
made_said f (Ok x) = refl
made_said f (Err why) = refl

pub from_exactly : (s : List ℕ) → FromExactly s (said_of (from_of s))
from_exactly s = record { one_if = λ n. rw (ne_eqb (length s) 30 n); done_if = λ e. rw (eq-eqb (length s) 30 e) }

pub channel_exactly : (c : ℕ) (s : List ℕ) → ChannelExactly c (said_of (channel_set_of c s))
channel_exactly c s = record { two_if = λ h. rw (lt-leb c 15 h); done_if = λ h. rw (le-leb c 15 h) }

-- setting an address refuses as writing it does
pub address_exactly : (p : Place) (a : Address) (cs s : List ℕ) → WrittenExactly a cs (said_of (address_set_of p a cs s))
address_exactly p a cs s = subst (WrittenExactly a cs) (sym (made_said _ (encoded_of a cs))) (written_exactly a cs)

-- ---- a header from nothing

module _ (a : Address) (s : List ℕ) (nine : length s ≡ 9) where
  bad : Unwritable a s → encoded_of a s ≡ Err BadAddress
  bad u = go (writable a s) refl
    where
      go : (b : Bool) → writable a s ≡ b → encoded_of a s ≡ Err BadAddress
      go true w = absurd (omega (arith, (written_exactly a s).six_if nine u, ap said_of (write_good a s nine w)))
      go false w = write_bad a s nine w

  good : (Unwritable a s → ⊥) → encoded_of a s ≡ Ok (in_bytes 6 (address_value a s))
  good n = go (writable a s) refl
    where
      go : (b : Bool) → writable a s ≡ b → encoded_of a s ≡ Ok (in_bytes 6 (address_value a s))
      go true w = write_good a s nine w
      go false w = absurd (n ((written_exactly a s).six_only (ap said_of (write_bad a s nine w))).1)

  either : {A : Type 0} (r : Result A Refusal) → r ≡ Err BadAddress → said_of (result_and (encoded_of a s) r) ≡ 6
  either r e = go (writable a s) refl
    where
      go : (b : Bool) → writable a s ≡ b → said_of (result_and (encoded_of a s) r) ≡ 6
      go true q = rw (write_good a s nine q, e)
      go false q = rw (write_bad a s nine q)

pub new_exactly : (m : Mode) (d : DataType) (a : Address) (s : List ℕ) (b : Address) (t : List ℕ) → NewExactly a s b t (said_of (new_of m d a s b t))
new_exactly m d a s b t =
    subst (NewExactly a s b t) (sym (made_said _ (new_said a s b t)))
    (record {
      one_if =
          ⊎_elim (λ n. rw (ne_eqb (length s) 9 n))
          (λ n. ap (λ (x : Bool). said_of (cond (eqb (length s) 9 && x) (result_and (encoded_of a s) (encoded_of b t)) (Err WrongLength))) (ne_eqb (length t) 9 n)
          ∙ ap (λ (x : Bool). said_of (cond x (result_and (encoded_of a s) (encoded_of b t)) (Err WrongLength))) (and-false (eqb (length s) 9)));
      six_if =
          λ e f.
          ⊎_elim (λ u. long e f ∙ ap (λ (r : Result (List ℕ) Refusal). said_of (result_and r (encoded_of b t))) (bad a s e u))
          (λ u. long e f ∙ either a s e (encoded_of b t) (bad b t f u));
      done_if =
          λ e f n k.
          long e f ∙ ap (λ (r : Result (List ℕ) Refusal). said_of (result_and r (encoded_of b t))) (good a s e n) ∙ ap said_of (good b t f k);
    })
  where
    long : length s ≡ 9 → length t ≡ 9 → said_of (new_said a s b t) ≡ said_of (result_and (encoded_of a s) (encoded_of b t))
    long e f = rw (eq-eqb (length s) 9 e, eq-eqb (length t) 9 f)

-- ---- a part

pub part_exactly : (c : ℕ) (part : List ℕ) → PartExactly c part (said_of (part_said c part))
part_exactly c part =
    record {
      one_if = λ n. rw (ne_eqb (length part) 5 n);
      two_if = λ e h. rw (eq-eqb (length part) 5 e, lt-leb c 5 h);
      done_if = λ e h. rw (eq-eqb (length part) 5 e, le-leb c 5 h);
    }

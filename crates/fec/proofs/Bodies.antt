-- What `encoded_of` and `decoded_of` say of each kind, and what the parts of the program give together. Assumes nothing.
use mathlib.Core.Path.{◌≡◌, refl, sym, ap, ◌∙◌, subst}
use mathlib.Core.Bool.{Bool, false}
use mathlib.Core.List.{List}
use Prim.Native.Nat.{ℕ, ◌+◌, ◌*◌, ◌≤◌, ◌<◌}
use native.Mathlib.Omega.{arith}
use lib.ListN.{length, take, get_or}
use borrow.Author.Tests.{eq-eqb, ne_eqb}
use Rattle.std.specs.Prelude.{Option, Some, None, option_map, ok_or, Result, Ok, Err, IsErr, IsErrAnd}
use Rattle.refusal.specs.declared.Refusal.{Refusal}
use Rattle.refusal.specs.declared.Refusal.TheVariants.{WrongLength, TooFar}
use Rattle.bits.specs.Bits.{bits_of, bytes_of}
use Rattle.bits.proofs.Back.{bytes_alike}
use Rattle.fec.specs.declared.Kind.{Kind}
use Rattle.fec.specs.declared.Kind.TheVariants.{Header, Stream, Packet}
use Rattle.fec.specs.declared.Plan.{Plan}
use Rattle.fec.specs.Code.{sends, code, flushed}
use Rattle.fec.specs.Nearest.{read_of}
use Rattle.fec.specs.Kinds.{plan_of, data_bytes, bits_in, coded_bytes, limit_of, sends_in, coded_of, encoded_of, found, decoded_of}
use Rattle.fec.specs.Search.{sofar}

-- ---- the numbers of each kind fit
pub record Fits (pl : Plan) : Type 0 where
  -- the coded bits fill the coded bytes
  pub full : sofar (sends pl.puncture) (pl.bits + 4) ≡ 8 * pl.coded
  pub few : pl.bits ≤ 240
  pub given : pl.bits ≤ 8 * pl.bytes
  pub short : pl.coded ≤ 46
  pub low : pl.limit < 255

pub fits : (k : Kind) → Fits (plan_of k)
unfolding sofar sends
fits Header = record { full = refl; few = omega arith; given = omega arith; short = omega arith; low = omega arith }
fits Stream = record { full = refl; few = omega arith; given = omega arith; short = omega arith; low = omega arith }
fits Packet = record { full = refl; few = omega arith; given = omega arith; short = omega arith; low = omega arith }

-- ---- by length
module _ (k : Kind) (d : List ℕ) where
  pub encoded_long : length d ≡ data_bytes k → encoded_of k d ≡ Ok (coded_of k d)
  unfolding encoded_of
  encoded_long l = simp (eq-eqb (length d) (data_bytes k) l)

  pub encoded_short : (length d ≡ data_bytes k → ⊥) → encoded_of k d ≡ Err WrongLength
  unfolding encoded_of
  encoded_short n = simp (ne_eqb (length d) (data_bytes k) n)

  pub decoded_long : length d ≡ coded_bytes k → decoded_of k d ≡ found (read_of (sends_in k) (bits_in k) (limit_of k) (bits_of d))
  unfolding decoded_of
  decoded_long l = simp (eq-eqb (length d) (coded_bytes k) l)

  pub decoded_short : (length d ≡ coded_bytes k → ⊥) → decoded_of k d ≡ Err WrongLength
  unfolding decoded_of
  decoded_short n = simp (ne_eqb (length d) (coded_bytes k) n)

-- ---- what is known of a search by its answer
some_of : (o : Option (List Bool)) (w : List Bool) → Ok w ≡ ok_or o TooFar → o ≡ Some w
some_of (Some v) w e = cc
some_of None w e = absurd (cc)

none_of : (o : Option (List Bool)) (why : Refusal) → Err why ≡ ok_or o TooFar → (why ≡ TooFar) × (o ≡ None)
none_of None why e = (cc, refl)
none_of (Some v) why e = absurd (cc)

-- ---- what the program makes, for the plan of a kind
module _ (k : Kind) (pl : Plan) (of-pl : pl ≡ plan_of k) (s : List ℕ) where
  pub plan_fits : Fits pl
  plan_fits = subst Fits (sym of-pl) (fits k)

  pub writes_short : (length s ≡ pl.bytes → ⊥) → Err WrongLength ≡ encoded_of k s
  writes_short n = sym (encoded_short k s (λ l. n (l ∙ ap (λ (q : Plan). q.bytes) (sym of-pl))))

  pub writes_long : length s ≡ pl.bytes → (out : List Bool) (b : List ℕ)
      → ((i : ℕ) → get_or out i false ≡ get_or (code (sends pl.puncture) (flushed (take pl.bits (bits_of s)))) i false)
      → b ≡ bytes_of 46 out → Ok b ≡ encoded_of k s
  unfolding coded_of
  writes_long l out b same of-b =
      ap {B = Result (List ℕ) Refusal} Ok
      (of-b ∙ bytes_alike 46 out _ (λ i h. same i)
      ∙ ap (λ (q : Plan). bytes_of 46 (code (sends q.puncture) (flushed (take q.bits (bits_of s))))) of-pl)
      ∙ sym (encoded_long k s (l ∙ ap (λ (q : Plan). q.bytes) of-pl))

  pub reads_short : (length s ≡ pl.coded → ⊥) → Err WrongLength ≡ decoded_of k s
  reads_short n = sym (decoded_short k s (λ l. n (l ∙ ap (λ (q : Plan). q.coded) (sym of-pl))))

  module _ (l : length s ≡ pl.coded) (r : Option (List Bool))
      (read : option_map (take pl.bits) r ≡ read_of (sends pl.puncture) pl.bits pl.limit (bits_of s)) where
    reads_long : found (option_map (take pl.bits) r) ≡ decoded_of k s
    reads_long =
        ap found (read ∙ ap (λ (q : Plan). read_of (sends q.puncture) q.bits q.limit (bits_of s)) of-pl)
        ∙ sym (decoded_long k s (l ∙ ap (λ (q : Plan). q.coded) of-pl))

    pub reads_word : (w : List Bool) → Ok w ≡ ok_or r TooFar → (b : List ℕ) → b ≡ bytes_of 30 (take pl.bits w) → Ok b ≡ decoded_of k s
    reads_word w e b of-b =
        ap {B = Result (List ℕ) Refusal} Ok of-b
        ∙ ap (λ (o : Option (List Bool)). found (option_map (take pl.bits) o)) (sym (some_of r w e)) ∙ reads_long

    pub reads_far : (why : Refusal) → Err why ≡ ok_or r TooFar → (a : Result (List ℕ) Refusal) → IsErr a × IsErrAnd a (λ x. x ≡ why) → a ≡ decoded_of k s
    reads_far why e (Err x) q =
        let n = none_of r why e in
        ap {B = Result (List ℕ) Refusal} Err (q.1 ∙ n.0)
        ∙ ap (λ (o : Option (List Bool)). found (option_map (take pl.bits) o)) (sym n.1) ∙ reads_long
    reads_far why e (Ok x) q = absurd q.1

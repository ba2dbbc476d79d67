-- Of each kind: when reading answers, and when it refuses and with what, over all words. Assumes nothing.
use mathlib.Core.Path.{◌≡◌, refl, sym, ap, ◌∙◌}
use mathlib.Core.Bool.{Bool}
use mathlib.Core.List.{List, []}
use Rattle.std.specs.Prelude.{Option, Some, None, Result, Ok, Err}
use Prim.Native.Nat.{ℕ}
use native.Mathlib.Decide.{ℕ_discrete}
use native.Mathlib.Omega.{arith}
use lib.ListN.{length, take}
use Rattle.refusal.specs.Number.{said_of}
use Rattle.refusal.specs.declared.Refusal.{Refusal}
use Rattle.refusal.specs.declared.Refusal.TheVariants.{WrongLength, TooFar}
use Rattle.bits.specs.Bits.{bits_of, bytes_of}
use Rattle.fec.specs.declared.Kind.{Kind}
use Rattle.fec.specs.Nearest.{read_of}
use Rattle.fec.specs.Kinds.{bits_in, coded_bytes, limit_of, sends_in, found, decoded_of}
use Rattle.fec.specs.When.{Near, Far}
use Rattle.fec.proofs.Answers.{answered_when as read-when, refused_when as unread-when}
use Rattle.fec.proofs.Bodies.{decoded_long, decoded_short}

abbrev Answer : Type 0
Answer = Result (List ℕ) Refusal

-- the number of an answer
abbrev said : Answer → ℕ
said r = said_of r

-- the bytes of an answer
abbrev bytes_in : Answer → List ℕ
bytes_in (Ok b) = b
bytes_in (Err why) = []

module _ (k : Kind) (rx : List ℕ) where
  read : Option (List Bool)
  read = read_of (sends_in k) (bits_in k) (limit_of k) (bits_of rx)

  -- the three answers there are
  cases : (P : Answer → Type 0) → ((length rx ≡ coded_bytes k → ⊥) → P (Err WrongLength))
      → (length rx ≡ coded_bytes k → (d : List Bool) → read ≡ Some d → P (Ok (bytes_of 30 d)))
      → (length rx ≡ coded_bytes k → read ≡ None → P (Err TooFar)) → P (decoded_of k rx)
  unfolding read
  cases P wrong near far = by_length (ℕ_discrete (length rx) (coded_bytes k))
    where
      by_read : length rx ≡ coded_bytes k → (o : Option (List Bool)) → read_of (sends_in k) (bits_in k) (limit_of k) (bits_of rx) ≡ o → P (found o)
      by_read l (Some d) e = near l d e
      by_read l None e = far l e

      by_length : Dec (length rx ≡ coded_bytes k) → P (decoded_of k rx)
      by_length (yes l) = rw (decoded_long k rx l) (by_read l (read_of (sends_in k) (bits_in k) (limit_of k) (bits_of rx)) refl)
      by_length (no n) = rw (decoded_short k rx n) (wrong n)

  pub answered_when : (b : List ℕ) → (decoded_of k rx ≡ Ok b → Near k rx b) × (Near k rx b → decoded_of k rx ≡ Ok b)
  unfolding read
  answered_when b = (
    cases (λ o. o ≡ Ok b → Near k rx b) (λ n e. absurd (omega (arith, ap said e)))
        (λ l d q e.
        let w = (read-when (sends_in k) (bits_in k) (limit_of k) (bits_of rx) d).0 q in
        record {
          long = l;
          word = w.0;
          nearest = w.1;
          within = w.2;
          bytes = sym (ap bytes_in e) ∙ ap (bytes_of 30) w.3;
        })
        (λ l q e. absurd (omega (arith, ap said e))),
    λ a.
        decoded_long k rx a.long
        ∙ ap found ((read-when (sends_in k) (bits_in k) (limit_of k) (bits_of rx) (take (bits_in k) a.word)).1 (a.word, a.nearest, a.within, refl))
        ∙ ap {B = Answer} Ok (sym a.bytes),
  )

  pub refused_when : (decoded_of k rx ≡ Err TooFar → Far k rx) × (Far k rx → decoded_of k rx ≡ Err TooFar)
  unfolding read
  refused_when = (
    cases (λ o. o ≡ Err TooFar → Far k rx) (λ n e. absurd (omega (arith, ap said e)))
        (λ l d q e. absurd (omega (arith, ap said e)))
        (λ l q e. record { long = l; beyond = (unread-when (sends_in k) (bits_in k) (limit_of k) (bits_of rx)).0 q }),
    λ f. decoded_long k rx f.long ∙ ap found ((unread-when (sends_in k) (bits_in k) (limit_of k) (bits_of rx)).1 f.beyond),
  )

  pub wrong_length_when : (decoded_of k rx ≡ Err WrongLength → length rx ≡ coded_bytes k → ⊥) × ((length rx ≡ coded_bytes k → ⊥) → decoded_of k rx ≡ Err WrongLength)
  wrong_length_when = (
    cases (λ o. o ≡ Err WrongLength → length rx ≡ coded_bytes k → ⊥) (λ n e. n)
        (λ l d q e. absurd (omega (arith, ap said e)))
        (λ l q e. absurd (omega (arith, ap said e))),
    decoded_short k rx,
  )

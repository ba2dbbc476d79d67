-- The answers of making a header from nothing, and what its steps leave. Assumes nothing.
use mathlib.Core.Path.{◌≡◌, refl, sym, ap, ◌∙◌}
use mathlib.Core.List.{List}
use Prim.Native.Nat.{ℕ}
use lib.ListN.{length, replicate}
use borrow.Author.Tests.{eq-eqb, ne_eqb}
use Rattle.std.proofs.Common.{Result, Ok, Err}
use Rattle.std.specs.Result.{result_and}
use Rattle.refusal.specs.declared.Refusal.{Refusal}
use Rattle.refusal.specs.declared.Refusal.TheVariants.{WrongLength}
use Rattle.address.specs.declared.Address.{Address}
use Rattle.address.specs.Address.{address_value, encoded_of}
use Rattle.protocol.specs.declared.Mode.{Mode}
use Rattle.protocol.specs.declared.DataType.{DataType}
use Rattle.protocol.specs.declared.LsfFrame.{LsfFrame}
use Rattle.protocol.specs.Numbers.{mode_number, data_number}
use Rattle.protocol.specs.Fields.{destination_bytes, source_bytes, mode_bits, data_bits, encryption_bits, set_field}
use Rattle.protocol.specs.Header.{header, answered, address_set_of, new_said, new_bytes, new_of}

-- ---- what an answer says

-- a refusal was the address's, and a header is the one that was made
refusal_of : (why : Refusal) (r : Result (List ℕ) Refusal) (s : List ℕ) → Err why ≡ answered r s → r ≡ Err why
refusal_of why (Ok x) s e = cc
refusal_of why (Err w) s e = let same : w ≡ why = cc in ap Err same

header_of : (h : LsfFrame) (r : Result (List ℕ) Refusal) (s : List ℕ) → Ok h ≡ answered r s → h ≡ header s
header_of h (Ok x) s e = cc
header_of h (Err w) s e = cc

written_of : (h : LsfFrame) (r : Result (List ℕ) Refusal) (s : List ℕ) → Ok h ≡ answered r s → (x : List ℕ) × (r ≡ Ok x)
written_of h (Ok x) s e = (x, refl)
written_of h (Err w) s e = cc

passes : (h : LsfFrame) (r q : Result (List ℕ) Refusal) (s : List ℕ) → Ok h ≡ answered r s → result_and r q ≡ q
passes h (Ok x) q s e = refl
passes h (Err w) q s e = cc

-- ---- each way out

module _ (m : Mode) (d : DataType) (a : Address) (s : List ℕ) (b : Address) (t : List ℕ) where
  by : (r : Result (List ℕ) Refusal) → new_said a s b t ≡ r → answered r (new_bytes m d a s b t) ≡ new_of m d a s b t
  by r e = ap (λ (x : Result (List ℕ) Refusal). answered x (new_bytes m d a s b t)) (sym e)

  pub short_source : (length s ≡ 9 → ⊥) → Err WrongLength ≡ new_of m d a s b t
  short_source n = by (Err WrongLength) (rw (ne_eqb (length s) 9 n))

  pub short_destination : length s ≡ 9 → (length t ≡ 9 → ⊥) → Err WrongLength ≡ new_of m d a s b t
  short_destination e n = by (Err WrongLength) (rw (eq-eqb (length s) 9 e, ne_eqb (length t) 9 n))

  -- the steps: h has the source, g the destination too
  module _ (es : length s ≡ 9) (et : length t ≡ 9) where
    long : new_said a s b t ≡ result_and (encoded_of a s) (encoded_of b t)
    long = rw (eq-eqb (length s) 9 es, eq-eqb (length t) 9 et)

    pub bad_source : (why : Refusal) → Err why ≡ address_set_of source_bytes a s (replicate 30 0) → Err why ≡ new_of m d a s b t
    bad_source why e =
        by (Err why) (long ∙ ap (λ (r : Result (List ℕ) Refusal). result_and r (encoded_of b t)) (refusal_of why (encoded_of a s) _ e))

    module _ (h : LsfFrame) (source : Ok h ≡ address_set_of source_bytes a s (replicate 30 0)) where
      second : new_said a s b t ≡ encoded_of b t
      second = long ∙ passes h (encoded_of a s) (encoded_of b t) _ source

      pub bad_destination : (why : Refusal) → Err why ≡ address_set_of destination_bytes b t h.bytes → Err why ≡ new_of m d a s b t
      bad_destination why e = by (Err why) (second ∙ refusal_of why (encoded_of b t) _ e)

      -- f, e and k set the mode, the data type and no encryption
      pub all_good : (g : LsfFrame) → Ok g ≡ address_set_of destination_bytes b t h.bytes
          → (f e k : LsfFrame) → f ≡ header (set_field mode_bits (mode_number m) g.bytes)
          → e ≡ header (set_field data_bits (data_number d) f.bytes) → k ≡ header (set_field encryption_bits 0 e.bytes)
          → Ok k ≡ new_of m d a s b t
      unfolding new_bytes
      all_good g destination f e k mode data_type encryption =
          let from : h ≡ header (set_field source_bytes (address_value a s) (replicate 30 0)) = header_of h (encoded_of a s) _ source in
          let to : g ≡ header (set_field destination_bytes (address_value b t) h.bytes) = header_of g (encoded_of b t) _ destination in
          let written = written_of g (encoded_of b t) _ destination in
          ap (λ (x : LsfFrame). Ok x)
          (encryption
          ∙ ap (λ (x : LsfFrame). header (set_field encryption_bits 0 x.bytes))
          (data_type
          ∙ ap (λ (x : LsfFrame). header (set_field data_bits (data_number d) x.bytes))
          (mode
          ∙ ap (λ (x : LsfFrame). header (set_field mode_bits (mode_number m) x.bytes))
          (to ∙ ap (λ (x : LsfFrame). header (set_field destination_bytes (address_value b t) x.bytes)) from))))
          ∙ by (Ok written.0) (second ∙ written.1)

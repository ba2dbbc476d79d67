-- A field set: it reads back as set, every other field and byte is kept, and the CRC is that of a valid header. Two fields that are apart may be set
-- in either order, and of two settings of one field the last stays. Assumes nothing.
use mathlib.Core.Path.{◌≡◌, sym, ap, ◌∙◌}
use mathlib.Core.List.{List, [], ◌∷◌}
use Prim.Native.Nat.{ℕ, ◌+◌, ◌^◌, ◌<◌, ◌≤◌}
use native.Mathlib.Omega.{arith}
use lib.ListN.{get_or, take}
use lib.Seq.{drop-cons}
use Rattle.laws.specs.Value.{value_of}
use Rattle.crc.specs.Crc.{crc}
use Rattle.protocol.specs.Fields.{Place, bits_at, with_bits, bytes_from, fields_of, field, renewed, set_field}
use Rattle.protocol.proofs.Bits.{Apart, put_there, put_lt, put_twice, put_kept, put_swap}
use Rattle.protocol.proofs.Whole.{Thirty, fields_lt, field_bytes, renewed_thirty, renewed_valid, renewed_fields}

-- the place lies in bytes 0 to 27
abbrev pub Inside : Place → Type 0
Inside p = p.low + p.width ≤ 224

-- t is the header s with v set at p
pub record Sets (p : Place) (v : ℕ) (s t : List ℕ) : Type 0 where
  pub thirty : Thirty t
  pub reads_back : field p t ≡ v
  pub others : (q : Place) → Apart p q → field q t ≡ field q s
  pub bytes : (k : ℕ) → k < 28 → Apart p (bytes_from k 1) → get_or t k 0 ≡ get_or s k 0
  pub valid : crc t ≡ 0

-- a byte is a field
byte_field : (s : List ℕ) (k : ℕ) → Thirty s → k < 28 → field (bytes_from k 1) s ≡ get_or s k 0
unfolding value_of
byte_field s k thirty h =
    let one : value_of (get_or s k 0 ∷ []) ≡ get_or s k 0 = omega arith in
    field_bytes s thirty k 1 (omega arith) ∙ ap (λ (l : List ℕ). value_of (take 1 l)) (drop-cons s k 0 (omega (arith, thirty.long))) ∙ one

module _ (p : Place) (inside : Inside p) (v : ℕ) (fits : v < 2 ^ p.width) (s : List ℕ) (thirty : Thirty s) where
  new_lt : with_bits p v (fields_of s) < 2 ^ 224
  new_lt = put_lt p.low p.width v (fields_of s) fits 224 inside (fields_lt s thirty)

  set_fields : fields_of (set_field p v s) ≡ with_bits p v (fields_of s)
  unfolding set_field
  set_fields = renewed_fields (with_bits p v (fields_of s)) new_lt

  set_thirty : Thirty (set_field p v s)
  unfolding set_field
  set_thirty = renewed_thirty (with_bits p v (fields_of s)) new_lt

  set_others : (q : Place) → Apart p q → field q (set_field p v s) ≡ field q s
  unfolding field
  set_others q apart = ap (bits_at q) set_fields ∙ put_kept p q apart v (fields_of s) fits

  pub sets : Sets p v s (set_field p v s)
  unfolding field set_field
  sets =
      record {
        thirty = set_thirty;
        reads_back = ap (bits_at p) set_fields ∙ put_there p.low p.width v (fields_of s) fits;
        others = set_others;
        bytes =
            λ k h apart.
            sym (byte_field (set_field p v s) k set_thirty h) ∙ set_others (bytes_from k 1) apart ∙ byte_field s k thirty h;
        valid = renewed_valid (with_bits p v (fields_of s)) new_lt;
      }

  -- set twice, the last stays
  pub set_twice : (u : ℕ) → set_field p u (set_field p v s) ≡ set_field p u s
  unfolding set_field
  set_twice u = ap renewed (ap (with_bits p u) set_fields ∙ put_twice p.low p.width v (fields_of s) fits u)

-- two fields that are apart, set in either order
pub set_swap : (p q : Place) → Inside p → Inside q → Apart p q → (v u : ℕ) → v < 2 ^ p.width → u < 2 ^ q.width → (s : List ℕ) → Thirty s
    → set_field q u (set_field p v s) ≡ set_field p v (set_field q u s)
unfolding set_field
set_swap p q ip iq apart v u hv hu s thirty =
    ap renewed
    (ap (with_bits q u) (set_fields p ip v hv s thirty) ∙ put_swap p q apart v (fields_of s) hv u hu
    ∙ sym (ap (with_bits p v) (set_fields q iq u hu s thirty)))

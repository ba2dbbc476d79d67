-- A header's thirty bytes and the number of its fields, each from the other. Assumes nothing.
use mathlib.Core.Path.{◌≡◌, refl, sym, ap, ap₂, ◌∙◌, subst}
use mathlib.Core.List.{List, [], ◌∷◌, ◌++◌, append-nil, append_assoc}
use Prim.Native.Nat.{ℕ, ◌+◌, ◌-◌, ◌*◌, ◌/◌, ◌%◌, ◌^◌, ◌<◌, ◌≤◌}
use native.Mathlib.Nat.{div-one}
use native.Mathlib.Omega.{arith}
use lib.ListN.{length, get_or, replicate, take, drop, length-append, length-drop, drop_of_length-le}
use lib.Seq.{drop-drop, take_at, take-add, take-append-add, length-take-le, drop-cons}
use Rattle.laws.specs.Value.{value_of, in_bytes, Bytes}
use Rattle.laws.proofs.Number.{value_lt, length_in_bytes, bytes_of_value, value_of_bytes, value_append, bits_of_bytes}
use Rattle.crc.specs.Crc.{crc}
use Rattle.crc.proofs.Own.{two, crc_own, crc-lt}
use Rattle.laws.proofs.Bytes.{bytes_append, bytes_take, bytes_drop, bytes_zeros, bytes_in_bytes}
use Rattle.protocol.specs.Fields.{bits_at, with_bits, bytes_from, type_bytes, fields_of, field, renewed}
use Rattle.protocol.proofs.Bits.{read_parts, put_parts}

-- thirty bytes
pub record Thirty (s : List ℕ) : Type 0 where
  pub long : length s ≡ 30
  pub bytes : Bytes s

pub zeros : Thirty (replicate 30 0)
zeros = record { long = refl; bytes = bytes_zeros 30 }

two_bytes : (n : ℕ) → in_bytes 2 n ≡ two n
unfolding in_bytes
two_bytes n = ap (λ (x : ℕ). n / 256 ∷ x ∷ []) (div-one (n % 256))

-- two bytes, each by its place
pub both : (l : List ℕ) → length l ≡ 2 → (get_or l 0 0 ∷ get_or l 1 0 ∷ []) ≡ l
both [] h = absurd (omega (arith, h))
both (x ∷ []) h = absurd (omega (arith, h))
both (x ∷ y ∷ []) h = refl
both (x ∷ y ∷ z ∷ l) h = absurd (omega (arith, h))

-- ---- from the bytes to the number

module _ (s : List ℕ) (thirty : Thirty s) where
  front_long : length (take 28 s) ≡ 28
  front_long = length-take-le 28 s (omega (arith, thirty.long))

  pub fields_lt : fields_of s < 2 ^ 224
  unfolding fields_of
  fields_lt = subst (λ (n : ℕ). value_of (take 28 s) < 256 ^ n) front_long (value_lt (take 28 s) (bytes_take 28 s thirty.bytes))

  fields_front : in_bytes 28 (fields_of s) ≡ take 28 s
  unfolding fields_of
  fields_front = ap (λ (n : ℕ). in_bytes n (value_of (take 28 s))) (sym front_long) ∙ bytes_of_value (take 28 s) (bytes_take 28 s thirty.bytes)

  -- the last two bytes stored
  pub renew_bytes : (c : ℕ) (new : List ℕ) → c ≡ crc (take 28 s) → new ≡ in_bytes 2 c → take 28 s ++ (new ++ drop 2 (drop 28 s)) ≡ renewed (fields_of s)
  unfolding renewed
  renew_bytes c new e is =
      let two : length (drop 28 s) ≤ 2 = omega (arith, length-drop 28 s, thirty.long) in
      ap (λ (l : List ℕ). take 28 s ++ (new ++ l)) (drop_of_length-le (drop 28 s) two)
      ∙ ap (λ (l : List ℕ). take 28 s ++ l) (append-nil new ∙ is ∙ ap (in_bytes 2) e)
      ∙ sym (ap (λ (l : List ℕ). l ++ in_bytes 2 (crc l)) fields_front)

  -- ---- the n bytes from byte a on
  module _ (a n : ℕ) (within : a + n ≤ 28) where
    rest : List ℕ
    rest = take (28 - (a + n)) (drop (a + n) s)

    rest_long : length rest ≡ 28 - (a + n)
    unfolding rest
    rest_long = length-take-le (28 - (a + n)) (drop (a + n) s) (omega (arith, length-drop (a + n) s, thirty.long))

    rest_bytes : Bytes rest
    unfolding rest
    rest_bytes = bytes_take (28 - (a + n)) (drop (a + n) s) (bytes_drop (a + n) s thirty.bytes)

    part_long : length (take n (drop a s)) ≡ n
    part_long = length-take-le n (drop a s) (omega (arith, length-drop a s, thirty.long))

    in_parts : take 28 s ≡ take a s ++ take n (drop a s) ++ rest
    unfolding rest
    in_parts =
        let e : a + n + (28 - (a + n)) ≡ 28 = omega arith in
        ap (λ (k : ℕ). take k s) (sym e) ∙ take-add (a + n) (28 - (a + n)) s
        ∙ ap (λ (l : List ℕ). l ++ take (28 - (a + n)) (drop (a + n) s)) (take-add a n s)

    -- the number of three parts
    whole : (m : List ℕ) → length m ≡ n
        → value_of (take a s ++ m ++ rest) ≡ (value_of (take a s) * 2 ^ (8 * n) + value_of m) * 2 ^ (8 * (28 - (a + n))) + value_of rest
    whole m e =
        value_append (take a s ++ m) rest
        ∙ ap₂ (λ (x y : ℕ). x * y + value_of rest)
        (value_append (take a s) m ∙ ap (λ (k : ℕ). value_of (take a s) * k + value_of m) (bits_of_bytes (length m) ∙ ap (λ (k : ℕ). 2 ^ (8 * k)) e))
        (bits_of_bytes (length rest) ∙ ap (λ (k : ℕ). 2 ^ (8 * k)) rest_long)

    rest_lt : value_of rest < 2 ^ (8 * (28 - (a + n)))
    rest_lt = subst (λ (k : ℕ). value_of rest < k) (bits_of_bytes (length rest) ∙ ap (λ (k : ℕ). 2 ^ (8 * k)) rest_long) (value_lt rest rest_bytes)

    part_lt : value_of (take n (drop a s)) < 2 ^ (8 * n)
    part_lt =
        subst (λ (k : ℕ). value_of (take n (drop a s)) < k) (bits_of_bytes (length (take n (drop a s))) ∙ ap (λ (k : ℕ). 2 ^ (8 * k)) part_long)
        (value_lt (take n (drop a s)) (bytes_take n (drop a s) (bytes_drop a s thirty.bytes)))

    pub field_bytes : field (bytes_from a n) s ≡ value_of (take n (drop a s))
    unfolding field fields_of
    field_bytes =
        ap (bits_at (bytes_from a n)) (ap value_of in_parts ∙ whole (take n (drop a s)) part_long)
        ∙ read_parts (8 * (28 - (a + n))) (8 * n) (value_of (take a s)) (value_of (take n (drop a s))) (value_of rest) part_lt rest_lt

    -- other bytes stored there
    pub bytes_put : (m : List ℕ) → length m ≡ n → fields_of (take a s ++ m ++ drop (a + n) s) ≡ with_bits (bytes_from a n) (value_of m) (fields_of s)
    unfolding fields_of rest
    bytes_put m e =
        let k : length (take a s ++ m) + (28 - (a + n)) ≡ 28 =
        omega (arith, length-append (take a s) m, length-take-le a s (omega (arith, thirty.long))) in
        ap value_of (ap (λ (j : ℕ). take j (take a s ++ m ++ drop (a + n) s)) (sym k) ∙ take-append-add (take a s ++ m) (drop (a + n) s) (28 - (a + n)))
        ∙ whole m e
        ∙ sym (put_parts (8 * (28 - (a + n))) (8 * n) (value_of (take a s)) (value_of (take n (drop a s))) (value_of rest) part_lt rest_lt (value_of m))
        ∙ ap (with_bits (bytes_from a n) (value_of m)) (sym (ap value_of in_parts ∙ whole (take n (drop a s)) part_long))

  -- as a write to a part of an array leaves them
  pub part_put : (a n k : ℕ) → a + n ≤ 28 → (m : List ℕ) → length m ≡ n → k ≡ n
      → fields_of (take a s ++ (m ++ drop k (drop a s))) ≡ with_bits (bytes_from a n) (value_of m) (fields_of s)
  part_put a n k within m e q =
      ap (λ (j : ℕ). fields_of (take a s ++ (m ++ drop j (drop a s)))) q
      ∙ ap (λ (l : List ℕ). fields_of (take a s ++ (m ++ l))) (drop-drop n a s)
      ∙ ap fields_of (sym (append_assoc (take a s) m (drop (a + n) s))) ∙ bytes_put a n within m e

  -- ---- the type bytes

  pub type_value : value_of (get_or s 12 0 ∷ get_or s 13 0 ∷ []) ≡ field type_bytes s
  type_value =
      let e : drop 12 s ≡ get_or s 12 0 ∷ get_or s 13 0 ∷ drop 14 s =
      drop-cons s 12 0 (omega (arith, thirty.long)) ∙ ap (λ (l : List ℕ). get_or s 12 0 ∷ l) (drop-cons s 13 0 (omega (arith, thirty.long))) in
      sym (field_bytes 12 2 (omega arith) ∙ ap (λ (l : List ℕ). value_of (take 2 l)) e)

-- ---- from the number to the bytes

module _ (n : ℕ) (small : n < 2 ^ 224) where
  front_bytes : Bytes (in_bytes 28 n)
  front_bytes = bytes_in_bytes 28 n small

  pub renewed_thirty : Thirty (renewed n)
  unfolding renewed
  renewed_thirty =
      let c = crc (in_bytes 28 n) in
      record {
        long = length-append (in_bytes 28 n) (in_bytes 2 c) ∙ ap₂ (λ (x y : ℕ). x + y) (length_in_bytes 28 n) (length_in_bytes 2 c);
        bytes = bytes_append (in_bytes 28 n) (in_bytes 2 c) front_bytes (bytes_in_bytes 2 c (crc-lt (in_bytes 28 n) front_bytes));
      }

  pub renewed_valid : crc (renewed n) ≡ 0
  unfolding renewed
  renewed_valid = ap (λ (l : List ℕ). crc (in_bytes 28 n ++ l)) (two_bytes (crc (in_bytes 28 n))) ∙ crc_own (in_bytes 28 n) front_bytes

  pub renewed_fields : fields_of (renewed n) ≡ n
  unfolding renewed fields_of
  renewed_fields = ap value_of (take_at (in_bytes 28 n) (in_bytes 2 (crc (in_bytes 28 n))) 28 (length_in_bytes 28 n)) ∙ value_of_bytes 28 n small

-- The fields by name: no two of them share a bit, and what each setter sets reads back by its reader. Assumes nothing.
use mathlib.Core.Path.{◌≡◌, refl, sym, ap, ◌∙◌}
use mathlib.Core.Bool.{Bool, true, false, cond}
use mathlib.Core.Logic.{inl, inr}
use mathlib.Core.List.{List, [], ◌∷◌}
use Prim.Native.Nat.{ℕ, ◌+◌, ◌^◌, ◌<◌, ◌≤◌}
use native.Mathlib.Omega.{arith}
use lib.Dec.{T, eqb, leb, lit<}
use lib.ListN.{length, get_or, take, drop, length-drop}
use lib.Seq.{length-take-le}
use borrow.Author.Tests.{eqb-true, leb-true}
use Rattle.std.specs.Prelude.{Result}
use Rattle.std.proofs.Common.{Ok, Err}
use Rattle.laws.specs.Value.{value_of, in_bytes}
use Rattle.laws.proofs.Every.{every, every_at}
use Rattle.laws.proofs.Number.{bytes_of_value}
use Rattle.laws.proofs.Bytes.{bytes_take, bytes_drop}
use Rattle.refusal.specs.declared.Refusal.{Refusal}
use Rattle.address.specs.declared.Address.{Address}
use Rattle.address.specs.declared.Reading.{Reading}
use Rattle.address.specs.Address.{address_value, address_of, encoded_of, decoded_of}
use Rattle.address.proofs.EachKind.{read_six}
use Rattle.address.proofs.RoundTrip.{read_back, accepted_bytes, written_then_read}
use Rattle.protocol.specs.declared.Mode.{Mode}
use Rattle.protocol.specs.declared.Mode.TheVariants.{Packet, Stream}
use Rattle.protocol.specs.declared.DataType.{DataType}
use Rattle.protocol.specs.declared.DataType.TheVariants.{Reserved, Data, Voice, VoiceAndData}
use Rattle.protocol.specs.declared.EncryptionType.{EncryptionType}
use Rattle.protocol.specs.declared.EncryptionType.TheVariants.{None, Scrambler, Aes, Other}
use Rattle.protocol.specs.Numbers.{mode_number, mode_of, data_number, data_of, encryption_number, encryption_of}
use Rattle.protocol.specs.Fields.{Place, bytes_from, destination_bytes, source_bytes, mode_bits, data_bits, encryption_bits, channel_bits, meta_bytes, field, set_field}
use Rattle.protocol.proofs.Bits.{Apart}
use Rattle.protocol.proofs.Whole.{Thirty, field_bytes}
use Rattle.protocol.proofs.Written.{accepted_small}
use Rattle.protocol.proofs.Setters.{Inside, Sets, sets, set_swap}

-- ---- the seven fields

pub fields : List Place
fields = destination_bytes ∷ source_bytes ∷ mode_bits ∷ data_bits ∷ encryption_bits ∷ channel_bits ∷ meta_bytes ∷ []

pub named : ℕ → Place
named k = get_or fields k meta_bytes

apart_test : ℕ → ℕ → Bool
apart_test i j = cond (eqb i j) true (cond (leb ((named i).low + (named i).width) (named j).low) true (leb ((named j).low + (named j).width) (named i).low))

inside_test : ℕ → Bool
inside_test i = leb ((named i).low + (named i).width) 224

told : (b : Bool) → T b → b ≡ true
told true t = refl
told false t = absurd t

pub named_inside : (i : ℕ) → i < 7 → Inside (named i)
unfolding inside_test fields named
named_inside i h = leb-true _ 224 (told (inside_test i) (every_at inside_test 7 i h tt))

pub named_apart : (i j : ℕ) → i < 7 → j < 7 → (i ≡ j → ⊥) → Apart (named i) (named j)
unfolding apart_test fields named
named_apart i j hi hj n =
    go (eqb i j) (leb ((named i).low + (named i).width) (named j).low) refl refl
    (every_at (apart_test i) 7 j hj (every_at (λ k. every (apart_test k) 7) 7 i hi tt))
  where
    go : (a b : Bool) → eqb i j ≡ a → leb ((named i).low + (named i).width) (named j).low ≡ b
        → T (cond a true (cond b true (leb ((named j).low + (named j).width) (named i).low))) → Apart (named i) (named j)
    go true b e f t = absurd (n (eqb-true i j e))
    go false true e f t = inl (leb-true _ _ f)
    go false false e f t = inr (leb-true _ _ (told _ t))

-- two different fields, set in either order
pub fields_swap : (i j : ℕ) → i < 7 → j < 7 → (i ≡ j → ⊥) → (v u : ℕ) → v < 2 ^ (named i).width → u < 2 ^ (named j).width → (s : List ℕ) → Thirty s
    → set_field (named j) u (set_field (named i) v s) ≡ set_field (named i) v (set_field (named j) u s)
fields_swap i j hi hj n v u hv hu s thirty =
    set_swap (named i) (named j) (named_inside i hi) (named_inside j hj) (named_apart i j hi hj n) v u hv hu s thirty

-- ---- each setter's field

mode_small : (m : Mode) → mode_number m < 2
mode_small Packet = lit< tt
mode_small Stream = lit< tt

mode_named : (m : Mode) → mode_of (mode_number m) ≡ m
mode_named Packet = refl
mode_named Stream = refl

data_small : (d : DataType) → data_number d < 4
data_small Reserved = lit< tt
data_small Data = lit< tt
data_small Voice = lit< tt
data_small VoiceAndData = lit< tt

data_named : (d : DataType) → data_of (data_number d) ≡ d
data_named Reserved = refl
data_named Data = refl
data_named Voice = refl
data_named VoiceAndData = refl

encryption_small : (e : EncryptionType) → encryption_number e < 4
encryption_small None = lit< tt
encryption_small Scrambler = lit< tt
encryption_small Aes = lit< tt
encryption_small Other = lit< tt

encryption_named : (e : EncryptionType) → encryption_of (encryption_number e) ≡ e
encryption_named None = refl
encryption_named Scrambler = refl
encryption_named Aes = refl
encryption_named Other = refl

module _ (s : List ℕ) (thirty : Thirty s) where
  pub mode_sets : (m : Mode) → Sets mode_bits (mode_number m) s (set_field mode_bits (mode_number m) s)
  mode_sets m = sets mode_bits (omega arith) (mode_number m) (mode_small m) s thirty

  pub mode_back : (m : Mode) → mode_of (field mode_bits (set_field mode_bits (mode_number m) s)) ≡ m
  mode_back m = ap mode_of (mode_sets m).reads_back ∙ mode_named m

  pub data_sets : (d : DataType) → Sets data_bits (data_number d) s (set_field data_bits (data_number d) s)
  data_sets d = sets data_bits (omega arith) (data_number d) (data_small d) s thirty

  pub data_back : (d : DataType) → data_of (field data_bits (set_field data_bits (data_number d) s)) ≡ d
  data_back d = ap data_of (data_sets d).reads_back ∙ data_named d

  pub encryption_sets : (e : EncryptionType) → Sets encryption_bits (encryption_number e) s (set_field encryption_bits (encryption_number e) s)
  encryption_sets e = sets encryption_bits (omega arith) (encryption_number e) (encryption_small e) s thirty

  pub encryption_back : (e : EncryptionType) → encryption_of (field encryption_bits (set_field encryption_bits (encryption_number e) s)) ≡ e
  encryption_back e = ap encryption_of (encryption_sets e).reads_back ∙ encryption_named e

  pub channel_sets : (n : ℕ) → n ≤ 15 → Sets channel_bits n s (set_field channel_bits n s)
  channel_sets n h = sets channel_bits (omega arith) n (omega arith) s thirty

-- ---- whole bytes, as the readers of addresses and meta take them

pub bytes_read : (s : List ℕ) → Thirty s → (a n : ℕ) → a + n ≤ 28 → take n (drop a s) ≡ in_bytes n (field (bytes_from a n) s)
bytes_read s thirty a n h =
    let long : length (take n (drop a s)) ≡ n = length-take-le n (drop a s) (omega (arith, length-drop a s, thirty.long)) in
    sym
    (ap (in_bytes n) (field_bytes s thirty a n h) ∙ ap (λ (k : ℕ). in_bytes k (value_of (take n (drop a s)))) (sym long)
    ∙ bytes_of_value (take n (drop a s)) (bytes_take n (drop a s) (bytes_drop a s thirty.bytes)))

-- what was read, or `d` where nothing was
abbrev read_or : Reading → Result Reading Refusal → Reading
read_or d (Ok r) = r
read_or d (Err why) = d

-- an address that is accepted, set from byte k on
module _ (s : List ℕ) (thirty : Thirty s) (k : ℕ) (within : k + 6 ≤ 28) (a : Address) (cs b : List ℕ) (good : encoded_of a cs ≡ Ok b) where
  pub address_sets : Sets (bytes_from k 6) (address_value a cs) s (set_field (bytes_from k 6) (address_value a cs) s)
  address_sets = sets (bytes_from k 6) (omega arith) (address_value a cs) (accepted_small a cs b good) s thirty

  pub address_back : decoded_of (take 6 (drop k (set_field (bytes_from k 6) (address_value a cs) s))) ≡ Ok (read_back a cs)
  address_back =
      ap decoded_of
      (bytes_read (set_field (bytes_from k 6) (address_value a cs) s) address_sets.thirty k 6 within ∙ ap (in_bytes 6) address_sets.reads_back
      ∙ sym (accepted_bytes a cs b good))
      ∙ written_then_read a cs b good

  -- the same as `destination` and `source` read it, which a header's six bytes leave nothing to refuse
  pub address_heard : address_of (value_of (take 6 (drop k (set_field (bytes_from k 6) (address_value a cs) s)))) ≡ read_back a cs
  address_heard =
      let new : List ℕ = set_field (bytes_from k 6) (address_value a cs) s in
      let long : length (take 6 (drop k new)) ≡ 6 = length-take-le 6 (drop k new) (omega (arith, within, length-drop k new, address_sets.thirty.long)) in
      ap (read_or (read_back a cs)) (sym (read_six (take 6 (drop k new)) long) ∙ address_back)

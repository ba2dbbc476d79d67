-- A header made from nothing: each of its fields, and its CRC. Assumes nothing.
use mathlib.Core.Path.{◌≡◌, ◌∙◌}
use mathlib.Core.Logic.{inl, inr}
use mathlib.Core.List.{List}
use Prim.Native.Nat.{ℕ}
use native.Mathlib.Omega.{arith}
use lib.ListN.{replicate}
use Rattle.std.proofs.Common.{Ok}
use Rattle.laws.specs.Value.{value_of}
use Rattle.crc.specs.Crc.{crc}
use Rattle.address.specs.declared.Address.{Address}
use Rattle.address.specs.Address.{address_value, encoded_of}
use Rattle.protocol.specs.declared.Mode.{Mode}
use Rattle.protocol.specs.declared.DataType.{DataType}
use Rattle.protocol.specs.declared.EncryptionType.TheVariants.{None}
use Rattle.protocol.specs.Numbers.{mode_number, data_number}
use Rattle.protocol.specs.Fields.{bits_at, destination_bytes, source_bytes, mode_bits, data_bits, encryption_bits, channel_bits, meta_bytes, fields_of, field}
use Rattle.protocol.specs.Header.{new_bytes}
use Rattle.protocol.proofs.Whole.{Thirty, zeros}
use Rattle.protocol.proofs.Named.{mode_sets, data_sets, encryption_sets, address_sets}

-- the fields of a header s
pub record Fields (m : Mode) (d : DataType) (source destination : ℕ) (s : List ℕ) : Type 0 where
  pub thirty : Thirty s
  pub to : field destination_bytes s ≡ destination
  pub from : field source_bytes s ≡ source
  pub mode : field mode_bits s ≡ mode_number m
  pub data_type : field data_bits s ≡ data_number d
  pub encryption : field encryption_bits s ≡ 0
  pub channel : field channel_bits s ≡ 0
  pub meta : field meta_bytes s ≡ 0
  pub valid : crc s ≡ 0

pub new_fields : (m : Mode) (d : DataType) (a : Address) (s : List ℕ) (b : Address) (t x y : List ℕ) → encoded_of a s ≡ Ok x → encoded_of b t ≡ Ok y
    → Fields m d (address_value a s) (address_value b t) (new_bytes m d a s b t)
unfolding new_bytes field fields_of bits_at value_of
new_fields m d a s b t x y ga gb =
    let one = address_sets (replicate 30 0) zeros 6 (omega arith) a s x ga in
    let two = address_sets _ one.thirty 0 (omega arith) b t y gb in
    let three = mode_sets _ two.thirty m in
    let four = data_sets _ three.thirty d in
    let five = encryption_sets _ four.thirty None in
    record {
      thirty = five.thirty;
      to =
          five.others destination_bytes (inl (omega arith)) ∙ four.others destination_bytes (inl (omega arith))
          ∙ three.others destination_bytes (inl (omega arith)) ∙ two.reads_back;
      from =
          five.others source_bytes (inl (omega arith)) ∙ four.others source_bytes (inl (omega arith)) ∙ three.others source_bytes (inl (omega arith))
          ∙ two.others source_bytes (inr (omega arith)) ∙ one.reads_back;
      mode = five.others mode_bits (inr (omega arith)) ∙ four.others mode_bits (inr (omega arith)) ∙ three.reads_back;
      data_type = five.others data_bits (inr (omega arith)) ∙ four.reads_back;
      encryption = five.reads_back;
      channel =
          five.others channel_bits (inl (omega arith)) ∙ four.others channel_bits (inl (omega arith)) ∙ three.others channel_bits (inl (omega arith))
          ∙ two.others channel_bits (inr (omega arith)) ∙ one.others channel_bits (inr (omega arith));
      meta =
          five.others meta_bytes (inr (omega arith)) ∙ four.others meta_bytes (inr (omega arith)) ∙ three.others meta_bytes (inr (omega arith))
          ∙ two.others meta_bytes (inr (omega arith)) ∙ one.others meta_bytes (inr (omega arith));
      valid = five.valid;
    }

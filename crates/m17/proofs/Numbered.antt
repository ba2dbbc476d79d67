-- A type field read by its name and given by its number again is the field. Assumes nothing.
use mathlib.Core.Path.{◌≡◌}
use mathlib.Core.List.{List}
use Prim.Native.Nat.{ℕ, ◌^◌, ◌<◌}
use native.Mathlib.Nat.{mod-lt}
use lib.Dec.{T, eqb, eqb→eq}
use lib.Pow.{pow_pos}
use Rattle.laws.proofs.Every.{every, every_at}
use Rattle.protocol.specs.Fields.{Place, mode_bits, data_bits, encryption_bits, bits_at, field}
use Rattle.protocol.specs.Numbers.{mode_number, mode_of, data_number, data_of, encryption_number, encryption_of}

field_small : (p : Place) (s : List ℕ) → field p s < 2 ^ p.width
unfolding bits_at field
field_small p s = mod-lt _ (pow_pos p.width)

named : (p : Place) (f : ℕ → ℕ) → T (every (λ k. eqb (f k) k) (2 ^ p.width)) → (s : List ℕ) → f (field p s) ≡ field p s
named p f all s = eqb→eq _ _ (every_at (λ k. eqb (f k) k) (2 ^ p.width) (field p s) (field_small p s) all)

pub mode_named : (s : List ℕ) → mode_number (mode_of (field mode_bits s)) ≡ field mode_bits s
mode_named s = named mode_bits (λ k. mode_number (mode_of k)) tt s

pub data_named : (s : List ℕ) → data_number (data_of (field data_bits s)) ≡ field data_bits s
data_named s = named data_bits (λ k. data_number (data_of k)) tt s

pub encryption_named : (s : List ℕ) → encryption_number (encryption_of (field encryption_bits s)) ≡ field encryption_bits s
encryption_named s = named encryption_bits (λ k. encryption_number (encryption_of k)) tt s

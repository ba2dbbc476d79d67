-- When reading and writing refuse, said without a computation. Assumes nothing.
use Rattle.std.specs.Prelude.{◌≡◌, ◌⊎◌, List, ℕ, ◌<◌, length, get_or}
use Rattle.address.specs.declared.Address.{Address}
use Rattle.address.specs.declared.Address.TheVariants.{Invalid, Callsign, Reserved, Broadcast}
use Rattle.address.specs.Callsign.{alphabet, upper}

-- a byte, written as upper case, stands in the alphabet
abbrev pub InAlphabet : ℕ → Type 0
InAlphabet c = (d : ℕ) × (d < 40) × (get_or alphabet d 0 ≡ upper c)

-- some byte does not
abbrev pub Foreign : List ℕ → Type 0
Foreign s = (k : ℕ) × (k < length s) × (InAlphabet (get_or s k 0) → ⊥)

-- every byte is a space
abbrev pub AllSpaces : List ℕ → Type 0
AllSpaces s = (k : ℕ) → k < length s → get_or s k 0 ≡ 32

-- callsign with a byte outside the alphabet, or all spaces; reserved value outside its range
abbrev pub Unwritable : Address → List ℕ → Type 0
Unwritable Invalid s = ⊥
Unwritable Callsign s = Foreign s ⊎ AllSpaces s
Unwritable (Reserved v) s = (v < 0xEE6B28000000) ⊎ (0xFFFFFFFFFFFE < v)
Unwritable Broadcast s = ⊥

-- n is the number of reading s
pub record ReadExactly (s : List ℕ) (n : ℕ) : Type 0 where
  pub one_only : n ≡ 1 → length s ≡ 6 → ⊥
  pub one_if : (length s ≡ 6 → ⊥) → n ≡ 1
  pub read_if : length s ≡ 6 → n ≡ 0

-- n is the number of writing a, with s beside it
pub record WrittenExactly (a : Address) (s : List ℕ) (n : ℕ) : Type 0 where
  pub one_only : n ≡ 1 → length s ≡ 9 → ⊥
  pub one_if : (length s ≡ 9 → ⊥) → n ≡ 1
  pub six_only : n ≡ 6 → (length s ≡ 9) × Unwritable a s
  pub six_if : length s ≡ 9 → Unwritable a s → n ≡ 6
  pub done_if : length s ≡ 9 → (Unwritable a s → ⊥) → n ≡ 0

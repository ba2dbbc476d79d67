-- What reading bits in order answers. Assumes nothing.
use Rattle.std.specs.Prelude.{◌≡◌, Bool, false, cond, List, [], ◌∷◌, ℕ, zero, suc, ◌+◌, ◌-◌, ◌*◌, ltb, length, get_or, Option, Some, None}
use Rattle.bits.specs.declared.BitsIterator.{BitsIterator}
use Rattle.bits.specs.Bits.{bit, bits_of}

-- the last place of 64 bits: none comes after it
abbrev pub last_place : ℕ
last_place = 18446744073709551615

-- there is a bit at the place, and a place to go on from
abbrev pub readable : List ℕ → ℕ → Bool
readable s i = cond (ltb i last_place) (ltb i (8 * length s)) false

-- a bit as it is answered
abbrev pub as_read : Bool → Option ℕ
as_read b = Some (bit b)

-- the bit at the place, or the end
abbrev pub next_of : List ℕ → ℕ → Option ℕ
next_of s i = cond (readable s i) (as_read (get_or (bits_of s) i false)) None

-- past a bit the place is the next one; at the end it stays
abbrev pub moved_on : Option ℕ → ℕ → ℕ
moved_on (Some b) i = i + 1
moved_on None i = i

abbrev pub place_after : List ℕ → ℕ → ℕ
place_after s i = moved_on (next_of s i) i

-- the answers of n readings one after another, from a place
unfoldable pub readings : ℕ → List ℕ → ℕ → List (Option ℕ)
readings zero s i = []
readings (suc n) s i = next_of s i ∷ readings n s (place_after s i)

-- a reader before a reading, the answer, and the reader after it: the same bits, and the place moved on
abbrev pub Reads : BitsIterator → Option ℕ → BitsIterator → Type 0
Reads r a t = (a ≡ next_of r.bits.now r.idx) × (t.bits ≡ r.bits) × (t.idx ≡ place_after r.bits.now r.idx)

-- how many bits a reader has left at most
abbrev pub bits_left : BitsIterator → ℕ
bits_left r = 8 * length r.bits.now - r.idx

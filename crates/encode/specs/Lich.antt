-- Writing a LICH: five bytes, then three counter bits, five zeros, as four Golay words. Assumes nothing.
use Rattle.std.specs.Prelude.{cond, List, [], ◌∷◌, ◌++◌, ℕ, ◌*◌, ◌/◌, ◌%◌, ◌^◌, eqb, leb, length, Result, Ok, Err}
use Rattle.laws.specs.Value.{value_of, in_bytes}
use Rattle.refusal.specs.declared.Refusal.{Refusal}
use Rattle.refusal.specs.declared.Refusal.TheVariants.{WrongLength, OutOfRange}
use Rattle.golay.specs.Golay.{golay}

-- the 48 bits as one number: the five bytes of the part, then the counter in the top three bits of the sixth
abbrev pub lich_value : ℕ → List ℕ → ℕ
lich_value counter part = value_of (part ++ (counter * 32 ∷ []))

-- the three bytes of the codeword of 12 bits
abbrev pub golay_bytes : ℕ → List ℕ
golay_bytes d = in_bytes 3 (golay d)

-- four 12-bit values, each a Golay word
unfoldable pub lich_words : ℕ → List ℕ
lich_words v =
    golay_bytes (v / 2 ^ 36 % 4096) ++ golay_bytes (v / 2 ^ 24 % 4096) ++ golay_bytes (v / 2 ^ 12 % 4096) ++ golay_bytes (v % 4096)

-- the twelve bytes of a LICH
abbrev pub lich_bytes : ℕ → List ℕ → List ℕ
lich_bytes counter part = lich_words (lich_value counter part)

-- 1 for a part of other than five bytes; 2 for an index over 5
unfoldable pub lich_of : ℕ → List ℕ → Result (List ℕ) Refusal
lich_of counter part = cond (eqb (length part) 5) (cond (leb counter 5) (Ok (lich_bytes counter part)) (Err OutOfRange)) (Err WrongLength)

-- Reading a LICH: four Golay words, five bytes and a counter. Assumes nothing.
use Rattle.std.specs.Prelude.{cond, List, ℕ, ◌+◌, ◌*◌, ◌/◌, ◌%◌, ◌^◌, eqb, length, take, drop, Result, Ok, Err}
use Rattle.laws.specs.Value.{value_of, in_bytes}
use Rattle.refusal.specs.declared.Refusal.{Refusal}
use Rattle.refusal.specs.declared.Refusal.TheVariants.{WrongLength, BadGolay}
use Rattle.golay.specs.Golay.{decoded_of}
use Rattle.decode.specs.declared.LichPart.{LichPart}

-- 48 bits: five bytes, then three counter bits; the five last bits are ignored, and every counter is answered as read
abbrev pub lich_from : ℕ → LichPart
lich_from v = record { counter = v % 256 / 32; part = take 5 (in_bytes 6 v) }

-- four 12-bit values; the first refused word ends the reading
abbrev pub four_words : Result ℕ Refusal → Result ℕ Refusal → Result ℕ Refusal → Result ℕ Refusal → Result LichPart Refusal
four_words (Err why) b c d = Err BadGolay
four_words (Ok x) (Err why) c d = Err BadGolay
four_words (Ok x) (Ok y) (Err why) d = Err BadGolay
four_words (Ok x) (Ok y) (Ok z) (Err why) = Err BadGolay
four_words (Ok x) (Ok y) (Ok z) (Ok w) = Ok (lich_from (x * 2 ^ 36 + y * 2 ^ 24 + z * 2 ^ 12 + w))

-- word j, of three bytes
abbrev pub word_at : List ℕ → ℕ → ℕ
word_at s j = value_of (take 3 (drop (3 * j) s))

-- 1 for other than twelve bytes; 4 where a Golay word is refused
unfoldable pub lich_read_of : List ℕ → Result LichPart Refusal
lich_read_of s =
    cond (eqb (length s) 12)
    (four_words (decoded_of (word_at s 0)) (decoded_of (word_at s 1)) (decoded_of (word_at s 2)) (decoded_of (word_at s 3)))
    (Err WrongLength)

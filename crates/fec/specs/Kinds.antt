-- The three kinds of body, and what writing and reading one answer. Assumes nothing.
use Rattle.std.specs.Prelude.{Bool, cond, List, ℕ, eqb, length, take, Option, Some, None, Result, Ok, Err}
use Rattle.refusal.specs.declared.Refusal.{Refusal}
use Rattle.refusal.specs.declared.Refusal.TheVariants.{WrongLength, TooFar}
use Rattle.bits.specs.Bits.{bits_of, bytes_of}
use Rattle.fec.specs.declared.Sends.{Sends}
use Rattle.fec.specs.declared.Puncture.{Puncture}
use Rattle.fec.specs.declared.Puncture.TheVariants.{One, Two, Three}
use Rattle.fec.specs.declared.Kind.{Kind}
use Rattle.fec.specs.declared.Kind.TheVariants.{Header, Stream, Packet}
use Rattle.fec.specs.declared.Plan.{Plan}
use Rattle.fec.specs.Code.{sends, code, flushed}
use Rattle.fec.specs.Nearest.{read_of}

-- of each kind the data bytes, how many of their bits are coded, the puncturing, the bytes that the coded bits fill, and the limit
abbrev pub plan_of : Kind → Plan
plan_of Header = record { bytes = 30; bits = 240; puncture = One; coded = 46; limit = 6 }
plan_of Stream = record { bytes = 18; bits = 144; puncture = Two; coded = 34; limit = 6 }
plan_of Packet = record { bytes = 26; bits = 206; puncture = Three; coded = 46; limit = 6 }

abbrev pub data_bytes : Kind → ℕ
data_bytes k = (plan_of k).bytes

abbrev pub bits_in : Kind → ℕ
bits_in k = (plan_of k).bits

abbrev pub puncture_of : Kind → Puncture
puncture_of k = (plan_of k).puncture

abbrev pub coded_bytes : Kind → ℕ
coded_bytes k = (plan_of k).coded

abbrev pub limit_of : Kind → ℕ
limit_of k = (plan_of k).limit

-- what each step of a kind sends
abbrev pub sends_in : Kind → ℕ → Sends
sends_in k = sends (puncture_of k)

-- ---- writing

-- the coded bits of the data's first n bits, packed, unused bits zero
unfoldable pub coded_of : Kind → List ℕ → List ℕ
coded_of k d = bytes_of 46 (code (sends_in k) (flushed (take (bits_in k) (bits_of d))))

-- 1 for a wrong length
unfoldable pub encoded_of : Kind → List ℕ → Result (List ℕ) Refusal
encoded_of k d = cond (eqb (length d) (data_bytes k)) (Ok (coded_of k d)) (Err WrongLength)

-- ---- reading

-- the bits that reading found, packed, zeros past them; 3 where it found none
abbrev pub found : Option (List Bool) → Result (List ℕ) Refusal
found (Some d) = Ok (bytes_of 30 d)
found None = Err TooFar

-- the first n bits of the word nearest to the bits received, or 3; 1 for a wrong length
unfoldable pub decoded_of : Kind → List ℕ → Result (List ℕ) Refusal
decoded_of k rx =
    cond (eqb (length rx) (coded_bytes k)) (found (read_of (sends_in k) (bits_in k) (limit_of k) (bits_of rx))) (Err WrongLength)

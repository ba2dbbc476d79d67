-- From fields to a body of 46 bytes. Assumes nothing.
use Rattle.std.specs.Prelude.{Bool, true, false, cond, ◌&&◌, List, [], ◌∷◌, ◌++◌, ℕ, ◌+◌, ◌-◌, ◌*◌, eqb, leb, length, take, replicate, Result, Ok, Err}
use Rattle.laws.specs.Value.{in_bytes}
use Rattle.refusal.specs.declared.Refusal.{Refusal}
use Rattle.refusal.specs.declared.Refusal.TheVariants.{WrongLength, OutOfRange}
use Rattle.bits.specs.Bits.{bits_of, bytes_of}
use Rattle.random.specs.Random.{xored}
use Rattle.interleave.specs.Interleave.{interleaved}
use Rattle.fec.specs.declared.Kind.TheVariants.{Header, Stream, Packet}
use Rattle.fec.specs.Kinds.{coded_of}
use Rattle.protocol.specs.declared.PacketFrameCounter.{PacketFrameCounter}
use Rattle.protocol.specs.declared.PacketFrameCounter.TheVariants.{Frame, FinalFrame}
use Rattle.encode.specs.Lich.{lich_bytes}

-- 46 coded bytes masked: their bits interleaved, then the bytes xored
unfoldable pub masked : List ℕ → List ℕ
masked c = xored (bytes_of 46 (interleaved (bits_of c)))

-- ---- header: 30 bytes, 240 bits

-- 1 for other than 30 bytes
unfoldable pub lsf_body_of : List ℕ → Result (List ℕ) Refusal
lsf_body_of h = cond (eqb (length h) 30) (Ok (masked (coded_of Header h))) (Err WrongLength)

-- ---- stream: frame number 0 to 32,767 with top bit 0x8000 for the end, then 16 bytes; 272 coded bits after 96 LICH bits

abbrev pub end_mark : Bool → ℕ
end_mark true = 0x8000
end_mark false = 0

-- the 18 bytes that are coded
abbrev pub stream_fields : ℕ → Bool → List ℕ → List ℕ
stream_fields n end s = in_bytes 2 (n + end_mark end) ++ s

-- 1 for a part of other than five bytes or data of other than 16; 2 for an index over 5 or a frame number over 32,767
unfoldable pub stream_body_of : ℕ → List ℕ → ℕ → Bool → List ℕ → Result (List ℕ) Refusal
stream_body_of index part n end s =
    cond (eqb (length part) 5 && eqb (length s) 16)
    (cond (leb index 5 && leb n 32767)
    (Ok (masked (lich_bytes index part ++ take 34 (coded_of Stream (stream_fields n end s))))) (Err OutOfRange))
    (Err WrongLength)

-- ---- packet: 25 bytes, then one bit "final" and five bits of number

-- a frame's index is up to 31, a final frame's length up to 25
abbrev pub countable : PacketFrameCounter → Bool
countable (Frame i) = leb i 31
countable (FinalFrame n) = leb n 25

-- a final frame writes its first `payload_len` bytes and zeros after
abbrev pub packet_fields : PacketFrameCounter → List ℕ → List ℕ
packet_fields (Frame i) s = s ++ (i * 4 ∷ [])
packet_fields (FinalFrame n) s = take n s ++ replicate (25 - n) 0 ++ ((128 + n * 4) ∷ [])

-- 1 for a payload of other than 25 bytes; 2 for a number out of range
unfoldable pub packet_body_of : PacketFrameCounter → List ℕ → Result (List ℕ) Refusal
packet_body_of counter s =
    cond (eqb (length s) 25) (cond (countable counter) (Ok (masked (coded_of Packet (packet_fields counter s)))) (Err OutOfRange))
    (Err WrongLength)

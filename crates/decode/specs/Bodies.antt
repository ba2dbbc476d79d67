-- From a body of 46 bytes to fields. Assumes nothing.
use Rattle.std.specs.Prelude.{cond, List, ◌++◌, ℕ, ◌-◌, ◌/◌, ◌%◌, eqb, leb, length, get_or, take, drop, replicate, Result, Ok, Err}
use Rattle.laws.specs.Value.{value_of}
use Rattle.refusal.specs.Number.{made_of}
use Rattle.refusal.specs.declared.Refusal.{Refusal}
use Rattle.refusal.specs.declared.Refusal.TheVariants.{WrongLength}
use Rattle.bits.specs.Bits.{bits_of, bytes_of}
use Rattle.random.specs.Random.{xored}
use Rattle.interleave.specs.Interleave.{interleaved}
use Rattle.fec.specs.declared.Kind.TheVariants.{Header, Stream, Packet}
use Rattle.fec.specs.Kinds.{decoded_of}
use Rattle.protocol.specs.declared.PacketFrameCounter.{PacketFrameCounter}
use Rattle.protocol.specs.declared.PacketFrameCounter.TheVariants.{Frame, FinalFrame}
use Rattle.protocol.specs.declared.LsfFrame.{LsfFrame}
use Rattle.protocol.specs.declared.StreamFrame.{StreamFrame}
use Rattle.protocol.specs.declared.PacketFrame.{PacketFrame}
use Rattle.protocol.specs.Header.{header}
use Rattle.decode.specs.declared.LichPart.{LichPart}
use Rattle.decode.specs.Lich.{lich_read_of}

-- reading undoes both in reverse order: the body is xored, then its bits are interleaved again, which undoes it
unfoldable pub unmasked : List ℕ → List ℕ
unmasked b = bytes_of 46 (interleaved (bits_of (xored b)))

-- 1 for other than 46 bytes
abbrev pub unmasked_of : List ℕ → Result (List ℕ) Refusal
unmasked_of b = cond (eqb (length b) 46) (Ok (unmasked b)) (Err WrongLength)

-- ---- header

-- the 30 bytes that were read, whatever their CRC; 3 where the nearest word is too far off; 1 for other than 46 bytes
unfoldable pub lsf_read_of : List ℕ → Result LsfFrame Refusal
lsf_read_of body = cond (eqb (length body) 46) (made_of header (decoded_of Header (unmasked body))) (Err WrongLength)

-- ---- stream

-- frame number with top bit 0x8000 for the end, then 16 bytes
abbrev pub stream_from : LichPart → List ℕ → StreamFrame
stream_from l b =
    record {
      lich_idx = l.counter;
      lich_part = l.part;
      frame_number = value_of (take 2 b) % 0x8000;
      end_of_stream = leb 0x8000 (value_of (take 2 b));
      stream_data = take 16 (drop 2 b);
    }

-- 3 before 4
abbrev pub stream_by : Result (List ℕ) Refusal → Result LichPart Refusal → Result StreamFrame Refusal
stream_by (Err why) l = Err why
stream_by (Ok b) (Err why) = Err why
stream_by (Ok b) (Ok l) = Ok (stream_from l b)

-- 96 LICH bits, then 272 coded bits; 1 for other than 46 bytes
unfoldable pub stream_read_of : List ℕ → Result StreamFrame Refusal
stream_read_of body =
    cond (eqb (length body) 46)
    (stream_by (decoded_of Stream (drop 12 (unmasked body))) (lich_read_of (take 12 (unmasked body))))
    (Err WrongLength)

-- ---- packet

-- one bit "final" and five bits of number, lengths 26 to 31 answered as read
abbrev pub counter_from : ℕ → PacketFrameCounter
counter_from x = cond (leb 128 x) (FinalFrame (x / 4 % 32)) (Frame (x / 4 % 32))

abbrev pub packet_from : List ℕ → PacketFrame
packet_from b = record { payload = take 25 b; counter = counter_from (get_or b 25 0) }

-- what the payload of a frame that was written reads back as: zeros past a final length
abbrev pub payload_back : PacketFrameCounter → List ℕ → List ℕ
payload_back (Frame index) s = s
payload_back (FinalFrame size) s = take size s ++ replicate (25 - size) 0

-- 1 for other than 46 bytes
unfoldable pub packet_read_of : List ℕ → Result PacketFrame Refusal
packet_read_of body = cond (eqb (length body) 46) (made_of packet_from (decoded_of Packet (unmasked body))) (Err WrongLength)

-- Frames as numbers and buffers, and what the memory lent for one holds after it is read. Assumes nothing.
use Rattle.std.specs.Prelude.{cond, List, ℕ, Result, Float}
use Rattle.refusal.specs.declared.Refusal.{Refusal}
use Rattle.refusal.specs.Number.{made_of}
use Rattle.bits.specs.Bits.{bit}
use Rattle.bits.specs.Places.{flag}
use Rattle.protocol.specs.declared.LsfFrame.{LsfFrame}
use Rattle.protocol.specs.declared.PacketFrame.{PacketFrame}
use Rattle.protocol.specs.declared.PacketFrameCounter.{PacketFrameCounter}
use Rattle.protocol.specs.declared.PacketFrameCounter.TheVariants.{Frame, FinalFrame}
use Rattle.protocol.specs.declared.StreamFrame.{StreamFrame}
use Rattle.encode.specs.Symbols.{body_symbols_of}
use Rattle.decode.specs.declared.LichPart.{LichPart}
use Rattle.m17.specs.Given.{of_length, and_then, Lent}
use Rattle.m17.specs.Fec.{kind_for}

-- ---- what crosses as a number: 0 is no, anything else yes (`flag`)

-- 0 is a frame with its index, anything else the final frame with its length
abbrev pub counter_for : ℕ → ℕ → PacketFrameCounter
counter_for final n = cond (flag final) (FinalFrame n) (Frame n)

abbrev pub final_of : PacketFrameCounter → ℕ
final_of (Frame n) = 0
final_of (FinalFrame n) = 1

abbrev pub number_in : PacketFrameCounter → ℕ
number_in (Frame n) = n
number_in (FinalFrame n) = n

-- whole frames

abbrev pub lsf_frame : List ℕ → LsfFrame
lsf_frame h = record { bytes = h }

abbrev pub stream_frame : ℕ → List ℕ → ℕ → ℕ → List ℕ → StreamFrame
stream_frame i p n end s = record { lich_idx = i; lich_part = p; frame_number = n; end_of_stream = flag end; stream_data = s }

abbrev pub packet_frame : ℕ → ℕ → List ℕ → PacketFrame
packet_frame final n p = record { payload = p; counter = counter_for final n }

-- the symbols of a body of kind k: 1 for other than 46 bytes, then 2 for a kind over 2
unfoldable pub framed_of : ℕ → List ℕ → Result (List Float) Refusal
framed_of k body = of_length 46 body (and_then (kind_for k) (λ kind. body_symbols_of kind body))

-- ---- memory lent for a frame: 1 where a buffer of it has another length, before anything else; on a refusal it holds what it held.
-- r is what the call says, and n the memory after it

-- a LICH: its counter, and five bytes
abbrev pub lich_memory : ℕ → List ℕ → LichPart
lich_memory c p = record { counter = c; part = p }

abbrev pub LichLent : Result LichPart Refusal → LichPart → ℕ → LichPart → Type 0
LichLent read m r n = Lent (of_length 5 m.part read) m r n

-- a stream frame: its index, five bytes, its number, 1 or 0 for the end, and 16 bytes
pub record StreamMemory : Type 0 where
  pub index : ℕ
  pub part : List ℕ
  pub number : ℕ
  pub end : ℕ
  pub bytes : List ℕ

abbrev pub stream_memory : ℕ → List ℕ → ℕ → ℕ → List ℕ → StreamMemory
stream_memory i p n e s = record { index = i; part = p; number = n; end = e; bytes = s }

abbrev pub stream_in_memory : StreamFrame → StreamMemory
stream_in_memory f = stream_memory f.lich_idx f.lich_part f.frame_number (bit f.end_of_stream) f.stream_data

abbrev pub StreamLent : Result StreamFrame Refusal → StreamMemory → ℕ → StreamMemory → Type 0
StreamLent read m r n = Lent (of_length 5 m.part (of_length 16 m.bytes (made_of stream_in_memory read))) m r n

-- a packet frame: 1 for the final one or 0, its length or index, and 25 bytes
pub record PacketMemory : Type 0 where
  pub final : ℕ
  pub number : ℕ
  pub payload : List ℕ

abbrev pub packet_memory : ℕ → ℕ → List ℕ → PacketMemory
packet_memory f n p = record { final = f; number = n; payload = p }

abbrev pub packet_in_memory : PacketFrame → PacketMemory
packet_in_memory f = packet_memory (final_of f.counter) (number_in f.counter) f.payload

abbrev pub PacketLent : Result PacketFrame Refusal → PacketMemory → ℕ → PacketMemory → Type 0
PacketLent read m r n = Lent (of_length 25 m.payload (made_of packet_in_memory read)) m r n

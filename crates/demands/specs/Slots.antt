-- Slots of 48 bytes: those that read as a header with a good CRC, and clean ones, exactly as our writers give them. Assumes nothing.
use Rattle.std.specs.Prelude.{◌≡◌, List, [], ◌∷◌, ◌++◌, ℕ, zero, suc, ◌-◌, ◌*◌, ◌/◌, ◌%◌, ◌≤◌, length, take, drop, replicate, Result, Ok}
use Rattle.std.specs.Result.{result_unwrap_or}
use Rattle.laws.specs.Value.{value_of, Bytes}
use Rattle.refusal.specs.declared.Refusal.{Refusal}
use Rattle.crc.specs.Crc.{crc}
use Rattle.fec.specs.declared.Kind.{Kind}
use Rattle.fec.specs.declared.Kind.TheVariants as kind
use Rattle.protocol.specs.declared.StreamFrame.{StreamFrame}
use Rattle.protocol.specs.declared.PacketFrame.{PacketFrame}
use Rattle.protocol.specs.declared.PacketFrameCounter.TheVariants.{Frame, FinalFrame}
use Rattle.protocol.specs.Header.{header}
use Rattle.encode.specs.Bodies.{lsf_body_of}
use Rattle.encode.specs.Symbols.{sync_of}
use Rattle.decode.specs.Bodies.{lsf_read_of}
use Rattle.automaton.specs.Seen.{Fields}
use Rattle.automaton.specs.Step.{State}
use Rattle.automaton.specs.Runs.{part}
use Rattle.receiver.specs.Receiver.{receiver_for}
use Rattle.receiver.specs.Runs.{Held}
use Rattle.demands.specs.Frames.{stream_body, packet_body}

-- a header slot that reads with a good CRC
pub record HeaderSlot (x h : List ℕ) : Type 0 where
  pub long : length x ≡ 48
  pub sync : value_of (take 2 x) ≡ 0x55F7
  pub reads : lsf_read_of (drop 2 x) ≡ Ok (header h)
  pub good : crc h ≡ 0

-- what a receiver holds that has come to a state of the automaton
abbrev pub holding : State → List ℕ → Held
holding st m = record { receiver = receiver_for st; memory = m }

-- ---- clean slots

-- a sync word and the body that is written: a frame in range has one, so that its slot has 48 bytes
abbrev pub slot_of : Kind → Result (List ℕ) Refusal → List ℕ
slot_of k body = sync_of k ++ result_unwrap_or body []

abbrev pub header_slot : List ℕ → List ℕ
header_slot h = slot_of kind.Header (lsf_body_of h)

abbrev pub stream_slot : StreamFrame → List ℕ
stream_slot f = slot_of kind.Stream (stream_body f)

abbrev pub packet_slot : PacketFrame → List ℕ
packet_slot f = slot_of kind.Packet (packet_body f)

-- ---- a sender's stream

-- a sender's i-th frame: it counts 0 to 5 round and round with the parts of one header h
abbrev pub sent_frame : List ℕ → (ℕ → Fields) → ℕ → StreamFrame
sent_frame h f i =
    record {
      lich_idx = i % 6;
      lich_part = part h (i % 6);
      frame_number = (f i).number;
      end_of_stream = (f i).closing;
      stream_data = (f i).content;
    }

-- n of its clean slots in a row, from the i-th on
abbrev pub sent_slots : List ℕ → (ℕ → Fields) → ℕ → ℕ → List (List ℕ)
sent_slots h f i zero = []
sent_slots h f i (suc n) = stream_slot (sent_frame h f i) ∷ sent_slots h f (suc i) n

-- fields in range
pub record InRange (f : Fields) : Type 0 where
  pub number : f.number ≤ 32767
  pub long : length f.content ≡ 16
  pub bytes : Bytes f.content

-- ---- a packet of bytes p in frames

-- so many frames are not final
abbrev pub fulls : List ℕ → ℕ
fulls p = (length p - 1) / 25

-- frame i of those
abbrev pub frame_at : List ℕ → ℕ → PacketFrame
frame_at p i = record { payload = take 25 (drop (25 * i) p); counter = Frame i }

-- and the final one, with what is left
abbrev pub rest : List ℕ → List ℕ
rest p = drop (25 * fulls p) p

abbrev pub last_frame : List ℕ → PacketFrame
last_frame p = record { payload = rest p ++ replicate (25 - length (rest p)) 0; counter = FinalFrame (length (rest p)) }

-- n clean packet slots from frame i on
abbrev pub frame_slots : List ℕ → ℕ → ℕ → List (List ℕ)
frame_slots p i zero = []
frame_slots p i (suc n) = packet_slot (frame_at p i) ∷ frame_slots p (suc i) n

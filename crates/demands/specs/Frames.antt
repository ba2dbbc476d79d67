-- Frames in range, and what of them is written and reads back. Assumes nothing.
use Rattle.std.specs.Prelude.{◌≡◌, true, List, ℕ, ◌≤◌, ◌<◌, length, Result, Ok}
use Rattle.laws.specs.Value.{Bytes}
use Rattle.refusal.specs.declared.Refusal.{Refusal}
use Rattle.protocol.specs.declared.LsfFrame.{LsfFrame}
use Rattle.protocol.specs.declared.StreamFrame.{StreamFrame}
use Rattle.protocol.specs.declared.PacketFrame.{PacketFrame}
use Rattle.encode.specs.Bodies.{stream_body_of, packet_body_of, countable}
use Rattle.decode.specs.Bodies.{payload_back}

-- a header of 30 bytes
pub record Header (f : LsfFrame) : Type 0 where
  pub long : length f.bytes ≡ 30
  pub bytes : Bytes f.bytes

-- a stream frame whose fields are in range
pub record Stream (f : StreamFrame) : Type 0 where
  pub index : f.lich_idx < 6
  pub part_long : length f.lich_part ≡ 5
  pub part : Bytes f.lich_part
  pub number : f.frame_number ≤ 32767
  pub long : length f.stream_data ≡ 16
  pub bytes : Bytes f.stream_data

-- a packet frame whose number is in range
pub record Packet (f : PacketFrame) : Type 0 where
  pub number : countable f.counter ≡ true
  pub long : length f.payload ≡ 25
  pub bytes : Bytes f.payload

-- the body of a frame
abbrev pub stream_body : StreamFrame → Result (List ℕ) Refusal
stream_body f = stream_body_of f.lich_idx f.lich_part f.frame_number f.end_of_stream f.stream_data

abbrev pub packet_body : PacketFrame → Result (List ℕ) Refusal
packet_body f = packet_body_of f.counter f.payload

-- it is written, and what is written reads back as y
abbrev pub Back : {A B : Type 0} → Result A Refusal → (A → Result B Refusal) → B → Type 0
Back {A} {B} written read y = (x : A) × (written ≡ Ok x) × (read x ≡ Ok y)

-- the frame with zeros past a final length
abbrev pub trimmed : PacketFrame → PacketFrame
trimmed f = record { payload = payload_back f.counter f.payload; counter = f.counter }

-- What a slot of 48 bytes says by itself: sync, then body, read by the rules for plain bodies. Assumes nothing.
use Rattle.std.specs.Prelude.{cond, List, ℕ, eqb, take, drop, Result, Ok, Err}
use Rattle.laws.specs.Value.{value_of}
use Rattle.refusal.specs.declared.Refusal.{Refusal}
use Rattle.refusal.specs.declared.Refusal.TheVariants.{BadHeader, UnknownSync}
use Rattle.crc.specs.Crc.{crc}
use Rattle.protocol.specs.declared.LsfFrame.{LsfFrame}
use Rattle.protocol.specs.declared.StreamFrame.{StreamFrame}
use Rattle.protocol.specs.declared.PacketFrame.{PacketFrame}
use Rattle.protocol.specs.declared.PacketFrameCounter.{PacketFrameCounter}
use Rattle.protocol.specs.declared.PacketFrameCounter.TheVariants.{Frame, FinalFrame}
use Rattle.decode.specs.Bodies.{lsf_read_of, stream_read_of, packet_read_of}
use Rattle.automaton.specs.Seen.{Seen, head, piece, final, stream, end, unread}

-- a header that reads: 5 where its CRC over 30 bytes is not zero
abbrev pub header_seen : Result LsfFrame Refusal → Seen
header_seen (Ok f) = cond (eqb (crc f.bytes) 0) (head f.bytes) (unread BadHeader)
header_seen (Err why) = unread why

abbrev pub seen_stream : StreamFrame → Seen
seen_stream f =
    stream f.lich_idx f.lich_part (record { number = f.frame_number; closing = f.end_of_stream; content = f.stream_data })

abbrev pub stream_seen : Result StreamFrame Refusal → Seen
stream_seen (Ok f) = seen_stream f
stream_seen (Err why) = unread why

abbrev pub counted : PacketFrameCounter → List ℕ → Seen
counted (Frame k) b = piece k b
counted (FinalFrame len) b = final len b

abbrev pub packet_seen : Result PacketFrame Refusal → Seen
packet_seen (Ok f) = counted f.counter f.payload
packet_seen (Err why) = unread why

-- by the sync word: 0x55F7 header, 0xFF5D stream, 0x75FF packet, 0x555D end of transmission, its body unread; 7 for any other
abbrev pub seen_by : ℕ → List ℕ → Seen
seen_by sync body =
    cond (eqb sync 0x55F7) (header_seen (lsf_read_of body))
    (cond (eqb sync 0xFF5D) (stream_seen (stream_read_of body))
    (cond (eqb sync 0x75FF) (packet_seen (packet_read_of body)) (cond (eqb sync 0x555D) end (unread UnknownSync))))

unfoldable pub see : List ℕ → Seen
see slot = seen_by (value_of (take 2 slot)) (drop 2 slot)

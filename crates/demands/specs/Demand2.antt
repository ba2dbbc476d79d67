-- Demand 2, reading and reading back: the nearest word's fields exactly when it is within the limit and, for a stream, each Golay word is
-- within three flips; every in-range frame that is written reads back as itself. Assumes nothing.
use Rattle.std.specs.Prelude.{◌≡◌, Bool, cond, List, ◌++◌, ℕ, ◌+◌, ◌*◌, ◌-◌, ◌/◌, ◌%◌, ◌≤◌, ◌<◌, leb, length, get_or, take, replicate, Ok}
use Rattle.laws.specs.Value.{Bytes}
use Rattle.golay.specs.Golay.{apart}
use Rattle.fec.specs.declared.Sends.{Sends}
use Rattle.fec.specs.declared.Kind.{Kind}
use Rattle.fec.specs.declared.Kind.TheVariants as kind
use Rattle.fec.specs.Kinds.{bits_in, coded_bytes, limit_of}
use Rattle.fec.specs.Nearest.{Nearest, nearest}
use Rattle.protocol.specs.declared.LsfFrame.{LsfFrame}
use Rattle.protocol.specs.declared.StreamFrame.{StreamFrame}
use Rattle.protocol.specs.declared.PacketFrame.{PacketFrame}
use Rattle.protocol.specs.declared.PacketFrameCounter.TheVariants.{Frame, FinalFrame}
use Rattle.encode.specs.Lich.{lich_bytes}
use Rattle.encode.specs.Bodies.{lsf_body_of, countable}
use Rattle.encode.specs.Symbols.{body_symbols_of, lsf_symbols_of, stream_symbols_of, packet_symbols_of}
use Rattle.decode.specs.Lich.{lich_from, word_at, lich_read_of}
use Rattle.decode.specs.Bodies.{lsf_read_of, stream_read_of, packet_from, packet_read_of}
use Rattle.decode.specs.Symbols.{body_read_of, lsf_parsed_of, stream_parsed_of, packet_parsed_of}
use Rattle.decode.specs.When.{LsfWhen, StreamWhen, PacketWhen}
use Rattle.demands.specs.Frames.{Header, Stream, Packet, stream_body, packet_body, Back, trimmed}

pub record Demand2 : Type 0 where
  -- there is one nearest word, for any puncturing, any count of bits and any bits received
  pub one_word : (p : ℕ → Sends) (n : ℕ) (rx : List Bool) → Nearest p n rx (nearest p n rx)
  pub no_other : (p : ℕ → Sends) (n : ℕ) (rx u v : List Bool) → Nearest p n rx u → Nearest p n rx v → u ≡ v
  -- the three kinds: bits of data, coded bytes, and the farthest word that is answered
  pub plans : (bits_in kind.Header ≡ 240) × (bits_in kind.Stream ≡ 144) × (bits_in kind.Packet ≡ 206)
      × (coded_bytes kind.Header ≡ 46) × (coded_bytes kind.Stream ≡ 34) × (coded_bytes kind.Packet ≡ 46)
      × (limit_of kind.Header ≡ 6) × (limit_of kind.Stream ≡ 6) × (limit_of kind.Packet ≡ 6)
  -- what a packet body's 26 bytes say: 25 bytes, then one bit "final" and five bits of number, any of which is answered as read
  pub packet_says : (b : List ℕ) (x : ℕ) → get_or b 25 0 ≡ x
      → packet_from b ≡ record { payload = take 25 b; counter = cond (leb 128 x) (FinalFrame (x / 4 % 32)) (Frame (x / 4 % 32)) }
  -- in range are frames 0 to 31 and final lengths 0 to 25, and past a final length zeros come back
  pub countable_frame : (i : ℕ) → countable (Frame i) ≡ leb i 31
  pub countable_final : (n : ℕ) → countable (FinalFrame n) ≡ leb n 25
  pub trimmed_frame : (s : List ℕ) (i : ℕ) → trimmed (record { payload = s; counter = Frame i }) ≡ record { payload = s; counter = Frame i }
  pub trimmed_final : (s : List ℕ) (n : ℕ)
      → trimmed (record { payload = s; counter = FinalFrame n }) ≡ record { payload = take n s ++ replicate (25 - n) 0; counter = FinalFrame n }
  -- each reading answers the fields of the nearest word's first n bits, and refuses, exactly when it should
  pub header_when : (body : List ℕ) → LsfWhen body
  pub stream_when : (body : List ℕ) → StreamWhen body
  pub packet_when : (body : List ℕ) → PacketWhen body
  -- every frame in range is written, and what is written reads back, from bytes and from symbols
  pub header_back : (f : LsfFrame) → Header f → Back (lsf_body_of f.bytes) lsf_read_of f
  pub stream_back : (f : StreamFrame) → Stream f → Back (stream_body f) stream_read_of f
  pub packet_back : (f : PacketFrame) → Packet f → Back (packet_body f) packet_read_of (trimmed f)
  pub header_symbols : (f : LsfFrame) → Header f → Back (lsf_symbols_of f) lsf_parsed_of f
  pub stream_symbols : (f : StreamFrame) → Stream f → Back (stream_symbols_of f) stream_parsed_of f
  pub packet_symbols : (f : PacketFrame) → Packet f → Back (packet_symbols_of f) packet_parsed_of (trimmed f)
  pub body_back : (k : Kind) (body : List ℕ) → length body ≡ 46 → Bytes body → Back (body_symbols_of k body) body_read_of body
  -- up to three flips in each Golay word leave the LICH reading as it was
  pub lich_flips : (counter : ℕ) (part s : List ℕ) → counter < 8 → length part ≡ 5 → Bytes part → length s ≡ 12 → Bytes s
      → ((j : ℕ) → j < 4 → apart (word_at (lich_bytes counter part) j) (word_at s j) ≤ 3) → lich_read_of s ≡ Ok (record { counter = counter; part = part })
  -- the five last bits of a LICH's 48 are ignored
  pub lich_low_bits : (u low : ℕ) → low < 32 → lich_from (u * 32 + low) ≡ lich_from (u * 32)
  -- two in-range frames with one body are one frame
  pub header_one : (f g : LsfFrame) → Header f → Header g → lsf_body_of f.bytes ≡ lsf_body_of g.bytes → f ≡ g
  pub stream_one : (f g : StreamFrame) → Stream f → Stream g → stream_body f ≡ stream_body g → f ≡ g
  pub packet_one : (f g : PacketFrame) → Packet f → Packet g → packet_body f ≡ packet_body g → trimmed f ≡ trimmed g

-- What clean slots say. Assumes nothing.
use mathlib.Core.Path.{◌≡◌, ap, ◌∙◌}
use mathlib.Core.List.{List, []}
use Prim.Native.Nat.{ℕ, suc}
use lib.ListN.{length}
use borrow.Author.Tests.{eq-eqb}
use Rattle.laws.specs.Value.{value_of}
use Rattle.std.specs.Prelude.{Result, Ok}
use Rattle.std.specs.Result.{result_unwrap_or}
use Rattle.refusal.specs.Number.{said_of}
use Rattle.refusal.specs.declared.Refusal.{Refusal}
use Rattle.crc.specs.Crc.{crc}
use Rattle.protocol.specs.declared.StreamFrame.{StreamFrame}
use Rattle.protocol.specs.declared.PacketFrame.{PacketFrame}
use Rattle.protocol.specs.Header.{header}
use Rattle.encode.specs.Bodies.{lsf_body_of}
use Rattle.decode.specs.Bodies.{lsf_read_of, stream_read_of, packet_read_of}
use Rattle.decode.proofs.When.{lsf_when, stream_when, packet_when}
use Rattle.automaton.specs.Seen.{head}
use Rattle.receiver.specs.See.{header_seen, seen_stream, stream_seen, counted, packet_seen, see}
use Rattle.demands.specs.Frames.{Header, Stream, Packet, stream_body, packet_body, Back, trimmed}
use Rattle.demands.specs.Slots.{header_slot, stream_slot, packet_slot}
use Rattle.demands.proofs.Demand2.{header_read, stream_read, packet_read}

-- the body of a slot, where what is written reads back
body_reads : {B : Type 0} (r : Result (List ℕ) Refusal) (read : List ℕ → Result B Refusal) (y : B) → Back r read y → read (result_unwrap_or r []) ≡ Ok y
body_reads r read y (b, e, back) = ap (λ (k : Result (List ℕ) Refusal). read (result_unwrap_or k [])) e ∙ back

-- a body that reads has 46 bytes, so its slot has 48
module _ (h : List ℕ) (o : Header (record { bytes = h })) (good : crc h ≡ 0) where
  header_body_reads : lsf_read_of (result_unwrap_or (lsf_body_of h) []) ≡ Ok (header h)
  header_body_reads = body_reads (lsf_body_of h) lsf_read_of (header h) (header_read (record { bytes = h }) o)

  pub header_slot_lem : length (header_slot h) ≡ 48
  header_slot_lem = ap (λ (n : ℕ). suc (suc n)) ((lsf_when (result_unwrap_or (lsf_body_of h) [])).answered h header_body_reads).0

  pub header_seen_lem : see (header_slot h) ≡ head h
  unfolding see value_of
  header_seen_lem = ap header_seen header_body_reads ∙ rw (eq-eqb (crc h) 0 good)

module _ (f : StreamFrame) (o : Stream f) where
  stream_body_reads : stream_read_of (result_unwrap_or (stream_body f) []) ≡ Ok f
  stream_body_reads = body_reads (stream_body f) stream_read_of f (stream_read f o)

  pub stream_slot_lem : length (stream_slot f) ≡ 48
  stream_slot_lem =
      let read = (stream_when (result_unwrap_or (stream_body f) [])).answered (ap said_of stream_body_reads) in
      ap (λ (n : ℕ). suc (suc n)) read.2

  pub stream_seen_lem : see (stream_slot f) ≡ seen_stream f
  unfolding see value_of
  stream_seen_lem = ap stream_seen stream_body_reads

module _ (f : PacketFrame) (o : Packet f) where
  packet_body_reads : packet_read_of (result_unwrap_or (packet_body f) []) ≡ Ok (trimmed f)
  packet_body_reads = body_reads (packet_body f) packet_read_of (trimmed f) (packet_read f o)

  pub packet_slot_lem : length (packet_slot f) ≡ 48
  packet_slot_lem =
      let read = (packet_when (result_unwrap_or (packet_body f) [])).answered (ap said_of packet_body_reads) in
      ap (λ (n : ℕ). suc (suc n)) read.1

  pub packet_seen_lem : see (packet_slot f) ≡ counted f.counter (trimmed f).payload
  unfolding see value_of
  packet_seen_lem = ap packet_seen packet_body_reads

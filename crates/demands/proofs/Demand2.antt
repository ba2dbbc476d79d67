-- Demand 2 holds. Assumes nothing.
use mathlib.Core.Path.{◌≡◌, refl, sym, ap, ap₂, ◌∙◌}
use mathlib.Core.List.{List}
use Prim.Native.Nat.{ℕ, ◌+◌, ◌*◌, ◌/◌, ◌%◌, ◌<◌}
use native.Mathlib.Omega.{arith}
use lib.ListN.{length, take}
use borrow.Author.Tests.{eq-eqb}
use Rattle.laws.specs.Value.{in_bytes}
use Rattle.std.specs.Prelude.{Result, Ok}
use Rattle.refusal.specs.declared.Refusal.{Refusal}
use Rattle.fec.specs.declared.Kind.{Kind}
use Rattle.fec.proofs.Unique.{nearest_is, only_nearest}
use Rattle.protocol.specs.declared.LsfFrame.{LsfFrame}
use Rattle.protocol.specs.declared.StreamFrame.{StreamFrame}
use Rattle.protocol.specs.declared.PacketFrame.{PacketFrame}
use Rattle.encode.specs.Bodies.{lsf_body_of}
use Rattle.encode.specs.Symbols.{frame_of, sync_of, body_symbols_of}
use Rattle.decode.specs.declared.LichPart.{LichPart}
use Rattle.decode.specs.Lich.{lich_from}
use Rattle.decode.specs.Bodies.{lsf_read_of, stream_read_of, packet_read_of}
use Rattle.decode.proofs.When as when
use Rattle.decode.proofs.When.{lsf_when}
use Rattle.decode.proofs.LichBack as lich
use Rattle.decode.proofs.Words.{first_five}
use Rattle.decode.proofs.SymbolsBack.{body_back}
use Rattle.decode.proofs.RoundTrip as back
use Rattle.decode.proofs.RoundTrip.{lsf_back, lsf_symbols_back, stream_symbols_back, packet_symbols_back}
use Rattle.demands.specs.Frames.{Header, Stream, Packet, stream_body, packet_body, Back, trimmed}
use Rattle.demands.specs.Demand2.{Demand2}

module _ (f : LsfFrame) (h : Header f) where
  pub header_read : Back (lsf_body_of f.bytes) lsf_read_of f
  header_read = lsf_back f.bytes h.long h.bytes

module _ (f : StreamFrame) (h : Stream f) where
  pub stream_read : Back (stream_body f) stream_read_of f
  stream_read =
      back.stream_back f.lich_idx f.lich_part f.frame_number f.end_of_stream f.stream_data h.index h.part_long h.part
      h.number h.long h.bytes

module _ (f : PacketFrame) (h : Packet f) where
  pub packet_read : Back (packet_body f) packet_read_of (trimmed f)
  packet_read = back.packet_back f.counter f.payload h.number h.long h.bytes

-- the five bytes and the counter stand above the five last bits
byte_0 : (u low : ℕ) → low < 32 → (u * 32 + low) / 0x10000000000 ≡ u * 32 / 0x10000000000
byte_0 u low h = omega arith

byte_1 : (u low : ℕ) → low < 32 → (u * 32 + low) % 0x10000000000 / 0x100000000 ≡ u * 32 % 0x10000000000 / 0x100000000
byte_1 u low h = omega arith

byte_2 : (u low : ℕ) → low < 32 → (u * 32 + low) % 0x100000000 / 0x1000000 ≡ u * 32 % 0x100000000 / 0x1000000
byte_2 u low h = omega arith

byte_3 : (u low : ℕ) → low < 32 → (u * 32 + low) % 0x1000000 / 0x10000 ≡ u * 32 % 0x1000000 / 0x10000
byte_3 u low h = omega arith

byte_4 : (u low : ℕ) → low < 32 → (u * 32 + low) % 0x10000 / 0x100 ≡ u * 32 % 0x10000 / 0x100
byte_4 u low h = omega arith

counter_is : (u low : ℕ) → low < 32 → (u * 32 + low) % 256 / 32 ≡ u * 32 % 256 / 32
counter_is u low h = omega arith

lich_low_bits : (u low : ℕ) → low < 32 → lich_from (u * 32 + low) ≡ lich_from (u * 32)
lich_low_bits u low h =
    let five : take 5 (in_bytes 6 (u * 32 + low)) ≡ take 5 (in_bytes 6 (u * 32)) =
    sym (first_five (u * 32 + low)) ∙ rw (byte_0 u low h, byte_1 u low h, byte_2 u low h, byte_3 u low h, byte_4 u low h) (first_five (u * 32)) in
    ap₂ {C = LichPart} (λ (n : ℕ) (p : List ℕ). record { counter = n; part = p }) (counter_is u low h) five

-- two that are written alike and read back are one
one_frame : {B : Type 0} (r s : Result (List ℕ) Refusal) (read : List ℕ → Result B Refusal) (y z : B) → Back r read y → Back s read z → r ≡ s → y ≡ z
one_frame r s read y z (a, ra, ya) (b, sb, zb) e =
    let same : a ≡ b = cc in
    let alike = sym ya ∙ ap read same ∙ zb in cc

symbols_are : (k : Kind) (body : List ℕ) → length body ≡ 46 → body_symbols_of k body ≡ Ok (frame_of (sync_of k) body)
unfolding body_symbols_of
symbols_are k body long = rw (eq-eqb (length body) 46 long)

pub demand_2 : Demand2
demand_2 =
    record {
      one_word = nearest_is;
      no_other = λ p n rx u v a b. sym (only_nearest p n rx u a) ∙ only_nearest p n rx v b;
      plans = (refl, refl, refl, refl, refl, refl, refl, refl, refl);
      packet_says = λ b x e. rw e;
      countable_frame = λ i. refl;
      countable_final = λ n. refl;
      trimmed_frame = λ s i. refl;
      trimmed_final = λ s n. refl;
      header_when = lsf_when;
      stream_when = when.stream_when;
      packet_when = when.packet_when;
      header_back = header_read;
      stream_back = stream_read;
      packet_back = packet_read;
      header_symbols = λ f h. lsf_symbols_back f.bytes h.long h.bytes;
      stream_symbols =
          λ f h. stream_symbols_back f.lich_idx f.lich_part f.frame_number f.end_of_stream f.stream_data h.index
          h.part_long h.part h.number h.long h.bytes;
      packet_symbols = λ f h. packet_symbols_back f.counter f.payload h.number h.long h.bytes;
      body_back = λ k body long bytes. (frame_of (sync_of k) body, symbols_are k body long, body_back k body long bytes);
      lich_flips = λ counter part s small long bytes twelve are near. lich.lich_flips counter part long bytes small s twelve are near;
      lich_low_bits = lich_low_bits;
      header_one = λ f g a b e. one_frame (lsf_body_of f.bytes) (lsf_body_of g.bytes) lsf_read_of f g (header_read f a) (header_read g b) e;
      stream_one = λ f g a b e. one_frame (stream_body f) (stream_body g) stream_read_of f g (stream_read f a) (stream_read g b) e;
      packet_one = λ f g a b e. one_frame (packet_body f) (packet_body g) packet_read_of (trimmed f) (trimmed g) (packet_read f a) (packet_read g b) e;
    }

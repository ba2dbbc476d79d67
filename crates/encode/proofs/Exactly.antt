-- Each refusal of a writer comes exactly when the document says. Assumes nothing.
use mathlib.Core.Path.{◌≡◌, refl, sym, ap, subst}
use mathlib.Core.Bool.{Bool}
use mathlib.Core.Logic.{⊎_elim}
use mathlib.Core.List.{List}
use Prim.Native.Nat.{ℕ, ◌≤◌, ◌<◌}
use native.Mathlib.Decide.{ℕ_discrete, dec_lt}
use native.Mathlib.Omega.{arith}
use lib.ListN.{length}
use borrow.Author.Tests.{eq-eqb, ne_eqb}
use Rattle.std.specs.Prelude.{Result, Ok, Err}
use Rattle.refusal.specs.Number.{said_of}
use Rattle.refusal.specs.declared.Refusal.{Refusal}
use Rattle.fec.specs.declared.Kind.{Kind}
use Rattle.fec.specs.declared.Kind.TheVariants.{Header, Stream, Packet}
use Rattle.protocol.specs.declared.LsfFrame.{LsfFrame}
use Rattle.protocol.specs.declared.StreamFrame.{StreamFrame}
use Rattle.protocol.specs.declared.PacketFrame.{PacketFrame}
use Rattle.protocol.specs.declared.PacketFrameCounter.{PacketFrameCounter}
use Rattle.protocol.specs.declared.PacketFrameCounter.TheVariants.{Frame, FinalFrame}
use Rattle.protocol.specs.When.{FromExactly, PartExactly}
use Rattle.encode.specs.Lich.{lich_of}
use Rattle.encode.specs.Bodies.{lsf_body_of, stream_body_of, packet_body_of}
use Rattle.encode.specs.Symbols.{symbols_from, body_symbols_of, lsf_symbols_of, stream_symbols_of, packet_symbols_of}
use Rattle.encode.specs.When.{StreamExactly, PacketExactly, BodyExactly}
use Rattle.encode.proofs.Answers.{lich_short, lich_high, lich_written, lsf_short, lsf_written, stream_short_part, stream_short, stream_high_index, stream_high, stream_written, packet_short, frame_high, frame_written, final_high, final_written}

abbrev said : Result (List ℕ) Refusal → ℕ
said = said_of

-- ---- bodies

pub lich_exactly : (c : ℕ) (part : List ℕ) → PartExactly c part (said_of (lich_of c part))
lich_exactly c part =
    record {
      one_if = λ n. ap said (lich_short c part n);
      two_if = λ e h. ap said (lich_high c part e h);
      done_if = λ e h. ap said (lich_written c part e h);
    }

pub lsf_exactly : (s : List ℕ) → FromExactly s (said_of (lsf_body_of s))
lsf_exactly s = record { one_if = λ n. ap said (lsf_short s n); done_if = λ e. ap said (lsf_written s e) }

pub stream_exactly : (i : ℕ) (part : List ℕ) (f : ℕ) (end : Bool) (s : List ℕ) → StreamExactly i part f s (said_of (stream_body_of i part f end s))
stream_exactly i part f end s =
    record {
      one_if = ⊎_elim (λ n. ap said (stream_short_part i part f end s n)) (λ n. short n (ℕ_discrete (length part) 5));
      two_if = λ e l. ⊎_elim (λ h. ap said (stream_high_index i part f end s e l h)) (λ h. high e l h (dec_lt 5 i));
      done_if = λ e l h k. ap said (stream_written i part f end s e l h k);
    }
  where
    short : (length s ≡ 16 → ⊥) → Dec (length part ≡ 5) → said (stream_body_of i part f end s) ≡ 1
    short n (yes e) = ap said (stream_short i part f end s e n)
    short n (no m) = ap said (stream_short_part i part f end s m)

    high : length part ≡ 5 → length s ≡ 16 → 32767 < f → Dec (5 < i) → said (stream_body_of i part f end s) ≡ 2
    high e l h (yes k) = ap said (stream_high_index i part f end s e l k)
    high e l h (no k) = ap said (stream_high i part f end s e l (omega arith) h)

pub packet_exactly : (c : PacketFrameCounter) (s : List ℕ) → PacketExactly c s (said_of (packet_body_of c s))
packet_exactly (Frame i) s =
    record {
      one_if = λ n. ap said (packet_short s (Frame i) n);
      two_if = λ e h. ap said (frame_high s e i h);
      done_if = λ e h. ap said (frame_written s e i (below (dec_lt 31 i) h));
    }
  where
    below : Dec (31 < i) → (31 < i → ⊥) → i ≤ 31
    below (yes k) h = absurd (h k)
    below (no k) h = omega arith
packet_exactly (FinalFrame size) s =
    record {
      one_if = λ n. ap said (packet_short s (FinalFrame size) n);
      two_if = λ e h. ap said (final_high s e size h);
      done_if = λ e h. ap said (final_written s e size (below (dec_lt 25 size) h));
    }
  where
    below : Dec (25 < size) → (25 < size → ⊥) → size ≤ 25
    below (yes k) h = absurd (h k)
    below (no k) h = omega arith

-- ---- symbols: refused as the body is

by_said : (kind : Kind) (b : Result (List ℕ) Refusal) → said_of (symbols_from kind b) ≡ said_of b
by_said kind (Ok s) = refl
by_said kind (Err why) = refl

as_body : (P : ℕ → Type 0) (kind : Kind) (b : Result (List ℕ) Refusal) → P (said_of b) → P (said_of (symbols_from kind b))
as_body P kind b p = subst P (sym (by_said kind b)) p

pub body_symbols : (kind : Kind) (body : List ℕ) → BodyExactly body (said_of (body_symbols_of kind body))
unfolding body_symbols_of
body_symbols kind body =
    record {
      one_if = λ n. rw (ne_eqb (length body) 46 n);
      done_if = λ e. rw (eq-eqb (length body) 46 e);
    }

pub lsf_symbols : (f : LsfFrame) → FromExactly f.bytes (said_of (lsf_symbols_of f))
unfolding lsf_symbols_of
lsf_symbols f = as_body (FromExactly f.bytes) Header (lsf_body_of f.bytes) (lsf_exactly f.bytes)

pub stream_symbols : (f : StreamFrame)
    → StreamExactly f.lich_idx f.lich_part f.frame_number f.stream_data (said_of (stream_symbols_of f))
unfolding stream_symbols_of
stream_symbols f =
    as_body (StreamExactly f.lich_idx f.lich_part f.frame_number f.stream_data) Stream
    (stream_body_of f.lich_idx f.lich_part f.frame_number f.end_of_stream f.stream_data)
    (stream_exactly f.lich_idx f.lich_part f.frame_number f.end_of_stream f.stream_data)

pub packet_symbols : (f : PacketFrame) → PacketExactly f.counter f.payload (said_of (packet_symbols_of f))
unfolding packet_symbols_of
packet_symbols f = as_body (PacketExactly f.counter f.payload) Packet (packet_body_of f.counter f.payload) (packet_exactly f.counter f.payload)

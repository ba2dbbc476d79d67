-- What the definitions answer in each case. Assumes nothing.
use mathlib.Core.Path.{◌≡◌}
use mathlib.Core.Bool.{Bool}
use mathlib.Core.List.{List, ◌++◌}
use Prim.Native.Nat.{ℕ, ◌≤◌, ◌<◌}
use lib.ListN.{length, take}
use borrow.Author.Tests.{eq-eqb, ne_eqb, le-leb, lt-leb}
use Rattle.std.specs.Prelude.{Ok, Err}
use Rattle.refusal.specs.declared.Refusal.TheVariants.{WrongLength, OutOfRange}
use Rattle.fec.specs.declared.Kind.TheVariants.{Header, Stream, Packet}
use Rattle.fec.specs.Kinds.{coded_of}
use Rattle.protocol.specs.declared.PacketFrameCounter.{PacketFrameCounter}
use Rattle.protocol.specs.declared.PacketFrameCounter.TheVariants.{Frame, FinalFrame}
use Rattle.encode.specs.Lich.{lich_bytes, lich_of}
use Rattle.encode.specs.Bodies.{masked, lsf_body_of, stream_fields, stream_body_of, packet_fields, packet_body_of}

-- ---- a LICH
module _ (n : ℕ) (s : List ℕ) where
  pub lich_short : (length s ≡ 5 → ⊥) → lich_of n s ≡ Err WrongLength
  unfolding lich_of
  lich_short l = simp (ne_eqb (length s) 5 l)

  pub lich_high : length s ≡ 5 → 5 < n → lich_of n s ≡ Err OutOfRange
  unfolding lich_of
  lich_high l h = simp (eq-eqb (length s) 5 l, lt-leb n 5 h)

  pub lich_written : length s ≡ 5 → n ≤ 5 → lich_of n s ≡ Ok (lich_bytes n s)
  unfolding lich_of
  lich_written l h = simp (eq-eqb (length s) 5 l, le-leb n 5 h)

-- ---- a header
module _ (s : List ℕ) where
  pub lsf_short : (length s ≡ 30 → ⊥) → lsf_body_of s ≡ Err WrongLength
  unfolding lsf_body_of
  lsf_short l = simp (ne_eqb (length s) 30 l)

  pub lsf_written : length s ≡ 30 → lsf_body_of s ≡ Ok (masked (coded_of Header s))
  unfolding lsf_body_of
  lsf_written l = simp (eq-eqb (length s) 30 l)

-- ---- a stream frame
module _ (i : ℕ) (p : List ℕ) (n : ℕ) (end : Bool) (s : List ℕ) where
  pub stream_short_part : (length p ≡ 5 → ⊥) → stream_body_of i p n end s ≡ Err WrongLength
  unfolding stream_body_of
  stream_short_part l = simp (ne_eqb (length p) 5 l)

  pub stream_short : length p ≡ 5 → (length s ≡ 16 → ⊥) → stream_body_of i p n end s ≡ Err WrongLength
  unfolding stream_body_of
  stream_short lp l = simp (eq-eqb (length p) 5 lp, ne_eqb (length s) 16 l)

  module _ (lp : length p ≡ 5) (ls : length s ≡ 16) where
    pub stream_high_index : 5 < i → stream_body_of i p n end s ≡ Err OutOfRange
    unfolding stream_body_of
    stream_high_index h = simp (eq-eqb (length p) 5 lp, eq-eqb (length s) 16 ls, lt-leb i 5 h)

    pub stream_high : i ≤ 5 → 32767 < n → stream_body_of i p n end s ≡ Err OutOfRange
    unfolding stream_body_of
    stream_high h k = simp (eq-eqb (length p) 5 lp, eq-eqb (length s) 16 ls, le-leb i 5 h, lt-leb n 32767 k)

    pub stream_written : i ≤ 5 → n ≤ 32767
        → stream_body_of i p n end s ≡ Ok (masked (lich_bytes i p ++ take 34 (coded_of Stream (stream_fields n end s))))
    unfolding stream_body_of
    stream_written h k = simp (eq-eqb (length p) 5 lp, eq-eqb (length s) 16 ls, le-leb i 5 h, le-leb n 32767 k)

-- ---- a packet frame
module _ (s : List ℕ) where
  pub packet_short : (c : PacketFrameCounter) → (length s ≡ 25 → ⊥) → packet_body_of c s ≡ Err WrongLength
  unfolding packet_body_of
  packet_short c l = simp (ne_eqb (length s) 25 l)

  module _ (l : length s ≡ 25) (n : ℕ) where
    pub frame_high : 31 < n → packet_body_of (Frame n) s ≡ Err OutOfRange
    unfolding packet_body_of
    frame_high h = simp (eq-eqb (length s) 25 l, lt-leb n 31 h)

    pub frame_written : n ≤ 31 → packet_body_of (Frame n) s ≡ Ok (masked (coded_of Packet (packet_fields (Frame n) s)))
    unfolding packet_body_of
    frame_written h = simp (eq-eqb (length s) 25 l, le-leb n 31 h)

    pub final_high : 25 < n → packet_body_of (FinalFrame n) s ≡ Err OutOfRange
    unfolding packet_body_of
    final_high h = simp (eq-eqb (length s) 25 l, lt-leb n 25 h)

    pub final_written : n ≤ 25 → packet_body_of (FinalFrame n) s ≡ Ok (masked (coded_of Packet (packet_fields (FinalFrame n) s)))
    unfolding packet_body_of
    final_written h = simp (eq-eqb (length s) 25 l, le-leb n 25 h)

-- Bytes as symbols: each pair of bits is one f32. Assumes nothing.
use Rattle.std.specs.Prelude.{Bool, true, false, cond, List, [], ◌∷◌, ◌++◌, ℕ, ◌+◌, ◌*◌, eqb, pos, Float, length, get_or, Result, Ok, Err}
use Rattle.std.specs.Float.{fin, binary32}
use Rattle.std.specs.Float.Ieee.{div, neg}
use Rattle.laws.specs.Tabled.{tabled}
use Rattle.refusal.specs.Number.{made_of}
use Rattle.refusal.specs.declared.Refusal.{Refusal}
use Rattle.refusal.specs.declared.Refusal.TheVariants.{WrongLength}
use Rattle.bits.specs.Bits.{bits_of}
use Rattle.fec.specs.declared.Kind.{Kind}
use Rattle.fec.specs.declared.Kind.TheVariants.{Header, Stream, Packet}
use Rattle.protocol.specs.declared.LsfFrame.{LsfFrame}
use Rattle.protocol.specs.declared.StreamFrame.{StreamFrame}
use Rattle.protocol.specs.declared.PacketFrame.{PacketFrame}
use Rattle.encode.specs.Bodies.{lsf_body_of, stream_body_of, packet_body_of}

abbrev pub one : Float
one = fin false 1 (pos 0)

-- 1.0 / 3.0, rounded once
unfoldable pub third : Float
unfolding div
third = div binary32 one (fin false 3 (pos 0))

-- 01 is 1, 00 is 1.0/3.0, 10 its negative, 11 is -1
unfoldable pub symbol_of : Bool → Bool → Float
unfolding third
symbol_of false true = one
symbol_of false false = third
symbol_of true false = neg third
symbol_of true true = neg one

-- n symbols, one for each pair of bits
unfoldable pub symbols_of : ℕ → List Bool → List Float
symbols_of n l = tabled (λ k. symbol_of (get_or l (2 * k) false) (get_or l (2 * k + 1) false)) n

-- a frame is 8 sync symbols, then 184: the 48 bytes of a sync word and a body
abbrev pub frame_of : List ℕ → List ℕ → List Float
frame_of sync body = symbols_of 192 (bits_of (sync ++ body))

-- the sync words
abbrev pub sync_of : Kind → List ℕ
sync_of Header = 0x55 ∷ 0xF7 ∷ []
sync_of Stream = 0xFF ∷ 0x5D ∷ []
sync_of Packet = 0x75 ∷ 0xFF ∷ []

-- ---- what writing a whole frame answers: the symbols, or the body's refusal

abbrev pub symbols_from : Kind → Result (List ℕ) Refusal → Result (List Float) Refusal
symbols_from kind = made_of (frame_of (sync_of kind))

-- 1 for other than 46 bytes
unfoldable pub body_symbols_of : Kind → List ℕ → Result (List Float) Refusal
body_symbols_of kind body = cond (eqb (length body) 46) (Ok (frame_of (sync_of kind) body)) (Err WrongLength)

unfoldable pub lsf_symbols_of : LsfFrame → Result (List Float) Refusal
lsf_symbols_of f = symbols_from Header (lsf_body_of f.bytes)

unfoldable pub stream_symbols_of : StreamFrame → Result (List Float) Refusal
stream_symbols_of f = symbols_from Stream (stream_body_of f.lich_idx f.lich_part f.frame_number f.end_of_stream f.stream_data)

unfoldable pub packet_symbols_of : PacketFrame → Result (List Float) Refusal
packet_symbols_of f = symbols_from Packet (packet_body_of f.counter f.payload)

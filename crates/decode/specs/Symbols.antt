-- Symbols as bytes: each f32 is read as a pair of bits by three thresholds. Assumes nothing.
use Rattle.std.specs.Prelude.{Bool, true, false, cond, List, [], ◌∷◌, ◌++◌, ℕ, eqb, pos, Float, length, drop, Result, Ok, Err}
use Rattle.std.specs.Float.{fin, binary32}
use Rattle.std.specs.Float.Ieee.{neg, lt, round}
use Rattle.refusal.specs.declared.Refusal.{Refusal}
use Rattle.refusal.specs.declared.Refusal.TheVariants.{WrongLength}
use Rattle.bits.specs.Bits.{bytes_of}
use Rattle.protocol.specs.declared.LsfFrame.{LsfFrame}
use Rattle.protocol.specs.declared.StreamFrame.{StreamFrame}
use Rattle.protocol.specs.declared.PacketFrame.{PacketFrame}
use Rattle.decode.specs.Bodies.{unmasked, lsf_read_of, stream_read_of, packet_read_of}

abbrev pub nought : Float
nought = fin false 0 (pos 0)

-- the f32 nearest to 0.667, as in the Rust
unfoldable pub edge : Float
unfolding round
edge = round binary32 false 667 1000

-- above 0.667, above 0, above -0.667, else 11, tested in that order
unfoldable pub pair_of : Float → List Bool
unfolding edge
pair_of x =
    cond (lt edge x) (false ∷ true ∷ [])
    (cond (lt nought x) (false ∷ false ∷ []) (cond (lt (neg edge) x) (true ∷ false ∷ []) (true ∷ true ∷ [])))

unfoldable pub pairs_of : List Float → List Bool
pairs_of [] = []
pairs_of (x ∷ xs) = pair_of x ++ pairs_of xs

-- the 46 bytes of a body: the eight sync symbols are not looked at
unfoldable pub body_from : List Float → List ℕ
body_from xs = bytes_of 46 (pairs_of (drop 8 xs))

-- 1 for other than 192 symbols
unfoldable pub body_read_of : List Float → Result (List ℕ) Refusal
body_read_of xs = cond (eqb (length xs) 192) (Ok (body_from xs)) (Err WrongLength)

-- what plain frame reading starts with: the body's bytes un-xored and brought back to coded order
unfoldable pub initial_of : List Float → Result (List ℕ) Refusal
initial_of xs = cond (eqb (length xs) 192) (Ok (unmasked (body_from xs))) (Err WrongLength)

-- whole frames
unfoldable pub lsf_parsed_of : List Float → Result LsfFrame Refusal
lsf_parsed_of xs = cond (eqb (length xs) 192) (lsf_read_of (body_from xs)) (Err WrongLength)

unfoldable pub stream_parsed_of : List Float → Result StreamFrame Refusal
stream_parsed_of xs = cond (eqb (length xs) 192) (stream_read_of (body_from xs)) (Err WrongLength)

unfoldable pub packet_parsed_of : List Float → Result PacketFrame Refusal
packet_parsed_of xs = cond (eqb (length xs) 192) (packet_read_of (body_from xs)) (Err WrongLength)

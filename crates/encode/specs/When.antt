-- When writing a body or its symbols is refused, said without a computation: n is the number of the answer. A LICH is refused as a part is
-- (protocol: PartExactly), a header as its bytes are (protocol: FromExactly). Assumes nothing.
use Rattle.std.specs.Prelude.{◌≡◌, ◌⊎◌, List, ℕ, ◌<◌, ◌≤◌, length}
use Rattle.protocol.specs.declared.PacketFrameCounter.{PacketFrameCounter}
use Rattle.protocol.specs.declared.PacketFrameCounter.TheVariants.{Frame, FinalFrame}

-- a stream frame: LICH index i, part, frame number f, and data
pub record StreamExactly (i : ℕ) (part : List ℕ) (f : ℕ) (bytes : List ℕ) (n : ℕ) : Type 0 where
  pub one_if : ((length part ≡ 5 → ⊥) ⊎ (length bytes ≡ 16 → ⊥)) → n ≡ 1
  pub two_if : length part ≡ 5 → length bytes ≡ 16 → ((5 < i) ⊎ (32767 < f)) → n ≡ 2
  pub done_if : length part ≡ 5 → length bytes ≡ 16 → i ≤ 5 → f ≤ 32767 → n ≡ 0

-- a packet index over 31, a final frame's length over 25
abbrev pub Over : PacketFrameCounter → Type 0
Over (Frame i) = 31 < i
Over (FinalFrame size) = 25 < size

-- a packet frame
pub record PacketExactly (c : PacketFrameCounter) (payload : List ℕ) (n : ℕ) : Type 0 where
  pub one_if : (length payload ≡ 25 → ⊥) → n ≡ 1
  pub two_if : length payload ≡ 25 → Over c → n ≡ 2
  pub done_if : length payload ≡ 25 → (Over c → ⊥) → n ≡ 0

-- the symbols of a body
pub record BodyExactly (body : List ℕ) (n : ℕ) : Type 0 where
  pub one_if : (length body ≡ 46 → ⊥) → n ≡ 1
  pub done_if : length body ≡ 46 → n ≡ 0

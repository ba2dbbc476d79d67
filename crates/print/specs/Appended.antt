-- Bytes put into a buffer as far as there is room. Assumes nothing.
use Rattle.std.specs.Prelude.{List, ℕ, ◌-◌, min, length}
use Rattle.std.proofs.Math.Seq.{paste}

-- how many bytes of s find room in the buffer from place `at` on
abbrev pub room_for : List ℕ → ℕ → List ℕ → ℕ
room_for to at s = min (length s) (length to - at)

-- those bytes in the place of the buffer's own
abbrev pub appended : List ℕ → ℕ → List ℕ → List ℕ
appended to at s = paste to at s (room_for to at s)

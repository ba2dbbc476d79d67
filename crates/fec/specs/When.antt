-- Of each kind: what it is to be near a word, and to be far from all. Assumes nothing.
use Rattle.std.specs.Prelude.{◌≡◌, Bool, List, ℕ, ◌+◌, ◌≤◌, ◌<◌, length, take}
use Rattle.bits.specs.Bits.{bits_of, bytes_of}
use Rattle.fec.specs.declared.Kind.{Kind}
use Rattle.fec.specs.Nearest.{distance, Nearest}
use Rattle.fec.specs.Kinds.{bits_in, coded_bytes, limit_of, sends_in}

module _ (k : Kind) (rx : List ℕ) where
  -- b are the first n bits of the nearest word, and its distance is within the limit
  pub record Near (b : List ℕ) : Type 0 where
    pub long : length rx ≡ coded_bytes k
    pub word : List Bool
    pub nearest : Nearest (sends_in k) (bits_in k) (bits_of rx) word
    pub within : distance (sends_in k) (bits_of rx) word ≤ limit_of k
    pub bytes : b ≡ bytes_of 30 (take (bits_in k) word)

  -- every word is farther than the limit
  pub record Far : Type 0 where
    pub long : length rx ≡ coded_bytes k
    pub beyond : (v : List Bool) → length v ≡ bits_in k + 4 → limit_of k < distance (sends_in k) (bits_of rx) v

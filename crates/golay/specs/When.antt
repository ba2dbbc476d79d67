-- When a word is read, and when it is refused. Assumes nothing.
use Rattle.std.specs.Prelude.{◌≡◌, ℕ, ◌≤◌, ◌<◌, Ok, Err}
use Rattle.refusal.specs.declared.Refusal.TheVariants.{BadGolay}
use Rattle.golay.specs.Golay.{golay, apart, decoded_of}

pub record Reads (w : ℕ) : Type 0 where
  -- data is answered exactly when its codeword is within three flips
  pub answered : (d : ℕ) → decoded_of w ≡ Ok d → (d < 4096) × (apart (golay d) w ≤ 3)
  pub near : (d : ℕ) → d < 4096 → apart (golay d) w ≤ 3 → decoded_of w ≡ Ok d
  -- and 4 exactly when no codeword is
  pub refused : decoded_of w ≡ Err BadGolay → (d : ℕ) → d < 4096 → apart (golay d) w ≤ 3 → ⊥
  pub none : ((d : ℕ) → d < 4096 → apart (golay d) w ≤ 3 → ⊥) → decoded_of w ≡ Err BadGolay

-- When making or changing a header, or setting a part, is refused, said without a computation: n is the number of the answer. Assumes nothing.
use Rattle.std.specs.Prelude.{◌≡◌, ◌⊎◌, List, ℕ, ◌<◌, ◌≤◌, length}
use Rattle.address.specs.declared.Address.{Address}
use Rattle.address.specs.When.{Unwritable}

-- a header from the bytes s
pub record FromExactly (s : List ℕ) (n : ℕ) : Type 0 where
  pub one_if : (length s ≡ 30 → ⊥) → n ≡ 1
  pub done_if : length s ≡ 30 → n ≡ 0

-- the channel access number c
pub record ChannelExactly (c n : ℕ) : Type 0 where
  pub two_if : 15 < c → n ≡ 2
  pub done_if : c ≤ 15 → n ≡ 0

-- a header from the source a and the destination b, with the characters s and t beside them
pub record NewExactly (a : Address) (s : List ℕ) (b : Address) (t : List ℕ) (n : ℕ) : Type 0 where
  pub one_if : ((length s ≡ 9 → ⊥) ⊎ (length t ≡ 9 → ⊥)) → n ≡ 1
  pub six_if : length s ≡ 9 → length t ≡ 9 → (Unwritable a s ⊎ Unwritable b t) → n ≡ 6
  pub done_if : length s ≡ 9 → length t ≡ 9 → (Unwritable a s → ⊥) → (Unwritable b t → ⊥) → n ≡ 0

-- a part at the counter c
pub record PartExactly (c : ℕ) (part : List ℕ) (n : ℕ) : Type 0 where
  pub one_if : (length part ≡ 5 → ⊥) → n ≡ 1
  pub two_if : length part ≡ 5 → 5 < c → n ≡ 2
  pub done_if : length part ≡ 5 → c ≤ 5 → n ≡ 0

-- The bits of the type value, read and set through the whole value. Assumes nothing.
use mathlib.Core.Path.{◌≡◌, sym, ap, ap₂, ◌∙◌, subst}
use mathlib.Core.List.{List}
use Prim.Native.Nat.{ℕ, ◌+◌, ◌*◌, ◌/◌, ◌%◌, ◌^◌, ◌≤◌, ◌<◌}
use native.Mathlib.Omega.{arith}
use lib.Pow.{pow_pos}
use Rattle.std.proofs.lemmas.Nat.{shl_whole, one_shl}
use Rattle.protocol.specs.Fields.{bits_at, with_bits, type_bits, type_bytes, fields_of, field, renewed, set_field}
use Rattle.protocol.proofs.Bits.{read_within, put_within, put_lt}

module _ (k w : ℕ) (s : List ℕ) (within : k + w ≤ 16) (t : ℕ) (type : t ≡ field type_bytes s) where
  pub type_read : field (type_bits k w) s ≡ t / 2 ^ k % 2 ^ w
  unfolding field bits_at
  type_read = read_within 112 16 k w (fields_of s) within ∙ ap (λ (n : ℕ). n / 2 ^ k % 2 ^ w) (sym type)

  -- x is the type value with v in those bits
  pub type_set : (v x : ℕ) → x ≡ t / 2 ^ (k + w) * 2 ^ (k + w) + v * 2 ^ k + t % 2 ^ k → set_field type_bytes x s ≡ set_field (type_bits k w) v s
  unfolding field set_field with_bits
  type_set v x e =
      ap renewed
      (ap (λ (n : ℕ). with_bits type_bytes n (fields_of s))
      (e ∙ ap (λ (n : ℕ). n / 2 ^ (k + w) * 2 ^ (k + w) + v * 2 ^ k + n % 2 ^ k) type)
      ∙ sym (put_within 112 16 k w v (fields_of s) within))

-- the type value with v in its bits, made by shifts of sixteen bits
module _ (k w v t : ℕ) (within : k + w < 16) (fits : v < 2 ^ w) (short : t < 65536) where
  pub shifted : (t / 2 ^ (k + w) * 2 ^ (k + w)) % 65536 + (v * 2 ^ k) % 65536 + t % ((1 * 2 ^ k) % 65536)
      ≡ t / 2 ^ (k + w) * 2 ^ (k + w) + v * 2 ^ k + t % 2 ^ k
  shifted =
      let some : 0 < 2 ^ (k + w) = pow_pos (k + w) in
      let less : t / 2 ^ (k + w) * 2 ^ (k + w) < 65536 = omega arith in
      let above : (t / 2 ^ (k + w) * 2 ^ (k + w)) % 65536 ≡ t / 2 ^ (k + w) * 2 ^ (k + w) = omega arith in
      let at : (v * 2 ^ k) % 65536 ≡ v * 2 ^ k = shl_whole v w k 16 fits (omega arith) in
      let below : t % ((1 * 2 ^ k) % 65536) ≡ t % 2 ^ k = ap (λ (m : ℕ). t % m) (one_shl k 16 (omega arith)) in
      ap₂ (λ (x y : ℕ). x + y) (ap₂ (λ (x y : ℕ). x + y) above at) below

  pub shifted_lt : (t / 2 ^ (k + w) * 2 ^ (k + w)) % 65536 + (v * 2 ^ k) % 65536 + t % ((1 * 2 ^ k) % 65536) < 65536
  unfolding with_bits
  shifted_lt = subst (λ (n : ℕ). n < 65536) (sym shifted) (put_lt k w v t fits 16 (omega arith) short)

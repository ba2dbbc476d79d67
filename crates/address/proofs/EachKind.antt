-- Each kind of address by itself: where it is read, and where it is written or refused. Assumes nothing.
use mathlib.Core.Path.{◌≡◌, refl}
use mathlib.Core.Bool.{Bool, true, false, not}
use mathlib.Core.List.{List}
use Prim.Native.Nat.{ℕ, ◌≤◌, ◌<◌}
use native.Mathlib.Omega.{arith}
use lib.ListN.{length}
use Rattle.std.proofs.Common.{Ok, Err}
use borrow.Author.Tests.{eq-eqb, ne_eqb, le-leb, lt-leb}
use Rattle.refusal.specs.declared.Refusal.TheVariants.{WrongLength, BadAddress}
use Rattle.address.specs.declared.Address.{Address}
use Rattle.address.specs.declared.Address.TheVariants.{Invalid, Callsign, Reserved, Broadcast}
use Rattle.laws.specs.Value.{value_of, in_bytes}
use Rattle.address.specs.Callsign.{callsign_of, known, blank, callsign_value}
use Rattle.address.specs.Address.{without_callsign, address_of, decoded_of, address_value, writable, encoded_of}
use Rattle.address.proofs.Number.{number_zero, number_blank}

-- ---- reading
pub read_short : (s : List ℕ) → (length s ≡ 6 → ⊥) → decoded_of s ≡ Err WrongLength
unfolding decoded_of
read_short s h = rw (ne_eqb (length s) 6 h)

pub read_six : (s : List ℕ) → length s ≡ 6 → decoded_of s ≡ Ok (address_of (value_of s))
unfolding decoded_of
read_six s h = rw (eq-eqb (length s) 6 h)

pub invalid_at : (v : ℕ) → v ≡ 0 → address_of v ≡ without_callsign Invalid
unfolding address_of
invalid_at v h = rw (eq-eqb v 0 h)

pub callsign_at : (v : ℕ) → (v ≡ 0 → ⊥) → v ≤ 0xEE6B27FFFFFF → address_of v ≡ record { address = Callsign; callsign = callsign_of 9 v }
unfolding address_of
callsign_at v n h = rw (ne_eqb v 0 n, le-leb v 0xEE6B27FFFFFF h)

pub reserved_at : (v : ℕ) → 0xEE6B27FFFFFF < v → v ≤ 0xFFFFFFFFFFFE → address_of v ≡ without_callsign (Reserved v)
unfolding address_of
reserved_at v l h = rw (ne_eqb v 0 (λ e. omega arith), lt-leb v 0xEE6B27FFFFFF l, le-leb v 0xFFFFFFFFFFFE h)

pub broadcast_at : (v : ℕ) → 0xFFFFFFFFFFFE < v → address_of v ≡ without_callsign Broadcast
unfolding address_of
broadcast_at v h = rw (ne_eqb v 0 (λ e. omega arith), lt-leb v 0xEE6B27FFFFFF (omega arith), lt-leb v 0xFFFFFFFFFFFE h)

-- ---- writing
module _ (a : Address) (s : List ℕ) where
  pub write_short : (length s ≡ 9 → ⊥) → encoded_of a s ≡ Err WrongLength
  unfolding encoded_of
  write_short h = rw (ne_eqb (length s) 9 h)

  pub write_good : length s ≡ 9 → writable a s ≡ true → encoded_of a s ≡ Ok (in_bytes 6 (address_value a s))
  unfolding encoded_of
  write_good h e = rw (eq-eqb (length s) 9 h, e)

  pub write_bad : length s ≡ 9 → writable a s ≡ false → encoded_of a s ≡ Err BadAddress
  unfolding encoded_of
  write_bad h e = rw (eq-eqb (length s) 9 h, e)

-- a callsign is written where each byte is known and its number is not 0
pub callsign_good : (s : List ℕ) → known s ≡ true → (callsign_value s ≡ 0 → ⊥) → writable Callsign s ≡ true
callsign_good s k n = simp k (go (blank s) refl)
  where
    go : (b : Bool) → blank s ≡ b → not b ≡ true
    go true e = absurd (n (number_blank s e))
    go false e = refl

pub callsign_spaces : (s : List ℕ) → known s ≡ true → callsign_value s ≡ 0 → writable Callsign s ≡ false
callsign_spaces s k e = simp (k, number_zero s k e)

pub callsign_foreign : (s : List ℕ) → known s ≡ false → writable Callsign s ≡ false
callsign_foreign s e = simp e

pub reserved_low : (v : ℕ) (s : List ℕ) → v < 0xEE6B28000000 → writable (Reserved v) s ≡ false
reserved_low v s h = simp (lt-leb 0xEE6B28000000 v h)

pub reserved_high : (v : ℕ) (s : List ℕ) → 0xEE6B28000000 ≤ v → 0xFFFFFFFFFFFE < v → writable (Reserved v) s ≡ false
reserved_high v s l h = simp (le-leb 0xEE6B28000000 v l, lt-leb v 0xFFFFFFFFFFFE h)

pub reserved_good : (v : ℕ) (s : List ℕ) → 0xEE6B28000000 ≤ v → v ≤ 0xFFFFFFFFFFFE → writable (Reserved v) s ≡ true
reserved_good v s l h = simp (le-leb 0xEE6B28000000 v l, le-leb v 0xFFFFFFFFFFFE h)

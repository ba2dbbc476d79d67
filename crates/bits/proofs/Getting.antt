-- What an answer of `get_bit` says of the bit: it is the bit, or there is none. Assumes nothing.
use mathlib.Core.Path.{◌≡◌, refl, ap}
use mathlib.Core.Bool.{Bool, true, false, cond}
use mathlib.Core.List.{List}
use Prim.Native.Nat.{ℕ, ◌*◌, ◌<◌, ◌≤◌}
use native.Mathlib.Omega.{arith}
use lib.ListN.{length, get_or, get_or-eq_default}
use borrow.Author.Tests.{ltb-true, ltb-false, lt-ltb, le-ltb}
use Rattle.std.specs.Prelude.{Ok, Err}
use Rattle.refusal.specs.Number.{said_of}
use Rattle.refusal.specs.declared.Refusal.{Refusal}
use Rattle.refusal.specs.declared.Refusal.TheVariants.{OutOfRange}
use Rattle.bits.specs.Bits.{bit, bits_of}
use Rattle.bits.specs.Places.{within, get_of}
use Rattle.bits.proofs.Back.{length_bits}

module _ (s : List ℕ) (i : ℕ) where
  by : (t : Bool) → within s i ≡ t → get_of s i ≡ cond t (Ok (bit (get_or (bits_of s) i false))) (Err OutOfRange)
  by t e = ap (λ (u : Bool). cond u (Ok (bit (get_or (bits_of s) i false))) (Err OutOfRange)) e

  pub got : (b : ℕ) → get_of s i ≡ Ok b → b ≡ bit (get_or (bits_of s) i false)
  got b e = go (within s i) refl
    where
      go : (t : Bool) → within s i ≡ t → b ≡ bit (get_or (bits_of s) i false)
      go true w = let p = by true w in cc
      go false w = let p = by false w in let z : ◌≡◌ {A = ℕ} 0 1 = cc in absurd (omega arith)

  pub held : (b : ℕ) → get_of s i ≡ Ok b → i < 8 * length s
  held b e = go (within s i) refl
    where
      go : (t : Bool) → within s i ≡ t → i < 8 * length s
      go true w = ltb-true i (8 * length s) w
      go false w = let p = by false w in let z : ◌≡◌ {A = ℕ} 0 1 = cc in absurd (omega arith)

  pub missed : (why : Refusal) → get_of s i ≡ Err why → 8 * length s ≤ i
  missed why e = go (within s i) refl
    where
      go : (t : Bool) → within s i ≡ t → 8 * length s ≤ i
      go true w = let p = by true w in let z : ◌≡◌ {A = ℕ} 0 1 = cc in absurd (omega arith)
      go false w = ltb-false i (8 * length s) w

  -- past the bytes a missing bit counts as 0
  pub missing : 8 * length s ≤ i → get_or (bits_of s) i false ≡ false
  missing h = get_or-eq_default (bits_of s) false (omega (arith, length_bits s))

  -- ---- refusal 2 comes exactly past the bytes

  pub refused_when : 8 * length s ≤ i → said_of (get_of s i) ≡ 2
  refused_when h = ap said_of (by false (le-ltb i (8 * length s) h))

  pub answered_when : i < 8 * length s → said_of (get_of s i) ≡ 0
  answered_when h = ap said_of (by true (lt-ltb i (8 * length s) h))

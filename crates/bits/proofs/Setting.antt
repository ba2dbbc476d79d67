-- A bit that is set: what the bytes are then, that it reads as set, and that every other place is kept. Assumes nothing.
use mathlib.Core.Path.{◌≡◌, refl, sym, ap, ap₂, ◌∙◌}
use mathlib.Core.Bool.{Bool, true, false, not, cond}
use mathlib.Core.List.{List, [], ◌∷◌}
use Prim.Native.Nat.{ℕ, zero, suc, ◌-◌, ◌*◌, ◌/◌, ◌%◌, ◌^◌, ◌<◌, ◌≤◌}
use native.Mathlib.Omega.{arith}
use lib.Dec.{eqb, eqb→eq, ltb}
use lib.Bits.{bit_and, bit_or}
use lib.ListN.{length, get_or, set, length-set}
use lib.Seq.{set_out, get_or-set_same, get_or-set_other}
use borrow.Author.Tests.{ne_eqb, lt-ltb}
use Rattle.laws.specs.Value.{Bytes}
use Rattle.laws.proofs.Every.{every, every_at}
use Rattle.bits.specs.Bits.{bit, eight, bits_of, byte_of, bytes_of}
use Rattle.bits.specs.Places.{within, get_of, flag, with_bit}
use Rattle.std.specs.Prelude.{Result, Ok, Err}
use Rattle.refusal.specs.declared.Refusal.{Refusal}
use Rattle.refusal.specs.declared.Refusal.TheVariants.{OutOfRange}
use Rattle.bits.proofs.Back.{length_bits, length_bytes, byte_eight, bytes_bits, bits_bytes, next_byte, next_bit}

pub flag_one : (v : ℕ) → (v ≡ 0 → ⊥) → flag v ≡ true
flag_one v h = ap not (ne_eqb v 0 h)

pub flag-bit : (b : Bool) → flag (bit b) ≡ b
flag-bit true = refl
flag-bit false = refl

-- ---- the byte that holds the bit

-- byte x with its bit k, the top one first
abbrev pub put_in : ℕ → ℕ → Bool → ℕ
put_in x k b = byte_of (set (eight x) k b)

or_test : ℕ → ℕ → Bool
or_test x k = eqb (bit_or x (1 * 2 ^ (7 - k) % 256)) (put_in x k true)

and_test : ℕ → ℕ → Bool
and_test x k = eqb (bit_and x (255 - 1 * 2 ^ (7 - k) % 256)) (put_in x k false)

pub or_sets : (x k : ℕ) → x < 256 → k < 8 → bit_or x (1 * 2 ^ (7 - k) % 256) ≡ put_in x k true
unfolding or_test
or_sets x k h l = eqb→eq _ _ (every_at (or_test x) 8 k l (every_at (λ y. every (or_test y) 8) 256 x h tt))

pub and_clears : (x k : ℕ) → x < 256 → k < 8 → bit_and x (255 - 1 * 2 ^ (7 - k) % 256) ≡ put_in x k false
unfolding and_test
and_clears x k h l = eqb→eq _ _ (every_at (and_test x) 8 k l (every_at (λ y. every (and_test y) 8) 256 x h tt))

-- only byte i / 8 changes, in its bit i % 8
changed : (s : List ℕ) (i : ℕ) (b : Bool) → Bytes s → i < 8 * length s
    → bytes_of (length s) (set (bits_of s) i b) ≡ set s (i / 8) (put_in (get_or s (i / 8) 0) (i % 8) b)
unfolding bits_of bytes_of
changed [] i b h l = absurd (omega arith)
changed (x ∷ s) zero b h l = ap (λ (r : List ℕ). put_in x 0 b ∷ r) (bytes_bits s (λ k. h (suc k)))
changed (x ∷ s) (suc zero) b h l = ap (λ (r : List ℕ). put_in x 1 b ∷ r) (bytes_bits s (λ k. h (suc k)))
changed (x ∷ s) (suc (suc zero)) b h l = ap (λ (r : List ℕ). put_in x 2 b ∷ r) (bytes_bits s (λ k. h (suc k)))
changed (x ∷ s) (suc (suc (suc zero))) b h l = ap (λ (r : List ℕ). put_in x 3 b ∷ r) (bytes_bits s (λ k. h (suc k)))
changed (x ∷ s) (suc (suc (suc (suc zero)))) b h l = ap (λ (r : List ℕ). put_in x 4 b ∷ r) (bytes_bits s (λ k. h (suc k)))
changed (x ∷ s) (suc (suc (suc (suc (suc zero))))) b h l = ap (λ (r : List ℕ). put_in x 5 b ∷ r) (bytes_bits s (λ k. h (suc k)))
changed (x ∷ s) (suc (suc (suc (suc (suc (suc zero)))))) b h l = ap (λ (r : List ℕ). put_in x 6 b ∷ r) (bytes_bits s (λ k. h (suc k)))
changed (x ∷ s) (suc (suc (suc (suc (suc (suc (suc zero))))))) b h l = ap (λ (r : List ℕ). put_in x 7 b ∷ r) (bytes_bits s (λ k. h (suc k)))
changed (x ∷ s) (suc (suc (suc (suc (suc (suc (suc (suc i)))))))) b h l =
    ap₂ {C = List ℕ} (λ (a : ℕ) (r : List ℕ). a ∷ r) (byte_eight x (h 0)) (changed s i b (λ k. h (suc k)) (omega arith))
    ∙ sym (ap₂ (λ (a c : ℕ). set (x ∷ s) a (put_in (get_or (x ∷ s) a 0) c b)) (next_byte i) (next_bit i))

-- past the bytes nothing changes
pub unchanged : (s : List ℕ) (i v : ℕ) → Bytes s → 8 * length s ≤ i → with_bit s i v ≡ s
unfolding with_bit
unchanged s i v h l = ap (bytes_of (length s)) (set_out (bits_of s) i (flag v) (omega (arith, length_bits s))) ∙ bytes_bits s h

-- the code's byte at i / 8 is the right one
pub put_byte : (s : List ℕ) (i v y : ℕ) → Bytes s → i < 8 * length s → y ≡ put_in (get_or s (i / 8) 0) (i % 8) (flag v)
    → set s (i / 8) y ≡ with_bit s i v
unfolding with_bit
put_byte s i v y h l e = ap (set s (i / 8)) e ∙ sym (changed s i (flag v) h l)

-- ---- the laws

pub length_with : (s : List ℕ) (i v : ℕ) → length (with_bit s i v) ≡ length s
unfolding with_bit
length_with s i v = length_bytes (length s) (set (bits_of s) i (flag v))

pub bits_with : (s : List ℕ) (i v : ℕ) → bits_of (with_bit s i v) ≡ set (bits_of s) i (flag v)
unfolding with_bit
bits_with s i v = bits_bytes (length s) (set (bits_of s) i (flag v)) (length-set (bits_of s) i (flag v) ∙ length_bits s)

within_with : (s : List ℕ) (i v j : ℕ) → within (with_bit s i v) j ≡ within s j
within_with s i v j = ap (λ (n : ℕ). ltb j (8 * n)) (length_with s i v)

-- a bit that was set reads as set
pub set_get : (s : List ℕ) (i v : ℕ) → i < 8 * length s → get_of (with_bit s i v) i ≡ Ok (bit (flag v))
set_get s i v h =
    ap₂ {C = Result ℕ Refusal} (λ (t : Bool) (b : Bool). cond t (Ok (bit b)) (Err OutOfRange)) (within_with s i v i ∙ lt-ltb i (8 * length s) h)
    (ap (λ (l : List Bool). get_or l i false) (bits_with s i v) ∙ get_or-set_same (bits_of s) i (flag v) false (omega (arith, length_bits s)))

-- and every other place reads as before
pub set_others : (s : List ℕ) (i v j : ℕ) → (j ≡ i → ⊥) → get_of (with_bit s i v) j ≡ get_of s j
set_others s i v j n =
    ap₂ {C = Result ℕ Refusal} (λ (t : Bool) (b : Bool). cond t (Ok (bit b)) (Err OutOfRange)) (within_with s i v j)
    (ap (λ (l : List Bool). get_or l j false) (bits_with s i v) ∙ get_or-set_other (bits_of s) i j (flag v) false n)

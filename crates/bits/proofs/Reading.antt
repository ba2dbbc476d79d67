-- Reading bits in order: what each step answers, and that all of them are the bytes' bits, then the end for ever. Assumes nothing.
use mathlib.Core.Path.{◌≡◌, refl, sym, ap, ap₂, ◌∙◌}
use mathlib.Core.Bool.{Bool, true, false, cond}
use mathlib.Core.List.{List, ◌∷◌, ◌++◌, map}
use Prim.Native.Nat.{ℕ, zero, suc, ◌+◌, ◌*◌, ◌<◌, ◌≤◌}
use native.Mathlib.Nat.{zero-add, suc-add}
use native.Mathlib.Omega.{arith}
use native.Mathlib.Numerals.{add-one}
use lib.Dec.{ltb}
use lib.ListN.{length, get_or, drop, replicate, drop_of_length-le}
use lib.Seq.{drop-cons}
use borrow.Author.Tests.{lt-ltb, le-ltb}
use Rattle.std.specs.Prelude.{Option, Some, None}
use Rattle.bits.specs.Bits.{bit, bits_of}
use Rattle.bits.specs.Reader.{last_place, readable, as_read, next_of, moved_on, place_after, readings}
use Rattle.bits.proofs.Back.{length_bits}

-- ---- one step

module _ (s : List ℕ) (i : ℕ) where
  -- the answer, where it is known whether the place can be read
  by : (t : Bool) → readable s i ≡ t → next_of s i ≡ cond t (as_read (get_or (bits_of s) i false)) None
  by t e = ap (λ (u : Bool). cond u (as_read (get_or (bits_of s) i false)) None) e

  -- past a bit the place moves on, and at the end it is as it was
  pub moves : (b : ℕ) → next_of s i ≡ Some b → place_after s i ≡ i + 1
  moves b e = ap (λ (n : Option ℕ). moved_on n i) e

  pub stays : next_of s i ≡ None → place_after s i ≡ i
  stays e = ap (λ (n : Option ℕ). moved_on n i) e

  -- a bit, and the place moves on
  pub reads_on : i < 8 * length s → i < last_place → (next_of s i ≡ as_read (get_or (bits_of s) i false)) × (place_after s i ≡ i + 1)
  reads_on h l = let a = by true (simp (lt-ltb i last_place l, lt-ltb i (8 * length s) h)) in (a, moves (bit (get_or (bits_of s) i false)) a)

  -- the end, and the place is as it was
  pub stops : 8 * length s ≤ i → (next_of s i ≡ None) × (place_after s i ≡ i)
  stops h = let a = by false (go (ltb i last_place)) in (a, stays a)
    where
      go : (t : Bool) → cond t (ltb i (8 * length s)) false ≡ false
      go true = le-ltb i (8 * length s) h
      go false = refl

  -- no place comes after the last
  pub stops_last : last_place ≤ i → (next_of s i ≡ None) × (place_after s i ≡ i)
  stops_last l = let a = by false (simp (le-ltb i last_place l)) in (a, stays a)

-- ---- all of them

-- past the bytes, the end for ever
pub ends : (n : ℕ) (s : List ℕ) (i : ℕ) → 8 * length s ≤ i → readings n s i ≡ replicate n None
unfolding readings
ends zero s i h = refl
ends (suc n) s i h =
    ap₂ {C = List (Option ℕ)} (λ (a : Option ℕ) (m : ℕ). a ∷ readings n s m) (stops s i h).0 (stops s i h).1
    ∙ ap (λ (l : List (Option ℕ)). None ∷ l) (ends n s i h)

-- what is left from a place on: its bit, and what is left from the next
next_left : (s : List ℕ) (i : ℕ) → i < 8 * length s → drop i (bits_of s) ≡ get_or (bits_of s) i false ∷ drop (i + 1) (bits_of s)
next_left s i h =
    drop-cons (bits_of s) i false (omega (arith, length_bits s))
    ∙ ap (λ (m : ℕ). get_or (bits_of s) i false ∷ drop m (bits_of s)) (sym (add-one i))

-- from place i, where k bits are left
left : (k n : ℕ) (s : List ℕ) (i : ℕ) → i + k ≡ 8 * length s → 8 * length s ≤ last_place
    → readings (k + n) s i ≡ map as_read (drop i (bits_of s)) ++ replicate n None
unfolding readings
left zero n s i e h =
    ap (λ (m : ℕ). readings m s i) (zero-add n) ∙ ends n s i (omega arith)
    ∙ sym (ap (λ (l : List Bool). map as_read l ++ replicate n None) (drop_of_length-le (bits_of s) {i = i} (omega (arith, length_bits s))))
left (suc k) n s i e h =
    let now : (next_of s i ≡ as_read (get_or (bits_of s) i false)) × (place_after s i ≡ i + 1) = reads_on s i (omega arith) (omega arith) in
    ap (λ (m : ℕ). readings m s i) (suc-add k n)
    ∙ ap₂ {C = List (Option ℕ)} (λ (a : Option ℕ) (m : ℕ). a ∷ readings (k + n) s m) now.0 now.1
    ∙ ap (λ (l : List (Option ℕ)). as_read (get_or (bits_of s) i false) ∷ l) (left k n s (i + 1) (omega arith) h)
    ∙ sym (ap (λ (l : List Bool). map as_read l ++ replicate n None) (next_left s i (omega arith)))

-- from the start: the bytes' bits in order, then the end for ever
pub all_bits : (s : List ℕ) (n : ℕ) → 8 * length s ≤ last_place → readings (8 * length s + n) s 0 ≡ map as_read (bits_of s) ++ replicate n None
all_bits s n h = left (8 * length s) n s 0 (omega arith) h

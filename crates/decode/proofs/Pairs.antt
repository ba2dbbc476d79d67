-- The bits that symbols are read as: two a symbol, and what stands at each place. Assumes nothing.
use mathlib.Core.Path.{◌≡◌, refl, sym, ap, ◌∙◌}
use mathlib.Core.Bool.{Bool, true, false, cond}
use mathlib.Core.List.{List, [], ◌∷◌, ◌++◌}
use Prim.Native.Nat.{ℕ, zero, suc, ◌+◌, ◌*◌, ◌<◌}
use native.Mathlib.Nat.{add-zero}
use native.Mathlib.Omega.{arith}
use lib.Ieee.{Float, nan, lt, neg}
use lib.ListN.{length, get_or, drop, length-drop}
use lib.Seq.{drop-cons, get_or-drop}
use Rattle.bits.specs.Bits.{bit, byte_of}
use Rattle.decode.specs.Symbols.{pair_of, pairs_of, nought, edge}

-- each is read as two bits
pair_two : (x : Float) → pair_of x ≡ get_or (pair_of x) 0 false ∷ get_or (pair_of x) 1 false ∷ []
unfolding pair_of edge
pair_two x = go (lt edge x) (lt nought x) (lt (neg edge) x)
  where
    chosen : Bool → Bool → Bool → List Bool
    chosen a b c = cond a (false ∷ true ∷ []) (cond b (false ∷ false ∷ []) (cond c (true ∷ false ∷ []) (true ∷ true ∷ [])))

    go : (a b c : Bool) → chosen a b c ≡ get_or (chosen a b c) 0 false ∷ get_or (chosen a b c) 1 false ∷ []
    go true b c = refl
    go false true c = refl
    go false false true = refl
    go false false false = refl

-- 2 k, so that it computes on k
abbrev twice : ℕ → ℕ
twice zero = 0
twice (suc k) = suc (suc (twice k))

twice_is : (k : ℕ) → twice k ≡ 2 * k
twice_is zero = refl
twice_is (suc k) = omega (arith, twice_is k)

drop-twice : (k : ℕ) (xs : List Float) → drop (twice k) (pairs_of xs) ≡ pairs_of (drop k xs)
unfolding pairs_of
drop-twice zero xs = refl
drop-twice (suc k) [] = refl
drop-twice (suc k) (x ∷ xs) =
    ap (λ (p : List Bool). drop (suc (suc (twice k))) (p ++ pairs_of xs)) (pair_two x) ∙ drop-twice k xs

front : (x : Float) (l : List Float) (c : ℕ) → c < 2 → get_or (pairs_of (x ∷ l)) c false ≡ get_or (pair_of x) c false
unfolding pairs_of
front x l zero b = ap (λ (p : List Bool). get_or (p ++ pairs_of l) 0 false) (pair_two x)
front x l (suc zero) b = ap (λ (p : List Bool). get_or (p ++ pairs_of l) 1 false) (pair_two x)
front x l (suc (suc c)) b = absurd (omega arith)

-- bit c of symbol k
pub pair_at : (xs : List Float) (k c : ℕ) → k < length xs → c < 2 → get_or (pairs_of xs) (2 * k + c) false ≡ get_or (pair_of (get_or xs k nan)) c false
pair_at xs k c h b =
    sym (get_or-drop (2 * k) (pairs_of xs) c false)
    ∙ ap (λ (l : List Bool). get_or l c false)
    (ap (λ (n : ℕ). drop n (pairs_of xs)) (sym (twice_is k)) ∙ drop-twice k xs ∙ ap pairs_of (drop-cons xs k nan h))
    ∙ front (get_or xs k nan) (drop (suc k) xs) c b

-- eight bits from place j on make a byte
module _ (l : List Bool) (j : ℕ) where
  at : (c k : ℕ) → j + c ≡ k → bit (get_or (drop j l) c false) ≡ bit (get_or l k false)
  at c k e = ap bit (get_or-drop j l c false ∙ ap (λ (k : ℕ). get_or l k false) e)

  byte_is : (a b c d e f g h : ℕ) → a ≡ bit (get_or l j false) → b ≡ bit (get_or l (j + 1) false) → c ≡ bit (get_or l (j + 2) false) → d ≡ bit (get_or l (j + 3) false)
      → e ≡ bit (get_or l (j + 4) false) → f ≡ bit (get_or l (j + 5) false) → g ≡ bit (get_or l (j + 6) false) → h ≡ bit (get_or l (j + 7) false)
      → 128 * a + 64 * b + 32 * c + 16 * d + 8 * e + 4 * f + 2 * g + h ≡ byte_of (drop j l)
  byte_is a b c d e f g h ea eb ec ed ee ef eg eh =
      omega (arith, at 0 j (add-zero j), at 1 (j + 1) refl, at 2 (j + 2) refl, at 3 (j + 3) refl, at 4 (j + 4) refl, at 5 (j + 5) refl, at 6 (j + 6) refl, at 7 (j + 7) refl)

-- a pair as a number
abbrev pub dibit : Float → ℕ
dibit x = 2 * bit (get_or (pair_of x) 0 false) + bit (get_or (pair_of x) 1 false)

-- four symbols make a byte
pub byte_of_four : (xs : List Float) (i : ℕ) → length xs ≡ 192 → i < 46 → (a b c d : ℕ) → a ≡ dibit (get_or xs (8 + 4 * i) nan) → b ≡ dibit (get_or xs (8 + 4 * i + 1) nan)
    → c ≡ dibit (get_or xs (8 + 4 * i + 2) nan) → d ≡ dibit (get_or xs (8 + 4 * i + 3) nan) → 64 * a + 16 * b + 4 * c + d ≡ byte_of (drop (8 * i) (pairs_of (drop 8 xs)))
byte_of_four xs i long h a b c d ea eb ec ed =
    let at : (m k j n : ℕ) → k < 4 → j < 2 → 8 * i + m ≡ 2 * (4 * i + k) + j → 8 + (4 * i + k) ≡ n
    → bit (get_or (pairs_of (drop 8 xs)) (8 * i + m) false) ≡ bit (get_or (pair_of (get_or xs n nan)) j false) =
    λ m k j n hk hj e q.
    ap (λ (p : ℕ). bit (get_or (pairs_of (drop 8 xs)) p false)) e
    ∙ ap bit (pair_at (drop 8 xs) (4 * i + k) j (omega (arith, length-drop 8 xs)) hj)
    ∙ ap (λ (x : Float). bit (get_or (pair_of x) j false)) (get_or-drop 8 xs (4 * i + k) nan ∙ ap (λ (p : ℕ). get_or xs p nan) q) in
    let whole = byte_is (pairs_of (drop 8 xs)) (8 * i) _ _ _ _ _ _ _ _ refl refl refl refl refl refl refl refl in
    omega (
      arith,
      whole,
      ap (λ (p : ℕ). bit (get_or (pairs_of (drop 8 xs)) p false)) (add-zero (8 * i)),
      at 0 0 0 (8 + 4 * i) (omega arith) (omega arith) (omega arith) (omega arith),
      at 1 0 1 (8 + 4 * i) (omega arith) (omega arith) (omega arith) (omega arith),
      at 2 1 0 (8 + 4 * i + 1) (omega arith) (omega arith) (omega arith) (omega arith),
      at 3 1 1 (8 + 4 * i + 1) (omega arith) (omega arith) (omega arith) (omega arith),
      at 4 2 0 (8 + 4 * i + 2) (omega arith) (omega arith) (omega arith) (omega arith),
      at 5 2 1 (8 + 4 * i + 2) (omega arith) (omega arith) (omega arith) (omega arith),
      at 6 3 0 (8 + 4 * i + 3) (omega arith) (omega arith) (omega arith) (omega arith),
      at 7 3 1 (8 + 4 * i + 3) (omega arith) (omega arith) (omega arith) (omega arith),
    )

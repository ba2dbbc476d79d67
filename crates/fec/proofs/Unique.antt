-- There is exactly one nearest word, whatever the puncturing, the length and the bits received, and `nearest` is it. Assumes nothing.
use mathlib.Core.Path.{◌≡◌, refl, sym, ap, ◌∙◌, subst}
use mathlib.Core.Bool.{Bool, true, false, not, cond}
use mathlib.Core.List.{List, [], ◌∷◌, reverse, reverse_aux, reverse-reverse}
use Prim.Native.Nat.{ℕ, zero, suc, ◌+◌, ◌≤◌, ◌<◌}
use native.Mathlib.Nat.{le_antisymm}
use native.Mathlib.Omega.{arith}
use lib.ListN.{length, length-reverse}
use lib.Dec.{T, ltb}
use borrow.Author.Tests.{ltb-true, ltb-false}
use Rattle.fec.specs.declared.Sends.{Sends}
use Rattle.fec.specs.Nearest.{distance, leads, comes, Nearest, nearer, best, nearest}
use Rattle.fec.proofs.Order.{by_same, one_order}

each_bit : (P : Bool → Type 0) (one : Bool) → P one → P (not one) → (x : Bool) → P x
each_bit P true a b true = a
each_bit P true a b false = b
each_bit P false a b true = b
each_bit P false a b false = a

by_first : (one rest : Bool) → T (leads one one (not one) rest)
by_first true rest = tt
by_first false rest = tt

-- ---- the best of all words, for any distance
module _ (d : List Bool → ℕ) where
  -- w is the best of all words of m bits and then s; `front` has its m bits, the latest first
  record Best (k m : ℕ) (s w : List Bool) : Type 0 where
    front : List Bool
    long : length front ≡ m
    whole : w ≡ reverse_aux front s
    least : (r : List Bool) → length r ≡ m → d w ≤ d (reverse_aux r s)
    first : (r : List Bool) → length r ≡ m → d (reverse_aux r s) ≡ d w → T (comes k front r)

  -- the best that end in each of two bits, of which `one` comes first
  module _ (k j m : ℕ) (one : Bool) (s u v : List Bool)
      (order : (x y : Bool) (a b : List Bool) → T (leads one x y (comes j a b)) → T (comes k (x ∷ a) (y ∷ b)))
      (Bu : Best j m (one ∷ s) u) (Bv : Best j m (not one ∷ s) v) where
    -- what is known of the words that end in each of the two bits, one after the other
    taken : (b : Bool) (w : List Bool) (B : Best j m (b ∷ s) w)
        → ((r : List Bool) → length r ≡ m → d w ≤ d (reverse_aux r (one ∷ s))) → ((r : List Bool) → length r ≡ m → d w ≤ d (reverse_aux r (not one ∷ s)))
        → ((r : List Bool) → length r ≡ m → d (reverse_aux r (one ∷ s)) ≡ d w → T (comes k (b ∷ B.front) (one ∷ r)))
        → ((r : List Bool) → length r ≡ m → d (reverse_aux r (not one ∷ s)) ≡ d w → T (comes k (b ∷ B.front) (not one ∷ r)))
        → Best k (suc m) s w
    taken b w B least₁ least₂ first₁ first₂ = record { front = b ∷ B.front; long = ap suc B.long; whole = B.whole; least = least; first = first }
      where
        least : (r : List Bool) → length r ≡ suc m → d w ≤ d (reverse_aux r s)
        least [] e = absurd (omega arith)
        least (x ∷ r) e = each_bit (λ (x : Bool). d w ≤ d (reverse_aux r (x ∷ s))) one (least₁ r (omega arith)) (least₂ r (omega arith)) x

        first : (r : List Bool) → length r ≡ suc m → d (reverse_aux r s) ≡ d w → T (comes k (b ∷ B.front) r)
        first [] e q = absurd (omega arith)
        first (x ∷ r) e q =
            each_bit (λ (x : Bool). d (reverse_aux r (x ∷ s)) ≡ d w → T (comes k (b ∷ B.front) (x ∷ r))) one
            (first₁ r (omega arith)) (first₂ r (omega arith)) x q

    joined : Best k (suc m) s (nearer d u v)
    unfolding nearer
    joined = go (ltb (d v) (d u)) refl
      where
        go : (b : Bool) → ltb (d v) (d u) ≡ b → Best k (suc m) s (cond b v u)
        go true e =
            let h : d v < d u = ltb-true (d v) (d u) e in
            taken (not one) v Bv (λ r l. omega (arith, Bu.least r l)) Bv.least
            (λ r l q. absurd (omega (arith, Bu.least r l)))
            (λ r l q. order (not one) (not one) Bv.front r (by_same one (not one) (not one) (comes j Bv.front r) refl (Bv.first r l q)))
        go false e =
            let h : d u ≤ d v = ltb-false (d v) (d u) e in
            taken one u Bu Bu.least (λ r l. omega (arith, Bv.least r l))
            (λ r l q. order one one Bu.front r (by_same one one one (comes j Bu.front r) refl (Bu.first r l q)))
            (λ r l q. order one (not one) Bu.front r (by_first one (comes j Bu.front r)))

  best_is : (k m : ℕ) (s : List Bool) → Best k m s (best d k m s)
  unfolding best comes
  best_is k zero s = record { front = []; long = refl; whole = refl; least = least; first = λ r e q. tt }
    where
      least : (r : List Bool) → length r ≡ 0 → d s ≤ d (reverse_aux r s)
      least [] e = omega arith
      least (x ∷ r) e = absurd (omega arith)
  best_is (suc k) (suc m) s =
      joined (suc k) k m false s (best d k m (false ∷ s)) (best d k m (true ∷ s)) (λ x y a b t. t) (best_is k m (false ∷ s)) (best_is k m (true ∷ s))
  best_is zero (suc m) s =
      joined zero zero m true s (best d zero m (true ∷ s)) (best d zero m (false ∷ s)) (λ x y a b t. t) (best_is zero m (true ∷ s)) (best_is zero m (false ∷ s))

-- ---- the nearest word
module _ (p : ℕ → Sends) (n : ℕ) (rx : List Bool) where
  one_nearest : (w v : List Bool) → Nearest p n rx w → Nearest p n rx v → w ≡ v
  one_nearest w v a b =
      let d : distance p rx v ≡ distance p rx w = le_antisymm (b.least w a.long) (a.least v b.long) in
      sym (reverse-reverse w)
      ∙ ap reverse
      (one_order 5 (reverse w) (reverse v) (length-reverse w ∙ a.long ∙ sym b.long ∙ sym (length-reverse v)) (a.earliest v b.long d)
      (b.earliest w a.long (sym d)))
      ∙ reverse-reverse v

  pub nearest_is : Nearest p n rx (nearest p n rx)
  unfolding nearest
  nearest_is =
      let B = best_is (distance p rx) 5 (n + 4) [] in
      record {
        long = ap length B.whole ∙ length-reverse B.front ∙ B.long;
        least = λ v e. subst (λ (u : List Bool). distance p rx (nearest p n rx) ≤ distance p rx u) (reverse-reverse v) (B.least (reverse v) (length-reverse v ∙ e));
        earliest = λ v e q.
            subst (λ (u : List Bool). T (comes 5 u (reverse v))) (sym (reverse-reverse B.front) ∙ ap reverse (sym B.whole))
            (B.first (reverse v) (length-reverse v ∙ e) (ap (distance p rx) (reverse-reverse v) ∙ q));
      }

  pub only_nearest : (w : List Bool) → Nearest p n rx w → nearest p n rx ≡ w
  only_nearest w h = one_nearest (nearest p n rx) w nearest_is h

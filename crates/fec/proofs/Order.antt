-- The order among words, as a reader would check it, and that it is one: of two words each comes first only where they are one. Assumes nothing.
use mathlib.Core.Path.{◌≡◌, refl, sym, ap, ap₂, ◌∙◌}
use mathlib.Core.Bool.{Bool, true, false, true≢false, false≢true}
use mathlib.Core.List.{List, [], ◌∷◌, ◌++◌, reverse, reverse-cons, reverse-append, append_assoc}
use Prim.Native.Nat.{ℕ, zero, suc, ◌+◌, ◌-◌, ◌≤◌, ◌<◌}
use native.Mathlib.Omega.{arith}
use lib.Dec.{T}
use lib.ListN.{length, take, drop, get_or, length-reverse, length-drop, take-append-drop}
use lib.Seq.{drop-cons, ext_get_or, get_or-drop}
use Rattle.fec.specs.Nearest.{leads, comes, ahead}

pub by_same : (one x y rest : Bool) → x ≡ y → T rest → T (leads one x y rest)
by_same one true true rest e t = t
by_same one false false rest e t = t
by_same one true false rest e t = absurd (true≢false e)
by_same one false true rest e t = absurd (false≢true e)

pub comes_self : (k : ℕ) (u : List Bool) → T (comes k u u)
unfolding comes
comes_self k [] = tt
comes_self zero (x ∷ u) = by_same true x x (comes zero u u) refl (comes_self zero u)
comes_self (suc k) (x ∷ u) = by_same false x x (comes k u u) refl (comes_self k u)

-- two words that each come before the other are one
pub one_order : (k : ℕ) (u v : List Bool) → length u ≡ length v → T (comes k u v) → T (comes k v u) → u ≡ v
unfolding comes
one_order k [] [] e s t = refl
one_order k [] (y ∷ v) e s t = absurd (omega arith)
one_order k (x ∷ u) [] e s t = absurd (omega arith)
one_order zero (true ∷ u) (true ∷ v) e s t = ap {B = List Bool} (λ l. true ∷ l) (one_order zero u v (omega arith) s t)
one_order zero (false ∷ u) (false ∷ v) e s t = ap {B = List Bool} (λ l. false ∷ l) (one_order zero u v (omega arith) s t)
one_order zero (true ∷ u) (false ∷ v) e s t = absurd t
one_order zero (false ∷ u) (true ∷ v) e s t = absurd s
one_order (suc k) (true ∷ u) (true ∷ v) e s t = ap {B = List Bool} (λ l. true ∷ l) (one_order k u v (omega arith) s t)
one_order (suc k) (false ∷ u) (false ∷ v) e s t = ap {B = List Bool} (λ l. false ∷ l) (one_order k u v (omega arith) s t)
one_order (suc k) (true ∷ u) (false ∷ v) e s t = absurd s
one_order (suc k) (false ∷ u) (true ∷ v) e s t = absurd t

-- ---- the two halves

-- the first place that differs decides
decided_low : (k : ℕ) (l u v : List Bool) → length l < k → (comes k (l ++ (false ∷ u)) (l ++ (true ∷ v)) ≡ true) × (comes k (l ++ (true ∷ v)) (l ++ (false ∷ u)) ≡ false)
unfolding comes
decided_low zero l u v h = absurd (omega arith)
decided_low (suc k) [] u v h = (refl, refl)
decided_low (suc k) (true ∷ l) u v h = decided_low k l u v (omega arith)
decided_low (suc k) (false ∷ l) u v h = decided_low k l u v (omega arith)

decided_high : (k : ℕ) (l u v : List Bool) → k ≤ length l → (comes k (l ++ (true ∷ u)) (l ++ (false ∷ v)) ≡ true) × (comes k (l ++ (false ∷ v)) (l ++ (true ∷ u)) ≡ false)
unfolding comes
decided_high zero [] u v h = (refl, refl)
decided_high zero (true ∷ l) u v h = decided_high zero l u v (omega arith)
decided_high zero (false ∷ l) u v h = decided_high zero l u v (omega arith)
decided_high (suc k) [] u v h = absurd (omega arith)
decided_high (suc k) (true ∷ l) u v h = decided_high k l u v (omega arith)
decided_high (suc k) (false ∷ l) u v h = decided_high k l u v (omega arith)

-- two words of m bits that agree in all places after i
module _ (m i : ℕ) (w v : List Bool) (long-w : length w ≡ m) (long-v : length v ≡ m) (within : i < m)
    (later : (j : ℕ) → i < j → j < m → get_or w j false ≡ get_or v j false) where
  -- what comes after place i, the last bit first
  tail : List Bool
  tail = reverse (drop (suc i) w)

  turned : (u : List Bool) (x : Bool) → length u ≡ m → get_or u i false ≡ x → drop (suc i) u ≡ drop (suc i) w → reverse u ≡ tail ++ (x ∷ reverse (take i u))
  unfolding tail
  turned u x l e d =
      let parts : u ≡ take i u ++ (x ∷ drop (suc i) w) =
      sym (take-append-drop i u) ∙ ap (λ (r : List Bool). take i u ++ r) (drop-cons u i false (omega arith) ∙ ap₂ {C = List Bool} (λ (b : Bool) (r : List Bool). b ∷ r) e d) in
      ap reverse parts ∙ reverse-append (take i u) (x ∷ drop (suc i) w)
      ∙ ap (λ (r : List Bool). r ++ reverse (take i u)) (reverse-cons x (drop (suc i) w))
      ∙ append_assoc (reverse (drop (suc i) w)) (x ∷ []) (reverse (take i u))

  same_later : drop (suc i) v ≡ drop (suc i) w
  same_later =
      ext_get_or false (drop (suc i) v) (drop (suc i) w) (omega (arith, length-drop (suc i) v, length-drop (suc i) w))
      (λ k h.
      get_or-drop (suc i) v k false
      ∙ sym (later (suc i + k) (omega arith) (omega (arith, length-drop (suc i) v))) ∙ sym (get_or-drop (suc i) w k false))

  length-tail : length tail ≡ m - suc i
  unfolding tail
  length-tail = length-reverse (drop (suc i) w) ∙ length-drop (suc i) w ∙ ap (λ (n : ℕ). n - suc i) long-w

  -- in the last five places 0 comes before 1
  pub zero_first : m ≤ i + 5 → get_or w i false ≡ false → get_or v i false ≡ true → (ahead w v ≡ true) × (ahead v w ≡ false)
  zero_first h ew ev =
      rw (turned w false long-w ew refl, turned v true long-v ev same_later)
      (decided_low 5 tail (reverse (take i w)) (reverse (take i v)) (omega (arith, length-tail)))

  -- in all earlier places 1 comes before 0
  pub one_first : i + 5 < m → get_or w i false ≡ true → get_or v i false ≡ false → (ahead w v ≡ true) × (ahead v w ≡ false)
  one_first h ew ev =
      rw (turned w true long-w ew refl, turned v false long-v ev same_later)
      (decided_high 5 tail (reverse (take i w)) (reverse (take i v)) (omega (arith, length-tail)))

-- The loop that traces the word back: what is traced still, and then what is written, is the word. Assumes nothing.
use mathlib.Core.Path.{◌≡◌, refl, sym, ap, ap₂, ◌∙◌, subst}
use mathlib.Core.Bool.{Bool, true, false, cond}
use mathlib.Core.List.{List, [], ◌∷◌, ◌++◌, reverse, reverse-cons, append_assoc}
use Prim.Native.Nat.{ℕ, suc, ◌+◌, ◌*◌, ◌-◌, ◌%◌, ◌≤◌, ◌<◌, min}
use native.Mathlib.Omega.{arith}
use native.Mathlib.Numerals.{add-one}
use lib.Dec.{ltb}
use lib.ListN.{length, get_or, take, drop, set, length-take, length-set, drop_of_length-le}
use lib.Seq.{drop-cons, take-set-lt, drop-set-lt, get_or-set_same, get_or-take}
use borrow.Author.Tests.{ltb-true, ltb-false, lt-ltb, le-ltb}
use Rattle.fec.specs.Search.{to, row, choose, back, trace, input, Rows as Table, source, Traced}
use Rattle.fec.proofs.Viterbi.{row_is, to_suc, choose_least}

-- a store just before the places that are written
tail_set : (w : List Bool) (m t : ℕ) (v : Bool) → t < m → m ≤ length w → drop t (take m (set w t v)) ≡ v ∷ drop (t + 1) (take m w)
tail_set w m t v h k =
    rw (add-one t)
    (drop-cons (take m (set w t v)) t false (omega (arith, length-take m (set w t v), length-set w t v))
    ∙ ap₂ {C = List Bool} (λ (x : Bool) (l : List Bool). x ∷ l)
    (get_or-take m (set w t v) t false h ∙ get_or-set_same w t v false (omega arith))
    (ap (drop (suc t)) (take-set-lt m w t v h) ∙ drop-set-lt (suc t) (take m w) t v (omega arith)))

one_more : (b : Bool) (l w : List Bool) → reverse (b ∷ l) ++ w ≡ reverse l ++ (b ∷ w)
one_more b l w = ap (λ (u : List Bool). u ++ w) (reverse-cons b l) ∙ append_assoc (reverse l) (b ∷ []) w

-- the choice by a row of costs of at most 255 is the choice by the costs, where the lesser is below 255
same_choice : (σ : ℕ → ℕ → ℕ) (r : List ℕ) (t s : ℕ) → s < 16 → ((i : ℕ) → i < 32 → get_or r i 0 ≡ min 255 (row σ t i)) → to σ (suc t) s < 255 → source r s ≡ choose σ t s
unfolding choose
same_choice σ r t s l of-r small = ap (λ (b : Bool). cond b (2 * s) (2 * s + 1)) (go (ltb (row σ t (2 * s)) (row σ t (2 * s + 1))) refl)
  where
    a : get_or r (2 * s) 0 ≡ min 255 (row σ t (2 * s))
    a = of-r (2 * s) (omega arith)

    b : get_or r (2 * s + 1) 0 ≡ min 255 (row σ t (2 * s + 1))
    b = of-r (2 * s + 1) (omega arith)

    go : (x : Bool) → ltb (row σ t (2 * s)) (row σ t (2 * s + 1)) ≡ x → ltb (get_or r (2 * s) 0) (get_or r (2 * s + 1) 0) ≡ ltb (row σ t (2 * s)) (row σ t (2 * s + 1))
    go true e = lt-ltb (get_or r (2 * s) 0) (get_or r (2 * s + 1) 0) (omega (arith, a, b, ltb-true (row σ t (2 * s)) (row σ t (2 * s + 1)) e, to_suc σ t s)) ∙ sym e
    go false e = le-ltb (get_or r (2 * s) 0) (get_or r (2 * s + 1) 0) (omega (arith, a, b, ltb-false (row σ t (2 * s)) (row σ t (2 * s + 1)) e, to_suc σ t s)) ∙ sym e

module _ (table : List (List ℕ)) (n last : ℕ) where
  -- before the transition i of step t, and from place t on in the word
  abbrev pub Tracing : List Bool → ℕ → ℕ → Type 0
  Tracing word t i =
      (σ : ℕ → ℕ → ℕ) → Table σ table (n + 4) → row σ (n + 3) last < 255
      → (row σ t i < 255) × (reverse (trace σ (n + 3) last) ≡ reverse (back σ t (i % 16)) ++ drop t (take (n + 4) word))

  pub tracing_start : n ≤ 240 → (w : List Bool) → length w ≡ 244 → Tracing (set w (n + 3) (ltb 15 last)) (n + 3) last
  tracing_start short w k σ tab small = (
    small,
    unfold trace input in
        let none : drop (n + 3 + 1) (take (n + 4) w) ≡ [] = drop_of_length-le (take (n + 4) w) {i = n + 3 + 1} (omega (arith, length-take (n + 4) w)) in
        let tail : drop (n + 3) (take (n + 4) (set w (n + 3) (ltb 15 last))) ≡ ltb 15 last ∷ [] =
        tail_set w (n + 4) (n + 3) (ltb 15 last) (omega arith) (omega arith) ∙ ap (λ (l : List Bool). ltb 15 last ∷ l) none in
        reverse-cons (ltb 15 last) (back σ (n + 3) (last % 16)) ∙ ap (λ (l : List Bool). reverse (back σ (n + 3) (last % 16)) ++ l) (sym tail),
  )

  step_back : n ≤ 240 → (t i j : ℕ) (w : List Bool) → t < n + 3 → length w ≡ 244 → j ≡ source (get_or table t []) (i % 16) → Tracing w (t + 1) i → Tracing (set w t (ltb 15 j)) t j
  step_back short t i j w lt k e before σ tab small =
      let b = before σ tab small in
      let low : to σ (suc t) (i % 16) < 255 = rw (add-one t) at (to_small (t + 1) b.0) in
      let c : j ≡ choose σ t (i % 16) = e ∙ same_choice σ (get_or table t []) t (i % 16) (omega arith) (tab t (omega arith)) low in (
        omega (arith, ap (row σ t) c, choose_least σ t (i % 16)),
        b.1
            ∙ ap (λ (u : List Bool). reverse u ++ drop (t + 1) (take (n + 4) w)) (back_at (t + 1) (add-one t) c)
            ∙ one_more (ltb 15 j) (back σ t (j % 16)) (drop (t + 1) (take (n + 4) w))
            ∙ ap (λ (l : List Bool). reverse (back σ t (j % 16)) ++ l) (sym (tail_set w (n + 4) t (ltb 15 j) (omega arith) (omega arith))),
      )
    where
      to_small : (u : ℕ) → row σ u i < 255 → to σ u (i % 16) < 255
      to_small u q = omega (arith, row_is σ u i)

      back_at : (u : ℕ) → u ≡ suc t → j ≡ choose σ t (i % 16) → back σ u (i % 16) ≡ ltb 15 j ∷ back σ t (j % 16)
      back_at u q c = ap (λ (x : ℕ). back σ x (i % 16)) q ∙ unfold back input in ap (λ (x : ℕ). ltb 15 x ∷ back σ t (x % 16)) (sym c)

  pub tracing_step : n ≤ 240 → (u i j : ℕ) (w : List Bool) → 0 < u → u ≤ n + 3 → length w ≡ 244 → j ≡ source (get_or table (u - 1) []) (i % 16)
      → Tracing w u i → Tracing (set w (u - 1) (ltb 15 j)) (u - 1) j
  tracing_step short u i j w pos le k e before =
      let one : u ≡ u - 1 + 1 = omega arith in
      step_back short (u - 1) i j w (omega arith) k e (subst (λ (u : ℕ). Tracing w u i) one before)

  pub tracing_end : (u i : ℕ) (w : List Bool) → u ≡ 0 → Tracing w u i → Traced table n last w
  tracing_end u i w z before σ tab small = sym ((subst (λ (u : ℕ). Tracing w u i) z before σ tab small).1 ∙ unfold back in refl)

-- The distance of a word is the cost of its steps, so what the last row of the table decides is what reading finds. Assumes nothing.
use mathlib.Core.Path.{◌≡◌, refl, sym, ap, ◌∙◌, subst}
use mathlib.Core.Bool.{Bool, false}
use mathlib.Core.List.{List, [], ◌∷◌, ◌++◌, reverse, reverse_aux, reverse-reverse}
use Rattle.std.specs.Prelude.{Option, Some, None, option_map}
use Prim.Native.Nat.{ℕ, suc, ◌+◌, ◌*◌, ◌/◌, ◌≤◌, ◌<◌, min}
use native.Mathlib.Omega.{arith}
use native.Mathlib.Nat.{zero-add, add-zero}
use lib.ListN.{length, take, drop, get_or, length-reverse}
use lib.Seq.{drop-drop, take-take}
use lib.Dec.{T}
use Rattle.bits.specs.Bits.{bit, odd}
use Rattle.bits.proofs.Back.{bit-lt, odd-bit}
use Rattle.fec.specs.declared.Sends.{Sends}
use Rattle.fec.specs.Code.{◌⊕◌, sent, coded, code}
use Rattle.fec.specs.Nearest.{differ, distance, comes, nearest, read_of}
use Rattle.fec.specs.Search.{st, ix, cost, row, trace, out1, out2, sofar, Lowest, costs_at}
use Rattle.fec.proofs.Unique.{nearest_is, only_nearest}
use Rattle.fec.proofs.Codes.{length-sent}
use Rattle.fec.proofs.Answers.{near, far}
use Rattle.fec.proofs.Viterbi.{FirstLeast, no_less, trace_long, trace_costs, trace_earliest}

-- ---- the coded bits of a transition
st_bits : (r : List Bool) → st r ≡ 8 * bit (get_or r 0 false) + 4 * bit (get_or r 1 false) + 2 * bit (get_or r 2 false) + bit (get_or r 3 false)
unfolding st
st_bits [] = refl
st_bits (a ∷ r) = omega (arith, st_bits r, bit-lt (get_or r 0 false), bit-lt (get_or r 1 false), bit-lt (get_or r 2 false), bit-lt (get_or r 3 false))

module _ (b : Bool) (r : List Bool) where
  ix_bits : (odd (ix b r / 16) ≡ b) × (odd (ix b r / 8) ≡ get_or r 0 false) × (odd (ix b r / 4) ≡ get_or r 1 false) × (odd (ix b r / 2) ≡ get_or r 2 false) × (odd (ix b r) ≡ get_or r 3 false)
  ix_bits =
      let e = st_bits r in
      let h = bit-lt b in
      let h0 = bit-lt (get_or r 0 false) in
      let h1 = bit-lt (get_or r 1 false) in
      let h2 = bit-lt (get_or r 2 false) in
      let h3 = bit-lt (get_or r 3 false) in (
        odd-bit (ix b r / 16) b (omega arith),
        odd-bit (ix b r / 8) (get_or r 0 false) (omega arith),
        odd-bit (ix b r / 4) (get_or r 1 false) (omega arith),
        odd-bit (ix b r / 2) (get_or r 2 false) (omega arith),
        odd-bit (ix b r) (get_or r 3 false) (omega arith),
      )

  out1-ix : out1 (ix b r) ≡ b ⊕ get_or r 2 false ⊕ get_or r 3 false
  unfolding out1
  out1-ix = simp (ix_bits.0, ix_bits.3, ix_bits.4)

  out2-ix : out2 (ix b r) ≡ b ⊕ get_or r 0 false ⊕ get_or r 1 false ⊕ get_or r 3 false
  unfolding out2
  out2-ix = simp (ix_bits.0, ix_bits.1, ix_bits.2, ix_bits.4)

-- ---- the distance step by step
differ_nil : (xs : List Bool) → differ xs [] ≡ 0
unfolding differ
differ_nil [] = refl
differ_nil (x ∷ xs) = refl

differ-append : (xs ys zs : List Bool) → differ (xs ++ ys) zs ≡ differ xs zs + differ ys (drop (length xs) zs)
unfolding differ
differ-append [] ys zs = sym (zero-add _)
differ-append (x ∷ xs) ys [] = omega (arith, differ_nil ys)
differ-append (x ∷ xs) ys (z ∷ zs) = omega (arith, differ-append xs ys zs)

module _ (p : ℕ → Sends) (rx : List Bool) where
  abbrev step : ℕ → ℕ → ℕ
  step t i = costs_at p rx t i

  walk : (w r : List Bool) → differ (coded p (length r) (get_or r 0 false) (get_or r 1 false) (get_or r 2 false) (get_or r 3 false) w) (drop (sofar p (length r)) rx) + cost step r ≡ cost step (reverse_aux w r)
  unfolding coded cost costs_at
  walk [] r = unfold differ in zero-add _
  walk (b ∷ w) r =
      let s = sent (p (length r)) (b ⊕ get_or r 2 false ⊕ get_or r 3 false) (b ⊕ get_or r 0 false ⊕ get_or r 1 false ⊕ get_or r 3 false) in
      let c = coded p (suc (length r)) b (get_or r 0 false) (get_or r 1 false) (get_or r 2 false) w in
      let d = drop (sofar p (length r)) rx in
      let e : differ (sent (p (length r)) (out1 (ix b r)) (out2 (ix b r))) d ≡ differ s d = simp (out1-ix b r, out2-ix b r) in
      let k : drop (length s) d ≡ drop (sofar p (suc (length r))) rx =
      drop-drop (length s) (sofar p (length r)) rx ∙ unfold sofar in ap (λ (m : ℕ). drop (sofar p (length r) + m) rx) (length-sent (p (length r)) _ _) in
      omega (arith, differ-append s c d, ap (differ c) k, e, walk w (b ∷ r))

  pub distance-cost : (w : List Bool) → distance p rx w ≡ cost step (reverse w)
  unfolding distance code
  distance-cost w = unfold sofar cost in sym (add-zero _) ∙ walk w []

  -- ---- what the last row of the table decides
  module _ (n : ℕ) where
    none_nearer : (m : ℕ) → ((j : ℕ) → j < 32 → m ≤ row step (n + 3) j) → (v : List Bool) → length v ≡ n + 4 → m ≤ distance p rx v
    none_nearer m f v e = omega (arith, distance-cost v, no_less step (n + 3) m f (reverse v) (length-reverse v ∙ e ∙ omega arith))

    -- the word traced back from the first of the least transitions is the nearest
    traced_nearest : (i : ℕ) → FirstLeast step (n + 3) i → row step (n + 3) i < 255
        → (nearest p n rx ≡ reverse (trace step (n + 3) i)) × (distance p rx (nearest p n rx) ≡ row step (n + 3) i)
    traced_nearest i f h =
        let w = trace step (n + 3) i in
        let d : distance p rx (reverse w) ≡ row step (n + 3) i = distance-cost (reverse w) ∙ ap (cost step) (reverse-reverse w) ∙ trace_costs step (n + 3) i f h in
        let e : nearest p n rx ≡ reverse w =
        only_nearest p n rx (reverse w) (
        record {
          long = length-reverse w ∙ trace_long step (n + 3) i f h ∙ omega arith;
          least = λ v e. omega (arith, none_nearer (row step (n + 3) i) f.least v e);
          earliest = λ v e q.
              subst (λ (u : List Bool). T (comes 5 u (reverse v))) (sym (reverse-reverse w))
              (trace_earliest step (n + 3) i f h (reverse v) (length-reverse v ∙ e ∙ omega arith) (omega (arith, distance-cost v)));
        }
        ) in (e, ap (distance p rx) e ∙ d)

    module _ (limit i : ℕ) (r : List ℕ) (of-r : (j : ℕ) → j < 32 → get_or r j 0 ≡ min 255 (row step (n + 3) j)) (low : Lowest r i) where
      pub refuses : limit < get_or r i 0 → None ≡ read_of p n limit rx
      refuses h =
          sym (far p n limit rx (none_nearer (suc limit) (λ j l. omega (arith, low.least j l, of-r j l)) (nearest p n rx) (nearest_is p n rx).long))

      module _ (within : get_or r i 0 ≤ limit) (small : limit < 255) where
        pub below_255 : row step (n + 3) i < 255
        below_255 = omega (arith, of-r i low.below)

        first_least : FirstLeast step (n + 3) i
        first_least =
            record {
              below = low.below;
              least = λ j l. omega (arith, low.least j l, of-r j l, of-r i low.below);
              earlier = λ j l. omega (arith, low.earlier j l, of-r j (omega (arith, low.below)), of-r i low.below);
            }

        pub answers : (word : List Bool) → take (n + 4) word ≡ reverse (trace step (n + 3) i) → option_map (take n) (Some word) ≡ read_of p n limit rx
        answers word e =
            let q = traced_nearest i first_least below_255 in
            ap {B = Option (List Bool)} Some (sym (take-take n (n + 4) word (omega arith)) ∙ ap (take n) (e ∙ sym q.0))
            ∙ sym (near p n limit rx (omega (arith, of-r i low.below, q.1)))

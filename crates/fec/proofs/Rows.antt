-- The loops of the search: a row of least costs from the row before, the table of all rows, the first of the least. Assumes nothing.
use mathlib.Core.Path.{◌≡◌, refl, ap, ap₂, ◌∙◌, subst}
use mathlib.Core.Bool.{Bool, true, false}
use mathlib.Core.List.{List, [], ◌∷◌}
use Prim.Native.Nat.{ℕ, ◌+◌, ◌*◌, ◌-◌, ◌%◌, ◌≤◌, ◌<◌, min}
use native.Mathlib.Decide.{dec_lt}
use native.Mathlib.Omega.{arith}
use native.Mathlib.Numerals.{add-one}
use lib.Dec.{eqb, eqb→eq}
use lib.ListN.{length, get_or, drop, set, replicate, length-set}
use lib.Seq.{drop-cons, get_or-set_same, get_or-set_other}
use borrow.Author.Count.{below_more}
use Rattle.laws.proofs.Every.{every_at}
use Rattle.fec.specs.declared.Sends.{Sends}
use Rattle.fec.specs.declared.Sends.TheVariants.{Both, First, Second}
use Rattle.fec.specs.Code.{sent}
use Rattle.fec.specs.Nearest.{differ}
use Rattle.fec.specs.Search.{to, row, start, grown, Rows as Table, Lowest, out1, out2, count, sofar, costs_at, price, shelf}
use Rattle.fec.proofs.Codes.{sofar_suc}
use Rattle.fec.proofs.Viterbi.{row_is, to_suc}

-- ---- what is heard

one_heard : (rx : List Bool) (at : ℕ) → at < length rx → drop at rx ≡ get_or rx at false ∷ drop (at + 1) rx
one_heard rx at h = drop-cons rx at false h ∙ rw (add-one at)

heard : (e : Sends) (rx : List Bool) (at : ℕ) → at + count e ≤ length rx → (i : ℕ)
    → price e (get_or rx at false) (get_or rx (at + 1) false) i ≡ differ (sent e (out1 i) (out2 i)) (drop at rx)
unfolding differ
heard Both rx at h i = rw (one_heard rx at (omega arith), one_heard rx (at + 1) (omega arith))
heard First rx at h i = rw (one_heard rx at (omega arith))
heard Second rx at h i = rw (one_heard rx at (omega arith))

pub shelf-lt : (e : Sends) (x y : Bool) → shelf e x y < 8
shelf-lt Both true true = omega arith
shelf-lt Both true false = omega arith
shelf-lt Both false true = omega arith
shelf-lt Both false false = omega arith
shelf-lt First true y = omega arith
shelf-lt First false y = omega arith
shelf-lt Second true y = omega arith
shelf-lt Second false y = omega arith

-- eight rows, each the prices for one thing that can be received
pub shelved : (r₀ r₁ r₂ r₃ r₄ r₅ r₆ r₇ : List ℕ)
    → ((i : ℕ) → i < 32 → get_or r₀ i 0 ≡ price Both false false i) → ((i : ℕ) → i < 32 → get_or r₁ i 0 ≡ price Both false true i)
    → ((i : ℕ) → i < 32 → get_or r₂ i 0 ≡ price Both true false i) → ((i : ℕ) → i < 32 → get_or r₃ i 0 ≡ price Both true true i)
    → ((i : ℕ) → i < 32 → get_or r₄ i 0 ≡ price First false false i) → ((i : ℕ) → i < 32 → get_or r₅ i 0 ≡ price First true false i)
    → ((i : ℕ) → i < 32 → get_or r₆ i 0 ≡ price Second false false i) → ((i : ℕ) → i < 32 → get_or r₇ i 0 ≡ price Second true false i)
    → (e : Sends) (x y : Bool) (i : ℕ) → i < 32 → get_or (get_or (r₀ ∷ r₁ ∷ r₂ ∷ r₃ ∷ r₄ ∷ r₅ ∷ r₆ ∷ r₇ ∷ []) (shelf e x y) []) i 0 ≡ price e x y i
unfolding differ
shelved r₀ r₁ r₂ r₃ r₄ r₅ r₆ r₇ a b c d e f g h Both false false i l = a i l
shelved r₀ r₁ r₂ r₃ r₄ r₅ r₆ r₇ a b c d e f g h Both false true i l = b i l
shelved r₀ r₁ r₂ r₃ r₄ r₅ r₆ r₇ a b c d e f g h Both true false i l = c i l
shelved r₀ r₁ r₂ r₃ r₄ r₅ r₆ r₇ a b c d e f g h Both true true i l = d i l
shelved r₀ r₁ r₂ r₃ r₄ r₅ r₆ r₇ a b c d e f g h First false y i l = e i l
shelved r₀ r₁ r₂ r₃ r₄ r₅ r₆ r₇ a b c d e f g h First true y i l = f i l
shelved r₀ r₁ r₂ r₃ r₄ r₅ r₆ r₇ a b c d e f g h Second false y i l = g i l
shelved r₀ r₁ r₂ r₃ r₄ r₅ r₆ r₇ a b c d e f g h Second true y i l = h i l

-- ---- the rows

-- the row that a step starts from: the lesser of each two is the least cost to the state, at most 255
abbrev Reached : (ℕ → ℕ → ℕ) → List ℕ → ℕ → Type 0
Reached σ r t = (s : ℕ) → s < 16 → min (get_or r (2 * s) 0) (get_or r (2 * s + 1) 0) ≡ min 255 (to σ t s)

first_row : List ℕ
first_row = set (replicate 32 255) 0 0

start_test : ℕ → Bool
start_test s = eqb (min (get_or first_row (2 * s) 0) (get_or first_row (2 * s + 1) 0)) (min 255 (start s))

start_reached : (σ : ℕ → ℕ → ℕ) → Reached σ (set (replicate 32 255) 0 0) 0
unfolding to start start_test first_row
start_reached σ s h = eqb→eq _ _ (every_at start_test 16 s h tt)

module _ (σ : ℕ → ℕ → ℕ) (old cost new : List ℕ) (t : ℕ) (reached : Reached σ old t) (of-cost : (i : ℕ) → i < 32 → get_or cost i 0 ≡ σ t i)
    (of-new : (i : ℕ) → i < 32 → get_or new i 0 ≡ grown old cost i) where
  new_row : (i : ℕ) → i < 32 → get_or new i 0 ≡ min 255 (row σ t i)
  new_row i h = omega (arith, of-new i h, of-cost i h, reached (i % 16) (omega arith), row_is σ t i)

  new_reached : Reached σ new (t + 1)
  new_reached s h = rw (add-one t) (omega (arith, new_row (2 * s) (omega arith), new_row (2 * s + 1) (omega arith), to_suc σ t s))

  new-table : (table : List (List ℕ)) → t < length table → Table σ table t → Table σ (set table t new) (t + 1)
  new-table table h before =
      below_more (λ (u : ℕ). (i : ℕ) → i < 32 → get_or (get_or (set table t new) u []) i 0 ≡ min 255 (row σ u i)) t
      (λ u l i k. ap (λ (x : List ℕ). get_or x i 0) (get_or-set_other table t u new [] (λ q. omega arith)) ∙ before u l i k)
      (λ i k. ap (λ (x : List ℕ). get_or x i 0) (get_or-set_same table t new [] h) ∙ new_row i k)

-- ---- the loop over the states, which makes both halves of a row
pub record Halves (f : ℕ → ℕ) (l : List ℕ) (s : ℕ) : Type 0 where
  pub within : s ≤ 16
  pub long : length l ≡ 32
  pub low : (k : ℕ) → k < s → get_or l k 0 ≡ f k
  pub high : (k : ℕ) → k < s → get_or l (k + 16) 0 ≡ f (k + 16)

module _ (f : ℕ → ℕ) (l : List ℕ) where
  pub halves_none : length l ≡ 32 → Halves f l 0
  halves_none e = record { within = omega arith; long = e; low = λ k h. absurd (omega arith); high = λ k h. absurd (omega arith) }

  pub halves_more : (s v w : ℕ) → s < 16 → Halves f l s → v ≡ f s → w ≡ f (s + 16) → Halves f (set (set l s v) (s + 16) w) (s + 1)
  halves_more s v w h so e g =
      record {
        within = omega arith;
        long = length-set (set l s v) (s + 16) w ∙ length-set l s v ∙ so.long;
        low =
            below_more (λ (k : ℕ). get_or (set (set l s v) (s + 16) w) k 0 ≡ f k) s
            (λ k b. get_or-set_other (set l s v) (s + 16) k w 0 (λ q. omega arith) ∙ get_or-set_other l s k v 0 (λ q. omega arith) ∙ so.low k b)
            (get_or-set_other (set l s v) (s + 16) s w 0 (λ q. omega arith) ∙ get_or-set_same l s v 0 (omega (arith, so.long)) ∙ e);
        high =
            below_more (λ (k : ℕ). get_or (set (set l s v) (s + 16) w) (k + 16) 0 ≡ f (k + 16)) s
            (λ k b.
            get_or-set_other (set l s v) (s + 16) (k + 16) w 0 (λ q. omega arith) ∙ get_or-set_other l s (k + 16) v 0 (λ q. omega arith) ∙ so.high k b)
            (get_or-set_same (set l s v) (s + 16) w 0 (omega (arith, length-set l s v, so.long)) ∙ g);
      }

  pub halves_all : (s : ℕ) → 16 ≤ s → Halves f l s → (k : ℕ) → k < 32 → get_or l k 0 ≡ f k
  halves_all s e so k h = elim (dec_lt k 16) [
    | yes q ↦ so.low k (omega arith)
    | no n ↦ let t : k - 16 + 16 ≡ k = omega arith in subst (λ (i : ℕ). get_or l i 0 ≡ f i) t (so.high (k - 16) (omega arith))
  ]

-- what both halves hold: by the least costs to the states, the costs grown
module _ (old cost best : List ℕ) (of-best : (s : ℕ) → s < 16 → get_or best s 0 ≡ min (get_or old (2 * s) 0) (get_or old (2 * s + 1) 0)) where
  pub grown_low : (s : ℕ) → s < 16 → min (get_or best s 0 + get_or cost s 0) 255 ≡ grown old cost s
  grown_low s h = let e : s % 16 ≡ s = omega arith in rw e (omega (arith, of-best s h))

  pub grown_high : (s : ℕ) → s < 16 → min (get_or best s 0 + get_or cost (s + 16) 0) 255 ≡ grown old cost (s + 16)
  grown_high s h = let e : (s + 16) % 16 ≡ s = omega arith in rw e (omega (arith, of-best s h))

-- ---- the loop over all steps
pub record Walking (p : ℕ → Sends) (rx : List Bool) (table : List (List ℕ)) (r : List ℕ) (at t : ℕ) : Type 0 where
  pub place : at ≡ sofar p t
  pub long : length table ≡ 244
  reached : Reached (costs_at p rx) r t
  pub rows : Table (costs_at p rx) table t

module _ (p : ℕ → Sends) (rx : List Bool) where
  pub walking_start : (table : List (List ℕ)) → length table ≡ 244 → Walking p rx table (set (replicate 32 255) 0 0) 0 0
  unfolding sofar
  walking_start table l = record { place = refl; long = l; reached = start_reached (costs_at p rx); rows = λ t h. absurd (omega arith) }

  module _ (table : List (List ℕ)) (r : List ℕ) (at t : ℕ) (so : Walking p rx table r at t) (e : Sends) (of-e : e ≡ p t) where
    prices_step : at + count e ≤ length rx → (i : ℕ) → price e (get_or rx at false) (get_or rx (at + 1) false) i ≡ costs_at p rx t i
    unfolding costs_at
    prices_step h i = heard e rx at h i ∙ ap₂ {C = ℕ} (λ (e : Sends) (a : ℕ). differ (sent e (out1 i) (out2 i)) (drop a rx)) of-e so.place

    pub walking_step : t < 244 → at + count e ≤ length rx → (prices : List (List ℕ))
        → ((e : Sends) (x y : Bool) (i : ℕ) → i < 32 → get_or (get_or prices (shelf e x y) []) i 0 ≡ price e x y i)
        → (at' k : ℕ) → at' ≡ at + count e → k ≡ shelf e (get_or rx at false) (get_or rx (at + 1) false)
        → (new : List ℕ) → ((i : ℕ) → i < 32 → get_or new i 0 ≡ grown r (get_or prices k []) i) → Walking p rx (set table t new) new at' (t + 1)
    walking_step small h prices law at' k of_at of-k new of-new =
        let cost : (i : ℕ) → i < 32 → get_or (get_or prices k []) i 0 ≡ costs_at p rx t i =
        λ i l.
        ap (λ (k : ℕ). get_or (get_or prices k []) i 0) of-k ∙ law e (get_or rx at false) (get_or rx (at + 1) false) i l ∙ prices_step h i in
        record {
          place = omega (arith, of_at, so.place, ap count of-e, sofar_suc p t);
          long = length-set table t new ∙ so.long;
          reached = new_reached (costs_at p rx) r (get_or prices k []) new t so.reached cost of-new;
          rows = new-table (costs_at p rx) r (get_or prices k []) new t so.reached cost of-new table (omega (arith, so.long)) so.rows;
        }

-- ---- the first of the least, among the first i
pub record Lowering (r : List ℕ) (i best low : ℕ) : Type 0 where
  pub within : i ≤ 32
  pub below : best < 32
  pub is : low ≡ get_or r best 0
  pub least : (j : ℕ) → j < i → low ≤ get_or r j 0
  pub earlier : (j : ℕ) → j < best → low < get_or r j 0

module _ (r : List ℕ) where
  pub lowering_start : Lowering r 0 0 (get_or r 0 0)
  lowering_start =
      record {
        within = omega arith;
        below = omega arith;
        is = refl;
        least = λ j h. absurd (omega arith);
        earlier = λ j h. absurd (omega arith);
      }

  module _ (i best low : ℕ) (so : Lowering r i best low) (more : i < 32) where
    pub lowering_new : get_or r i 0 < low → Lowering r (i + 1) i (get_or r i 0)
    lowering_new h =
        record {
          within = omega arith;
          below = omega arith;
          is = refl;
          least = below_more (λ (j : ℕ). get_or r i 0 ≤ get_or r j 0) i (λ j l. omega (arith, so.least j l)) (omega arith);
          earlier = λ j l. omega (arith, so.least j l);
        }

    pub lowering_kept : low ≤ get_or r i 0 → Lowering r (i + 1) best low
    lowering_kept h =
        record {
          within = omega arith;
          below = so.below;
          is = so.is;
          least = below_more (λ (j : ℕ). low ≤ get_or r j 0) i so.least h;
          earlier = so.earlier;
        }

  pub lowering_at : (i best low best' low' : ℕ) → best' ≡ best → low' ≡ low → Lowering r i best low → Lowering r i best' low'
  lowering_at i best low best' low' e f so = rw (e, f) so

  pub lowering_end : (i best low : ℕ) → Lowering r i best low → 32 ≤ i → Lowest r best
  lowering_end i best low so h =
      record {
        below = so.below;
        least = λ j l. omega (arith, so.is, so.least j (omega arith));
        earlier = λ j l. omega (arith, so.is, so.earlier j l);
      }

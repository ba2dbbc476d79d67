-- `interleave::placed_bits` meets its contract: each turn puts the next bit at its place. Assumes nothing.
use mathlib.Core.Path.{◌≡◌, refl, sym, ap, ap₂, ◌∙◌}
use mathlib.Core.Bool.{Bool, true, false}
use mathlib.Core.List.{List, ◌∷◌}
use mathlib.Core.Logic.{⊎_elim}
use Prim.Native.Nat.{ℕ, ◌+◌, ◌≤◌, ◌<◌}
use native.Mathlib.Decide.{ℕ_discrete}
use native.Mathlib.Omega.{arith}
use native.Mathlib.Numerals.{add-one}
use lib.Dec.{eqb}
use lib.Arith.{lt_of_le-ne}
use lib.ListN.{length, get_or, set, drop}
use lib.Seq.{drop-cons}
use Rattle.std.proofs.lemmas.List.{length-drop}
use Rattle.laws.specs.Tabled.{tabled}
use Rattle.laws.proofs.Values.{tabled_at, length-tabled}
use Rattle.bits.specs.Bits.{bit, bits_of}
use Rattle.bits.specs.Reader.{as_read, next_of, place_after}
use Rattle.bits.proofs.Reading.{reads_on}
use Rattle.interleave.specs.Interleave.{mapped, placed, interleaved}
use Rattle.interleave.proofs.Twice.{mapped-lt}
use Rattle.interleave.proofs.placed_bits.Goals as goal

-- the first of the places from i on is i's place, and the others are those from i + 1 on
first_place : (i m : ℕ) (l : List ℕ) → i ≤ 368 → drop i (tabled mapped 368) ≡ m ∷ l → (i < 368) × (m ≡ mapped i) × (l ≡ drop (i + 1) (tabled mapped 368))
first_place i m l h e =
    let k : i < 368 = omega (arith, length-drop i (tabled mapped 368), length-tabled mapped 368, ap length e) in
    let f : m ∷ l ≡ get_or (tabled mapped 368) i 0 ∷ drop (i + 1) (tabled mapped 368) =
    sym e ∙ drop-cons (tabled mapped 368) i 0 (omega (arith, length-tabled mapped 368)) ∙ ap (λ (n : ℕ). get_or (tabled mapped 368) i 0 ∷ drop n (tabled mapped 368)) (sym (add-one i)) in
    (k, ap (λ (s : List ℕ). get_or s 0 0) f ∙ tabled_at mapped 368 i 0 k, ap (drop 1) f)

-- of 46 bytes a bit is read at each of 368 places, and the reader moves on
read : (p q : List ℕ) (i : ℕ) → q ≡ p → length p ≡ 46 → i < 368 → (next_of q i ≡ as_read (get_or (bits_of p) i false)) × (place_after q i ≡ i + 1)
read p q i s e h = let r = reads_on q i (omega (arith, ap length s)) (omega arith) in (r.0 ∙ ap (λ (b : List ℕ). as_read (get_or (bits_of b) i false)) s, r.1)

-- one turn: bit i is put at its place
turn : (l : List Bool) (i : ℕ) (new : List Bool) (at b : ℕ) → new ≡ placed l i → at ≡ mapped i → b ≡ bit (get_or l i false)
    → set new at (eqb b 1) ≡ placed l (i + 1)
unfolding placed
turn l i new at b e p q =
    ap₂ (λ (t : List Bool) (m : ℕ). set t m (eqb b 1)) e p ∙ ap (λ (v : Bool). set (placed l i) (mapped i) v) (ap (λ (x : ℕ). eqb x 1) q ∙ whole (get_or l i false))
    ∙ ap (placed l) (sym (add-one i))
  where
    whole : (v : Bool) → eqb (bit v) 1 ≡ v
    whole true = refl
    whole false = refl

pub loop-place-init : goal.loop-place-init
unfolding placed
loop-place-init c =
    let z = c.into_iter-place-iterator.ensures.into_iter_gives in
    let a : c.into_iter-place-iterator.result.a ≡ c.iter.result = ap (λ s. s.a) z ∙ c.zip-place-items.ensures.first in
    let b : c.into_iter-place-iterator.result.b ≡ c.new.result = ap (λ s. s.b) z ∙ c.zip-place-items.ensures.second in
    let i : c.into_iter-place-iterator.result.b.idx ≡ 0 = ap (λ s. s.idx) b ∙ c.new.ensures.1 in (
      omega (arith, i),
      ap (λ s. s.bits.now) b ∙ ap (λ r. r.now) c.new.ensures.0,
      ap (λ s. s.rest.now) a ∙ c.iter.ensures.rest ∙ c.mapping.ensures ∙ sym (ap (λ (n : ℕ). drop n (tabled mapped 368)) i),
      sym (ap (placed (bits_of c.args.payload.now)) i),
    )

pub bounds-new-place : goal.bounds-new-place
bounds-new-place c =
    let (small, same, left, done) = c.loop-place.invariant in
    let (places, bits) = c.in-Some.ensures.steps in
    let i = c.loop-place.place-iterator.b.idx in
    let f = first_place i c.in-Some.place.now c.next.new.self.a.rest.now small (sym left ∙ places) in
    omega (arith, f.1, mapped-lt i)

pub loop-place-preserved : goal.loop-place-preserved
loop-place-preserved c =
    let (small, same, left, done) = c.loop-place.invariant in
    let (places, (answer, lent, on)) = c.in-Some.ensures.steps in
    let p = c.args.payload.now in
    let i = c.loop-place.place-iterator.b.idx in
    let q = c.loop-place.place-iterator.b.bits.now in
    let f = first_place i c.in-Some.place.now c.next.new.self.a.rest.now small (sym left ∙ places) in
    let r = read p q i same c.requires f.0 in
    let next : c.next.new.self.b.idx ≡ i + 1 = on ∙ r.1 in
    let b : c.in-Some.bit ≡ bit (get_or (bits_of p) i false) = let e = answer ∙ r.0 in cc in (
      omega (arith, next, f.0),
      ap (λ r. r.now) lent ∙ same,
      f.2 ∙ ap (λ (n : ℕ). drop n (tabled mapped 368)) (sym next),
      turn (bits_of p) i c.loop-place.new c.in-Some.place.now c.in-Some.bit done f.1 b ∙ ap (placed (bits_of p)) (sym next),
    )

pub returns : goal.returns
unfolding interleaved
returns c =
    let (small, same, left, done) = c.loop-place.invariant in
    let p = c.args.payload.now in
    let i = c.loop-place.place-iterator.b.idx in
    let q = c.loop-place.place-iterator.b.bits.now in
    let some : (i < 368 → ⊥) =
    λ h. ⊎_elim (λ a. omega (arith, a.1.0, ap length left, length-drop i (tabled mapped 368), length-tabled mapped 368))
    (λ a. let e = a.1.0 ∙ (read p q i same c.requires h).0 in let z : ◌≡◌ {A = ℕ} 0 1 = cc in omega arith) c.in-None.ensures.steps in
    let whole : i ≡ 368 = go (ℕ_discrete i 368) (λ n. some (lt_of_le-ne small n)) in
    done ∙ ap (placed (bits_of p)) whole
  where
    go : {i : ℕ} → Dec (i ≡ 368) → ((i ≡ 368 → ⊥) → ⊥) → i ≡ 368
    go (yes p) n = p
    go (no m) n = absurd (n m)

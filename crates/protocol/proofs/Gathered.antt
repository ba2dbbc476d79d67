-- A collection after any sequence of parts: it holds the last part set at each counter, and assembles exactly when all six were set. Assumes nothing.
use mathlib.Core.Path.{◌≡◌, refl, sym, ap, ap₂, ◌∙◌}
use mathlib.Core.Bool.{Bool, true, false, cond, ◌&&◌}
use mathlib.Core.List.{List, [], ◌∷◌, ◌++◌, append_assoc, append-nil}
use Prim.Native.Nat.{ℕ, zero, suc, ◌+◌, ◌*◌, ◌<◌, ◌≤◌}
use native.Mathlib.Omega.{arith}
use native.Mathlib.Decide.{ℕ_discrete}
use lib.Dec.{eqb, leb}
use lib.ListN.{length, get_or, set, take, drop, length-set}
use lib.Seq.{get_or-set_same, get_or-set_other, drop-append-add, take-append-add}
use borrow.Author.Tests.{eqb-true, eq-eqb, ne_eqb, leb-true, le-leb}
use Rattle.refusal.specs.declared.Refusal.TheVariants.{WrongLength, OutOfRange}
use Rattle.refusal.specs.declared.Refusal.{Refusal}
use Rattle.std.specs.Prelude.{Some, None, Ok, Err, is_ok, ⊤}
use Rattle.laws.specs.Tabled.{values_from, tabled}
use Rattle.laws.proofs.Values.{length-tabled, tabled_at, tabled_only}
use Rattle.protocol.specs.declared.LichCollection.{LichCollection}
use Rattle.protocol.specs.Lich.{flags_set, with_part, after_set, assembled_of}
use Rattle.protocol.specs.Sequence.{Segment, after_segments, sets_at, was_set, last, joined}

-- ---- parts of five bytes, one after the other, and one of them replaced

flat : List (List ℕ) → List ℕ
flat [] = []
flat (p ∷ ps) = p ++ flat ps

data Fives : List (List ℕ) → Type 0 where
  none : Fives []
  more : {p : List ℕ} {ps : List (List ℕ)} → length p ≡ 5 → Fives ps → Fives (p ∷ ps)

module _ (p : List ℕ) (five : length p ≡ 5) (l : List ℕ) where
  front : (n : ℕ) → take (5 + n) (p ++ l) ≡ p ++ take n l
  front n = ap (λ (k : ℕ). take (k + n) (p ++ l)) (sym five) ∙ take-append-add p l n

  back : (n : ℕ) → drop (5 + n) (p ++ l) ≡ drop n l
  back n = ap (λ (k : ℕ). drop (k + n) (p ++ l)) (sym five) ∙ drop-append-add p l n

flat-set : {ps : List (List ℕ)} (c : ℕ) (part : List ℕ) → Fives ps → c < length ps
    → flat (set ps c part) ≡ take (5 * c) (flat ps) ++ part ++ drop (5 * c + 5) (flat ps)
unfolding flat
flat-set c part none h = absurd (omega arith)
flat-set zero part (more {p} {ps} e f) h = ap (λ (l : List ℕ). part ++ l) (sym (back p e (flat ps) 0))
flat-set (suc c) part (more {p} {ps} e f) h =
    let m : 5 * suc c ≡ 5 + 5 * c = omega arith in
    let n : 5 * suc c + 5 ≡ 5 + (5 * c + 5) = omega arith in
    ap (λ (l : List ℕ). p ++ l) (flat-set c part f (omega arith))
    ∙ sym
    (ap₂ (λ (x y : List ℕ). x ++ part ++ y)
    (ap (λ (k : ℕ). take k (p ++ flat ps)) m ∙ front p e (flat ps) (5 * c))
    (ap (λ (k : ℕ). drop k (p ++ flat ps)) n ∙ back p e (flat ps) (5 * c + 5))
    ∙ ap (λ (l : List ℕ). l ++ drop (5 * c + 5) (flat ps)) (append_assoc p (take (5 * c) (flat ps)) part)
    ∙ append_assoc p (take (5 * c) (flat ps) ++ part) (drop (5 * c + 5) (flat ps)))

-- a table of values with one of them changed
set-tabled : {A : Type 0} (d : A) (f g : ℕ → A) (n c : ℕ) (v : A) → c < n → v ≡ g c → ((k : ℕ) → (k ≡ c → ⊥) → f k ≡ g k) → set (tabled f n) c v ≡ tabled g n
set-tabled d f g n c v h e same =
    tabled_only g n (set (tabled f n) c v) d (length-set (tabled f n) c v ∙ length-tabled f n)
    (λ k b. at k b (ℕ_discrete k c))
  where
    at : (k : ℕ) → k < n → Dec (k ≡ c) → get_or (set (tabled f n) c v) k d ≡ g k
    at k b (yes q) =
        ap (λ (j : ℕ). get_or (set (tabled f n) c v) j d) q ∙ get_or-set_same (tabled f n) c v d (omega (arith, length-tabled f n)) ∙ e ∙ ap g (sym q)
    at k b (no q) = get_or-set_other (tabled f n) c k v d q ∙ tabled_at f n k d b ∙ same k q

-- ---- the law of one step

-- five bytes, whatever was set
last_long : (h : List Segment) (k : ℕ) → length (last h k) ≡ 5
unfolding last
last_long [] k = refl
last_long (x ∷ h) k = go (eqb (length x.part) 5) (leb x.counter 5 && eqb x.counter k) refl (last_long h k)
  where
    go : (b t : Bool) → eqb (length x.part) 5 ≡ b → length (last h k) ≡ 5 → length (cond (b && t) x.part (last h k)) ≡ 5
    go true true e r = eqb-true (length x.part) 5 e
    go true false e r = r
    go false t e r = r

parts : List Segment → List (List ℕ)
parts h = tabled (last h) 6

parts_long : (h : List Segment) → length (parts h) ≡ 6
unfolding parts
parts_long h = length-tabled (last h) 6

fives : (h : List Segment) → Fives (parts h)
unfolding parts values_from
fives h = more (last_long h 0) (more (last_long h 1) (more (last_long h 2) (more (last_long h 3) (more (last_long h 4) (more (last_long h 5) none)))))

-- what a collection is after a sequence
holding : List Segment → LichCollection
holding h = record { bytes = flat (parts h); set = tabled (was_set h) 6 }

module _ (x : Segment) (h : List Segment) where
  -- refused: nothing is set
  module _ (not_set : (k : ℕ) → sets_at k x ≡ false) where
    same_last : (k : ℕ) → last (x ∷ h) k ≡ last h k
    unfolding last
    same_last k = rw (not_set k)

    same_set : (k : ℕ) → was_set (x ∷ h) k ≡ was_set h k
    unfolding was_set
    same_set k = rw (not_set k)

    unchanged : holding (x ∷ h) ≡ holding h
    unfolding holding parts
    unchanged = λ i. record { bytes = flat (tabled (λ k. same_last k i) 6); set = tabled (λ k. same_set k i) 6 }

  -- accepted: the part and its flag are set at its counter
  module _ (five : length x.part ≡ 5) (small : x.counter ≤ 5) where
    here : sets_at x.counter x ≡ true
    here = rw (eq-eqb (length x.part) 5 five, le-leb x.counter 5 small, eq-eqb x.counter x.counter refl)

    elsewhere : (k : ℕ) → (k ≡ x.counter → ⊥) → sets_at k x ≡ false
    elsewhere k n = rw (eq-eqb (length x.part) 5 five, le-leb x.counter 5 small, ne_eqb x.counter k (λ e. n (sym e)))

    new_parts : set (parts h) x.counter x.part ≡ parts (x ∷ h)
    unfolding parts last
    new_parts = set-tabled [] (last h) (last (x ∷ h)) 6 x.counter x.part (omega arith) (rw here) (λ k n. rw (elsewhere k n))

    new_flags : set (tabled (was_set h) 6) x.counter true ≡ tabled (was_set (x ∷ h)) 6
    unfolding was_set
    new_flags = set-tabled false (was_set h) (was_set (x ∷ h)) 6 x.counter true (omega arith) (rw here) (λ k n. rw (elsewhere k n))

    changed : with_part x.counter x.part (holding h) ≡ holding (x ∷ h)
    unfolding holding
    changed =
        let inside : x.counter < length (parts h) = omega (arith, parts_long h) in
        ap₂ (λ (b : List ℕ) (f : List Bool). record { bytes = b; set = f })
        (sym (flat-set x.counter x.part (fives h) inside) ∙ ap flat new_parts) new_flags

  -- a step of the code from what is held leads to what is held
  step : after_set x.counter x.part (holding h) ≡ holding (x ∷ h)
  step = go (eqb (length x.part) 5) (leb x.counter 5) refl refl
    where
      go : (b t : Bool) → eqb (length x.part) 5 ≡ b → leb x.counter 5 ≡ t
          → cond (is_ok {T = ⊤} {E = Refusal} (cond b (cond t (Ok tt) (Err OutOfRange)) (Err WrongLength))) (with_part x.counter x.part (holding h)) (holding h) ≡ holding (x ∷ h)
      go true true e f = changed (eqb-true (length x.part) 5 e) (leb-true x.counter 5 f)
      go true false e f = sym (unchanged (λ k. rw (e, f)))
      go false t e f = sym (unchanged (λ k. rw e))

-- ---- after any sequence

after_holds : (h : List Segment) → after_segments h ≡ holding h
unfolding after_segments holding parts flat last was_set values_from
after_holds [] = refl
after_holds (x ∷ h) = ap (after_set x.counter x.part) (after_holds h) ∙ step x h

flat-joined : (h : List Segment) → flat (parts h) ≡ joined h
unfolding flat parts values_from
flat-joined h = simp (append_assoc, append-nil)

-- flags: all set, or one not
flags_all : (l : List Bool) → ((k : ℕ) → k < length l → get_or l k false ≡ true) → flags_set l ≡ length l
unfolding flags_set
flags_all [] a = refl
flags_all (b ∷ l) a = ap (λ (t : Bool). cond t (suc (flags_set l)) (flags_set l)) (a 0 (omega arith)) ∙ ap suc (flags_all l (λ k h. a (suc k) (omega arith)))

pub flags_le : (l : List Bool) → flags_set l ≤ length l
unfolding flags_set
flags_le [] = omega arith
flags_le (true ∷ l) = omega (arith, flags_le l)
flags_le (false ∷ l) = omega (arith, flags_le l)

flags_some : (l : List Bool) (k : ℕ) → k < length l → get_or l k false ≡ false → flags_set l < length l
unfolding flags_set
flags_some [] k h e = absurd (omega arith)
flags_some (b ∷ l) zero h e = rw e (omega (arith, flags_le l))
flags_some (true ∷ l) (suc k) h e = omega (arith, flags_some l k (omega arith) e)
flags_some (false ∷ l) (suc k) h e = omega (arith, flags_le l)

module _ (h : List Segment) where
  flag : (k : ℕ) → k < 6 → get_or (after_segments h).set k false ≡ was_set h k
  unfolding holding
  flag k b = ap (λ (l : LichCollection). get_or l.set k false) (after_holds h) ∙ tabled_at (was_set h) 6 k false b

  six : length (after_segments h).set ≡ 6
  unfolding holding
  six = ap (λ (l : LichCollection). length l.set) (after_holds h) ∙ length-tabled (was_set h) 6

  bytes : (after_segments h).bytes ≡ joined h
  unfolding holding
  bytes = ap (λ (l : LichCollection). l.bytes) (after_holds h) ∙ flat-joined h

  -- a part was set at each counter: the last ones, joined
  pub assembles : ((k : ℕ) → k < 6 → was_set h k ≡ true) → assembled_of (after_segments h) ≡ Some (joined h)
  assembles all =
      let n : flags_set (after_segments h).set ≡ 6 = flags_all (after_segments h).set (λ k b. let c : k < 6 = omega (arith, six) in flag k c ∙ all k c) ∙ six in
      rw (eq-eqb (flags_set (after_segments h).set) 6 n) (ap Some bytes)

  -- at one of them none was set: not yet
  pub not_yet : (k : ℕ) → k < 6 → was_set h k ≡ false → assembled_of (after_segments h) ≡ None
  not_yet k b e =
      let n : flags_set (after_segments h).set < 6 = omega (arith, six, flags_some (after_segments h).set k (omega (arith, six)) (flag k b ∙ e)) in
      rw (ne_eqb (flags_set (after_segments h).set) 6 (λ q. omega arith))

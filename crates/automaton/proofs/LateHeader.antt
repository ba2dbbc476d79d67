-- A late header comes exactly when the last six slots are stream slots counted 0 to 5 with CRC zero over their parts; the mark "spoiled" exactly
-- when they are so counted and it is not zero. Assumes nothing.
use mathlib.Core.Path.{◌≡◌, refl, sym, ap, ap₂, ◌∙◌, subst}
use mathlib.Core.Logic.{◌↔◌}
use mathlib.Core.Bool.{Bool, true, false, cond, ◌&&◌}
use mathlib.Core.List.{List, ◌++◌}
use Prim.Native.Nat.{ℕ}
use lib.Dec.{eqb}
use borrow.Author.Tests.{eqb-true, eqb-false, eq-eqb, ne_eqb}
use Rattle.crc.specs.Crc.{crc}
use Rattle.automaton.specs.Seen.{Fields, Seen, stream}
use Rattle.automaton.specs.Step.{State, idle, in_packet, gathering, Late, nothing, late, spoiled, Answer, fields, count, parts, whole, next, answer}
use Rattle.automaton.specs.Runs.{Slots, state, memory, said, Six}
use Rattle.automaton.proofs.Cases.{never}
use Rattle.automaton.specs.Demand3.{ByAnswer}
use Rattle.automaton.proofs.ByAnswer.{by_answer}
use Rattle.automaton.specs.Opened.{Counted, Opened}
use Rattle.automaton.proofs.Opened.{opened}

-- more than the fields is answered of six slots counted 0 to 5
abbrev Sixth : Slots → Seen → ℕ → List ℕ → Fields → Late → Type 0
Sixth gone s c p f l = (c ≡ 5) × (bytes : List ℕ) × Six gone s p f bytes × (l ≡ whole bytes)

six_counted : (gone : Slots) (s : Seen) (p : List ℕ) (f : Fields) (q : List ℕ) → s ≡ stream 5 p f → Counted 5 q gone → Six gone s p f (q ++ p)
six_counted gone s p f q e g =
    let (b4, p4, f4, r4, s4, q4, g4) = g in
    let (b3, p3, f3, r3, s3, q3, g3) = g4 in
    let (b2, p2, f2, r2, s2, q2, g2) = g3 in
    let (b1, p1, f1, r1, s1, q1, g1) = g2 in
    let (b0, p0, f0, r0, s0, q0, g0) = g1 in
    record {
      before = b0;
      p0 = p0;
      p1 = p1;
      p2 = p2;
      p3 = p3;
      p4 = p4;
      f0 = f0;
      f1 = f1;
      f2 = f2;
      f3 = f3;
      f4 = f4;
      slots = rw (s4, s3, s2, s1, s0);
      sixth = e;
      joined = rw (q4, q3, q2, q1, q0, g0);
    }

sixth_only : (gone : Slots) (s : Seen) (c : ℕ) (p : List ℕ) (f : Fields) (l : Late) → (l ≡ nothing → ⊥)
    → s ≡ stream c p f → (st : State) → Opened st gone → (x y : Bool) → eqb c 5 ≡ x → eqb (count st) 5 ≡ y
    → l ≡ cond (x && y) (whole (parts st ++ p)) nothing → Sixth gone s c p f l
sixth_only gone s c p f l more e st o false y ex ey is = absurd (more is)
sixth_only gone s c p f l more e st o true false ex ey is = absurd (more is)
sixth_only gone s c p f l more e idle o true true ex ey is = never (cc)
sixth_only gone s c p f l more e (in_packet n) o true true ex ey is = never (cc)
sixth_only gone s c p f l more e (gathering k q) o true true ex ey is =
    let five : c ≡ 5 = eqb-true c 5 ex in
    let counted : Counted 5 q gone = rw (eqb-true k 5 ey) at o.2 in
    (five, q ++ p, six_counted gone s p f q (e ∙ ap (λ (i : ℕ). stream i p f) five) counted, is)

whole_late : (x : Bool) (q bytes : List ℕ) → eqb (crc q) 0 ≡ x → late bytes ≡ cond x (late q) spoiled → (q ≡ bytes) × (crc q ≡ 0)
whole_late true q bytes ex e = (cc, eqb-true (crc q) 0 ex)
whole_late false q bytes ex e = never (cc)

whole_spoiled : (x : Bool) (q : List ℕ) → eqb (crc q) 0 ≡ x → spoiled ≡ cond x (late q) spoiled → crc q ≡ 0 → ⊥
whole_spoiled true q ex e = never (cc)
whole_spoiled false q ex e = eqb-false (crc q) 0 ex

module _ (m : List ℕ) (gone : Slots) (s : Seen) (c : ℕ) (p : List ℕ) (f : Fields) where
  six_said : (bytes : List ℕ) (l : Late) → c ≡ 5 → Six gone s p f bytes → whole bytes ≡ l → (said m gone s).answer ≡ fields c p f l
  unfolding state next answer
  six_said bytes l e k w =
      ap₂ {C = Answer} (λ (g : Slots) (x : Seen). (said m g x).answer) k.slots k.sixth
      ∙ ap₂ {C = Answer} (λ (i : ℕ) (x : Late). fields i p f x) (sym e) (ap whole (sym k.joined) ∙ w)

  six_only : (l : Late) → (l ≡ nothing → ⊥) → (said m gone s).answer ≡ fields c p f l → Sixth gone s c p f l
  six_only l more e =
      let (slot, is, rest) = subst (ByAnswer (state gone) (memory m gone) s) e (by_answer (state gone) (memory m gone) s) in
      sixth_only gone s c p f l more slot (state gone) (opened gone) _ _ refl refl is

  pub late_header : (bytes : List ℕ) → ((said m gone s).answer ≡ fields c p f (late bytes)) ↔ ((c ≡ 5) × Six gone s p f bytes × (crc bytes ≡ 0))
  late_header bytes = (only, if)
    where
      only : (said m gone s).answer ≡ fields c p f (late bytes) → (c ≡ 5) × Six gone s p f bytes × (crc bytes ≡ 0)
      only e =
          let (five, q, six, is) = six_only (late bytes) (λ z. never (cc)) e in
          let (same, good) = whole_late _ q bytes refl is in
          subst (λ (x : List ℕ). (c ≡ 5) × Six gone s p f x × (crc x ≡ 0)) same (five, six, good)

      if : (c ≡ 5) × Six gone s p f bytes × (crc bytes ≡ 0) → (said m gone s).answer ≡ fields c p f (late bytes)
      if k = six_said bytes _ k.0 k.1 (rw (eq-eqb (crc bytes) 0 k.2))

  pub spoiled_mark : ((said m gone s).answer ≡ fields c p f spoiled) ↔ ((c ≡ 5) × (bytes : List ℕ) × Six gone s p f bytes × (crc bytes ≡ 0 → ⊥))
  spoiled_mark = (only, if)
    where
      only : (said m gone s).answer ≡ fields c p f spoiled → (c ≡ 5) × (bytes : List ℕ) × Six gone s p f bytes × (crc bytes ≡ 0 → ⊥)
      only e =
          let (five, q, six, is) = six_only spoiled (λ z. never (cc)) e in
          (five, q, six, whole_spoiled _ q refl is)

      if : (c ≡ 5) × (bytes : List ℕ) × Six gone s p f bytes × (crc bytes ≡ 0 → ⊥) → (said m gone s).answer ≡ fields c p f spoiled
      if k = six_said k.1 _ k.0 k.2 (rw (ne_eqb (crc k.1) 0 k.3))

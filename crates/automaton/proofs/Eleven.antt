-- Eleven stream slots in a row of one sender bring its header, whatever came before. Assumes nothing.
use mathlib.Core.Path.{◌≡◌, sym, ◌∙◌}
use mathlib.Core.List.{List, ◌++◌}
use Prim.Native.Nat.{ℕ, zero, suc, ◌+◌, ◌-◌, ◌%◌, ◌<◌}
use native.Mathlib.Omega.{arith}
use native.Mathlib.Nat.{add-zero, add-suc, suc-add, zero-add}
use lib.ListN.{length}
use lib.Seq.{take-add, take_all}
use Rattle.crc.specs.Crc.{crc}
use Rattle.automaton.specs.Seen.{Fields}
use Rattle.automaton.specs.Step.{fields, late}
use Rattle.automaton.specs.Runs.{Slots, ◌▸◌, ◌▸▸◌, said, part, Six, sent, sending}
use Rattle.automaton.proofs.LateHeader.{late_header}

parts_joined : (h : List ℕ) → length h ≡ 30 → h ≡ part h 0 ++ part h 1 ++ part h 2 ++ part h 3 ++ part h 4 ++ part h 5
parts_joined h l = sym (take_all 30 h (omega arith)) ∙ rw (take-add 25 5 h, take-add 20 5 h, take-add 15 5 h, take-add 10 5 h, take-add 5 5 h)

-- sent in two goes
two_goes : (p : Slots) (h : List ℕ) (f : ℕ → Fields) (i a n : ℕ) → p ▸▸ sending h f i (a + n) ≡ (p ▸▸ sending h f i a) ▸▸ sending h f (i + a) n
two_goes p h f i zero n = rw (zero-add, add-zero)
two_goes p h f i (suc a) n = rw (suc-add, add-suc, ← suc-add) (two_goes (p ▸ sent h f i) h f (suc i) a n)

-- six slots of a sender from its count 0 on
six_sent : (p : Slots) (h : List ℕ) (f : ℕ → Fields) (i : ℕ) → length h ≡ 30 → i % 6 ≡ 0
    → Six (p ▸▸ sending h f i 5) (sent h f (i + 5)) (part h ((i + 5) % 6)) (f (i + 5)) h
six_sent p h f i l e =
    let c1 : suc i % 6 ≡ 1 = omega arith in
    let c2 : suc (suc i) % 6 ≡ 2 = omega arith in
    let c3 : suc (suc (suc i)) % 6 ≡ 3 = omega arith in
    let c4 : suc (suc (suc (suc i))) % 6 ≡ 4 = omega arith in
    let c5 : (i + 5) % 6 ≡ 5 = omega arith in
    record {
      before = p;
      p0 = part h 0;
      p1 = part h 1;
      p2 = part h 2;
      p3 = part h 3;
      p4 = part h 4;
      f0 = f i;
      f1 = f (suc i);
      f2 = f (suc (suc i));
      f3 = f (suc (suc (suc i)));
      f4 = f (suc (suc (suc (suc i))));
      slots = rw (e, c1, c2, c3, c4);
      sixth = rw c5;
      joined = rw c5 (parts_joined h l);
    }

pub eleven : (m : List ℕ) (past : Slots) (h : List ℕ) (f : ℕ → Fields) (i : ℕ) → length h ≡ 30 → crc h ≡ 0
    → (j : ℕ) × (j < 11) × ((said m (past ▸▸ sending h f i j) (sent h f (i + j))).answer ≡ fields ((i + j) % 6) (part h ((i + j) % 6)) (f (i + j)) (late h))
eleven m past h f i l z = (a + 5, omega arith, (late_header m _ _ _ _ _ h).1 (omega arith, found, z))
  where
    a : ℕ
    a = (6 - i % 6) % 6

    found : Six (past ▸▸ sending h f i (a + 5)) (sent h f (i + (a + 5))) (part h ((i + (a + 5)) % 6)) (f (i + (a + 5))) h
    found =
        let whole : (i + a) + 5 ≡ i + (a + 5) = omega arith in
        rw (two_goes past h f i a 5, ← whole) (six_sent (past ▸▸ sending h f i a) h f (i + a) l (omega arith))

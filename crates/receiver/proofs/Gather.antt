-- A stream slot's part of a header, in the code's values. Assumes nothing.
use mathlib.Core.Path.{◌≡◌, refl, sym, ap, ap₂, ◌∙◌}
use mathlib.Core.Bool.{Bool, true, false, cond, ◌&&◌}
use mathlib.Core.Logic.{◌⊎◌, inl, inr}
use mathlib.Core.List.{List, [], ◌++◌, append-nil}
use Prim.Native.Nat.{ℕ, suc, ◌+◌, ◌-◌, ◌*◌, ◌≤◌}
use native.Mathlib.Numerals.{add-one}
use native.Mathlib.Omega.{arith}
use lib.Dec.{eqb}
use lib.ListN.{length, take, drop, replicate, length-append}
use lib.Seq.{take_at, drop-drop, drop-append-add}
use borrow.Author.Tests.{eq-eqb, ne_eqb, eqb-true, eqb-false, leb-true}
use Rattle.std.specs.Prelude.{Ok}
use Rattle.std.proofs.lemmas.List.{drop-replicate}
use Rattle.crc.specs.Crc.{crc}
use Rattle.protocol.specs.declared.StreamFrame.{StreamFrame}
use Rattle.automaton.specs.Seen.{Fields}
use Rattle.automaton.specs.Step as step
use Rattle.automaton.specs.Step.{State, idle, gathering, put, gather, late_of, whole, next, answer}
use Rattle.automaton.proofs.Cases.{by_test}
use Rattle.receiver.specs.declared.Phase.{Phase}
use Rattle.receiver.specs.declared.Phase.TheVariants.{Idle, Packet, Gathering}
use Rattle.receiver.specs.declared.Receiver.{Receiver}
use Rattle.receiver.specs.declared.Late.{Late}
use Rattle.receiver.specs.declared.Late.TheVariants.{Nothing, Header, Spoiled}
use Rattle.receiver.specs.declared.Answer.TheVariants.{Stream}
use Rattle.receiver.specs.declared.Received.{Received}
use Rattle.receiver.specs.See.{seen_stream}
use Rattle.receiver.specs.Receiver.{meaning, state_of, within, gathered, padded, received_from, taken}

-- ---- parts in an array of 30 zeros

-- one list placed at the start, another behind it
pub two_placed : (a b x y : List ℕ) (k : ℕ) → length a ≡ k → length b ≡ 5 → k + 5 ≤ 30
    → x ≡ put 0 a (replicate 30 0) → y ≡ put k b x → (y ≡ padded (a ++ b)) × (length (a ++ b) ≡ k + 5)
two_placed a b x y k ea eb fits ex ey =
    let long : length (a ++ b) ≡ k + 5 = length-append a b ∙ ap₂ (λ (i j : ℕ). i + j) ea eb in
    let n : 0 + length a ≡ k = omega arith in
    let x_is : x ≡ a ++ drop k (replicate 30 0) = ex ∙ ap (λ (m : ℕ). a ++ drop m (replicate 30 0)) n in
    let rest : drop (k + length b) x ≡ replicate (30 - length (a ++ b)) 0 =
    ap (drop (k + length b)) x_is
    ∙ ap (λ (m : ℕ). drop (m + length b) (a ++ drop k (replicate 30 0))) (sym ea)
    ∙ drop-append-add a (drop k (replicate 30 0)) (length b)
    ∙ drop-drop (length b) k (replicate 30 0)
    ∙ drop-replicate (k + length b) 30 0
    ∙ ap (λ (m : ℕ). replicate (30 - m) 0) (ap (λ (m : ℕ). k + m) eb ∙ sym long) in
    (ey ∙ ap₂ (λ (p q : List ℕ). p ++ b ++ q) (ap (take k) x_is ∙ take_at a (drop k (replicate 30 0)) k ea) rest, long)

-- thirty bytes are not padded
padded_full : (q : List ℕ) → length q ≡ 30 → padded q ≡ q
padded_full q e =
    let n : 30 - length q ≡ 0 = omega arith in
    ap (λ (m : ℕ). q ++ replicate m 0) n ∙ append-nil q

-- ---- the state's count and parts

gathered_is : (ph : Phase) (parts : List ℕ) → step.count (meaning ph parts) ≡ gathered ph
gathered_is Idle parts = refl
gathered_is (Packet n) parts = refl
gathered_is (Gathering k) parts = refl

pub gathered≤5 : (ph : Phase) → within ph ≡ true → gathered ph ≤ 5
gathered≤5 Idle w = omega arith
gathered≤5 (Packet n) w = omega arith
gathered≤5 (Gathering k) w = leb-true k 5 w

parts_are : (ph : Phase) (parts : List ℕ) (c : ℕ) → c ≡ gathered ph → (c ≡ 0 → ⊥) → step.parts (meaning ph parts) ≡ take (5 * c) parts
parts_are Idle parts c e z = absurd (z e)
parts_are (Packet n) parts c e z = absurd (z e)
parts_are (Gathering k) parts c e z = rw e

-- ---- what a part does, c being the counter

module _ (self : Receiver) (f : StreamFrame) (c : ℕ) (c_is : c ≡ f.lich_idx) where
  abbrev p : List ℕ
  p = f.lich_part

  abbrev rest : Fields
  rest = record { number = f.frame_number; closing = f.end_of_stream; content = f.stream_data }

  abbrev streamed : Late → Phase → List ℕ → Received
  streamed late ph parts = record { answer = Ok (Stream f late); next = record { phase = ph; parts = parts } }

  -- from the next state and what the part brings
  from_both : (st : State) (l : step.Late) → gather (state_of self) c p ≡ st → late_of (state_of self) c p ≡ l
      → received_from st (step.fields f.lich_idx p rest l) ≡ taken (state_of self) [] (seen_stream f)
  unfolding next answer
  from_both st l e q =
      ap₂ (λ (s : State) (k : step.Late). received_from s (step.fields f.lich_idx p rest k))
      (sym e ∙ ap (λ (i : ℕ). gather (state_of self) i p) c_is)
      (sym q ∙ ap (λ (i : ℕ). late_of (state_of self) i p) c_is)

  -- out of turn
  pub part_other : (c ≡ 0 → ⊥) → (c ≡ gathered self.phase → ⊥) → streamed Nothing Idle (padded []) ≡ taken (state_of self) [] (seen_stream f)
  part_other z h =
      let y : eqb c (step.count (state_of self)) ≡ false = rw gathered_is (ne_eqb c (gathered self.phase) h) in
      from_both idle step.nothing (rw (ne_eqb c 0 z, y)) (go (eqb c 5) (eqb (step.count (state_of self)) 5) refl refl)
    where
      go : (u v : Bool) → eqb c 5 ≡ u → eqb (step.count (state_of self)) 5 ≡ v → cond (u && v) (whole (step.parts (state_of self) ++ p)) step.nothing ≡ step.nothing
      go false v eu ev = refl
      go true false eu ev = refl
      go true true eu ev =
          absurd (h (eqb-true c 5 eu ∙ sym (eqb-true (step.count (state_of self)) 5 ev) ∙ gathered_is self.phase self.parts))

  -- in turn
  module _ (turn : (c ≡ 0) ⊎ (c ≡ gathered self.phase)) (parts : List ℕ) (made : parts ≡ padded (take (5 * c) self.parts ++ p)) where
    counted : (c ≡ 0 → ⊥) → c ≡ gathered self.phase
    counted z = elim turn [ inl e ↦ absurd (z e) | inr e ↦ e ]

    parts_kept : (c ≡ 0 → ⊥) → step.parts (state_of self) ≡ take (5 * c) self.parts
    parts_kept z = parts_are self.phase self.parts c (counted z) z

    count_kept : (c ≡ 0 → ⊥) → step.count (state_of self) ≡ c
    count_kept z = gathered_is self.phase self.parts ∙ sym (counted z)

    gathers : gather (state_of self) c p ≡ cond (eqb c 5) idle (gathering (suc c) (take (5 * c) self.parts ++ p))
    gathers =
        by_test (λ (s : State). s ≡ cond (eqb c 5) idle (gathering (suc c) (take (5 * c) self.parts ++ p))) (eqb c 0)
        (λ e. rw (eqb-true c 0 e))
        (λ e. let z = eqb-false c 0 e in rw (count_kept z, eq-eqb c c refl, parts_kept z))

    pub part_more : (c ≡ 5 → ⊥) → streamed Nothing (Gathering (c + 1)) parts ≡ taken (state_of self) [] (seen_stream f)
    part_more h =
        let y : eqb c 5 ≡ false = ne_eqb c 5 h in
        ap₂ (λ (n : ℕ) (b : List ℕ). streamed Nothing (Gathering n) b) (add-one c) made
        ∙ from_both (gathering (suc c) (take (5 * c) self.parts ++ p)) step.nothing (gathers ∙ rw y) (rw y)

    module _ (five : c ≡ 5) (long : length (take (5 * c) self.parts ++ p) ≡ 5 * c + 5) (sum : ℕ) (sum_is : sum ≡ crc parts) where
      not_zero : c ≡ 0 → ⊥
      not_zero z = absurd (omega arith)

      six : parts ≡ take (5 * c) self.parts ++ p
      six = made ∙ padded_full (take (5 * c) self.parts ++ p) (omega arith)

      stops : gather (state_of self) c p ≡ idle
      stops = gathers ∙ rw (eq-eqb c 5 five)

      brings : late_of (state_of self) c p ≡ whole parts
      brings = rw (parts_kept not_zero, count_kept not_zero, eq-eqb c 5 five, six)

      pub part_spoiled : (sum ≡ 0 → ⊥) → streamed Spoiled Idle (padded []) ≡ taken (state_of self) [] (seen_stream f)
      part_spoiled h = from_both idle step.spoiled stops (brings ∙ rw (ne_eqb (crc parts) 0 (λ e. h (sum_is ∙ e))))

      pub part_last : sum ≡ 0 → streamed (Header parts) Idle (padded []) ≡ taken (state_of self) [] (seen_stream f)
      part_last h = from_both idle (step.late parts) stops (brings ∙ rw (eq-eqb (crc parts) 0 (sym sum_is ∙ h)))

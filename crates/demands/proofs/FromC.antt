-- What C hears is what the receiver says. Assumes nothing.
use mathlib.Core.Path.{◌≡◌, refl, sym, ap, ap₂, ◌∙◌}
use mathlib.Core.Bool.{Bool, true, false, cond}
use mathlib.Core.List.{List}
use Prim.Native.Nat.{ℕ}
use native.Mathlib.Decide.{ℕ_discrete}
use lib.Dec.{eqb}
use lib.ListN.{length}
use Rattle.std.specs.Prelude.{Option, Some, None, Result, Ok, Err}
use Rattle.refusal.specs.Number.{number_of, said_of}
use Rattle.refusal.specs.declared.Refusal.{Refusal}
use Rattle.refusal.specs.declared.Refusal.TheVariants.{WrongLength, BadState}
use Rattle.refusal.proofs.Different.{different}
use Rattle.bits.specs.Bits.{bit}
use Rattle.automaton.specs.Step.{idle}
use Rattle.automaton.proofs.Cases.{never}
use Rattle.receiver.specs.declared.Receiver.{Receiver}
use Rattle.receiver.specs.declared.Answer.{Answer}
use Rattle.receiver.specs.declared.Received.{Received}
use Rattle.receiver.specs.Numbers.{answer_number, answer_count, header_in, stream_in}
use Rattle.receiver.specs.Receiver.{receiver_for, received_of, memory_of}
use Rattle.receiver.specs.Runs.{Fed, start, ◌▹◌, after}
use Rattle.m17.specs.declared.M17Receiver.{M17Receiver}
use Rattle.m17.specs.Receiving.{held_by, crossed}
use Rattle.m17.specs.Given.{given, lent_said, lent_bytes, there, given_there}
use Rattle.m17.proofs.Crossed.{held_back, goes_on, stays_1, stays_12}
use Rattle.demands.specs.FromC.{lent_after, FromC}
use Rattle.demands.proofs.Demand1.{demand_1}
use Rattle.demands.proofs.EachSlot.{each_slot}

-- ---- what is lent for an answer

lent_untouched : {A : Type 0} (r : Result A Refusal) (old : A) → (said_of r ≡ 0 → ⊥) → given r old ≡ old
lent_untouched (Ok x) old n = absurd (n refl)
lent_untouched (Err why) old n = refl

buffer_untouched : {A : Type 0} (n : ℕ) (old : List A) (r : Result (List A) Refusal) → (lent_said n old r ≡ 0 → ⊥) → lent_bytes n old r ≡ old
buffer_untouched n old r = by (eqb (length old) n)
  where
    by : (b : Bool) → (cond b (said_of r) 1 ≡ 0 → ⊥) → cond b (given r old) old ≡ old
    by true said = lent_untouched r old said
    by false said = refl

missing_untouched : {A : Type 0} (o : Option A) (old : A) → there o ≡ 0 → given_there o old ≡ old
missing_untouched (Some x) old e = never (sym e)
missing_untouched None old e = refl

-- ---- slots

-- a number that is not 0 says which refusal it is
said_is : (w : Refusal) (a : Result Answer Refusal) → (0 ≡ number_of w → ⊥) → said_of a ≡ number_of w → a ≡ Err w
said_is w (Ok x) n e = absurd (n e)
said_is w (Err why) n e = ap Err (different why w e)

module _ (s : M17Receiver) (x m : List ℕ) where
  got : Received
  got = received_of (held_by s) x m

  -- 1 and 12 leave the receiver as it was
  unmoved_1 : said_of got.answer ≡ 1 → got.next ≡ held_by s
  unfolding got
  unmoved_1 e =
      let f = (demand_1.receiver_1 (held_by s) x m).0 (said_is WrongLength (received_of (held_by s) x m).answer (λ z. never (cc)) e) in
      ap (λ (r : Received). r.next) (each_slot.refused_1 (held_by s) x m f).0

  unmoved_12 : said_of got.answer ≡ 12 → got.next ≡ held_by s
  unfolding got
  unmoved_12 e =
      let f = (demand_1.receiver_12 (held_by s) x m).0 (said_is BadState (received_of (held_by s) x m).answer (λ z. never (cc)) e) in
      ap (λ (r : Received). r.next) (each_slot.refused_12 (held_by s) x m f.0 f.1).0

  -- so the state that comes back stands for the receiver's next
  held_next : held_by (crossed s (received_of (held_by s) x m)).next ≡ (received_of (held_by s) x m).next
  unfolding got
  held_next = elim (ℕ_discrete (said_of got.answer) 1) [
    | yes e ↦ ap held_by (stays_1 s got e) ∙ sym (unmoved_1 e)
    | no n ↦ elim (ℕ_discrete (said_of got.answer) 12) [
      | yes e ↦ ap held_by (stays_12 s got e) ∙ sym (unmoved_12 e)
      | no k ↦ goes_on s got n k
    ]
  ]

module _ (m : List ℕ) where
  both : (past : Fed) → (held_by (lent_after m past).state ≡ (after m past).receiver) × ((lent_after m past).memory ≡ (after m past).memory)
  unfolding lent_after after
  both start = (held_back (receiver_for idle), refl)
  both (past ▹ x) =
      let (r, e) = both past in (
        held_next (lent_after m past).state x (lent_after m past).memory ∙ ap₂ (λ (r : Receiver) (k : List ℕ). (received_of r x k).next) r e,
        ap₂ (λ (r : Receiver) (k : List ℕ). memory_of r x k) r e,
      )

  said_alike : (past : Fed) (x : List ℕ)
      → received_of (held_by (lent_after m past).state) x (lent_after m past).memory ≡ received_of (after m past).receiver x (after m past).memory
  said_alike past x = let (r, e) = both past in ap₂ (λ (r : Receiver) (k : List ℕ). received_of r x k) r e

pub from_c : FromC
from_c =
    record {
      lent_untouched = lent_untouched;
      buffer_untouched = buffer_untouched;
      missing_untouched = missing_untouched;
      same_receiver = λ m past. (both m past).0;
      same_memory = λ m past. (both m past).1;
      same_answer = λ m past x. ap (λ (r : Received). answer_number r.answer) (said_alike m past x);
      same_said = λ m past x. ap (λ (r : Received). said_of r.answer) (said_alike m past x);
      same_number = λ m past x. ap (λ (r : Received). answer_count r.answer) (said_alike m past x);
      same_header = λ m past x. ap (λ (r : Received). header_in r.answer) (said_alike m past x);
      same_stream =
          λ m past x. (
            ap (λ (r : Received). (stream_in r.answer).lich_idx) (said_alike m past x),
            ap (λ (r : Received). (stream_in r.answer).lich_part) (said_alike m past x),
            ap (λ (r : Received). (stream_in r.answer).frame_number) (said_alike m past x),
            ap (λ (r : Received). bit (stream_in r.answer).end_of_stream) (said_alike m past x),
            ap (λ (r : Received). (stream_in r.answer).stream_data) (said_alike m past x),
          );
    }

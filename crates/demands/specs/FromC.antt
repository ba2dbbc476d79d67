-- Slots fed from C: `m17_receive` from `m17_receiver_new` on, each time with the state that came back and packet memory as it was left. What C
-- hears is what `heard` says, in numbers, so that demand 3 is the caller's in C too. And what C lends for any other answer is as it was where
-- the number said is not 0, as the contracts of m17 have it: they say all of it by `given`, `lent_bytes` and `given_there`. Assumes nothing.
use Rattle.std.specs.Prelude.{◌≡◌, List, ℕ, Option, Result}
use Rattle.refusal.specs.Number.{said_of}
use Rattle.refusal.specs.declared.Refusal.{Refusal}
use Rattle.bits.specs.Bits.{bit}
use Rattle.automaton.specs.Step.{idle}
use Rattle.receiver.specs.Numbers.{answer_number, answer_count, header_in, stream_in}
use Rattle.receiver.specs.Receiver.{receiver_for, received_of, memory_of}
use Rattle.receiver.specs.Runs.{Fed, start, ◌▹◌, after, heard}
use Rattle.m17.specs.declared.M17Receiver.{M17Receiver}
use Rattle.m17.specs.declared.M17Received.{M17Received}
use Rattle.m17.specs.Receiving.{held_by, state_for, crossed}
use Rattle.m17.specs.Given.{given, lent_said, lent_bytes, there, given_there}

-- what a caller in C holds between calls
pub record Lent : Type 0 where
  pub state : M17Receiver
  pub memory : List ℕ

-- what `m17_receive` promises to answer, and what is held then
abbrev pub answer_to : Lent → List ℕ → M17Received
answer_to h x = crossed h.state (received_of (held_by h.state) x h.memory)

abbrev pub lent_next : Lent → List ℕ → Lent
lent_next h x = record { state = (answer_to h x).next; memory = memory_of (held_by h.state) x h.memory }

unfoldable pub lent_after : List ℕ → Fed → Lent
lent_after m start = record { state = state_for (receiver_for idle); memory = m }
lent_after m (past ▹ x) = lent_next (lent_after m past) x

pub record FromC : Type 1 where
  -- on a refusal memory lent for an answer is as it was, and a buffer lent for it, which may also have another length than asked for
  pub lent_untouched : {A : Type 0} (r : Result A Refusal) (old : A) → (said_of r ≡ 0 → ⊥) → given r old ≡ old
  pub buffer_untouched : {A : Type 0} (n : ℕ) (old : List A) (r : Result (List A) Refusal) → (lent_said n old r ≡ 0 → ⊥) → lent_bytes n old r ≡ old
  -- and where there is nothing to answer
  pub missing_untouched : {A : Type 0} (o : Option A) (old : A) → there o ≡ 0 → given_there o old ≡ old
  -- the state that C holds stands for the receiver fed with the same slots, and packet memory is the same
  pub same_receiver : (m : List ℕ) (past : Fed) → held_by (lent_after m past).state ≡ (after m past).receiver
  pub same_memory : (m : List ℕ) (past : Fed) → (lent_after m past).memory ≡ (after m past).memory
  -- and each field of the answer to a slot is that of what is heard there
  pub same_answer : (m : List ℕ) (past : Fed) (x : List ℕ) → (answer_to (lent_after m past) x).answer ≡ answer_number (heard m past x).answer
  pub same_said : (m : List ℕ) (past : Fed) (x : List ℕ) → (answer_to (lent_after m past) x).said ≡ said_of (heard m past x).answer
  pub same_number : (m : List ℕ) (past : Fed) (x : List ℕ) → (answer_to (lent_after m past) x).number ≡ answer_count (heard m past x).answer
  pub same_header : (m : List ℕ) (past : Fed) (x : List ℕ) → (answer_to (lent_after m past) x).header ≡ header_in (heard m past x).answer
  pub same_stream : (m : List ℕ) (past : Fed) (x : List ℕ)
      → ((answer_to (lent_after m past) x).lich_idx ≡ (stream_in (heard m past x).answer).lich_idx)
      × ((answer_to (lent_after m past) x).lich_part ≡ (stream_in (heard m past x).answer).lich_part)
      × ((answer_to (lent_after m past) x).frame_number ≡ (stream_in (heard m past x).answer).frame_number)
      × ((answer_to (lent_after m past) x).end_of_stream ≡ bit (stream_in (heard m past x).answer).end_of_stream)
      × ((answer_to (lent_after m past) x).stream_data ≡ (stream_in (heard m past x).answer).stream_data)

-- Slots fed in order to one receiver from its start, state and packet memory untouched between calls. Assumes nothing.
use Rattle.std.specs.Prelude.{cond, List, [], ◌∷◌, ℕ, eqb, length, take, Result, Ok, Err}
use Rattle.refusal.specs.declared.Refusal.{Refusal}
use Rattle.automaton.specs.Step.{idle}
use Rattle.automaton.specs.Runs as seen
use Rattle.automaton.specs.Runs.{Slots, ◌▸◌}
use Rattle.receiver.specs.declared.Receiver.{Receiver}
use Rattle.receiver.specs.declared.Answer.{Answer}
use Rattle.receiver.specs.declared.Answer.TheVariants.{Header, Stored, Packet, Stream, Ended}
use Rattle.receiver.specs.declared.Received.{Received}
use Rattle.receiver.specs.See.{see}
use Rattle.receiver.specs.Receiver.{receiver_for, received_of, memory_of}

infixl 25 ◌▹◌ ◌▹▹◌
-- slots of bytes in the order in which they came, of any lengths
pub data Fed : Type 0 where
  start : Fed
  ◌▹◌ : Fed → List ℕ → Fed

abbrev pub ◌▹▹◌ : Fed → List (List ℕ) → Fed
past ▹▹ [] = past
past ▹▹ (x ∷ more) = (past ▹ x) ▹▹ more

-- a receiver and its packet memory
pub record Held : Type 0 where
  pub receiver : Receiver
  pub memory : List ℕ

-- one slot more
abbrev pub fed : Held → List ℕ → Held
fed h x = record { receiver = (received_of h.receiver x h.memory).next; memory = memory_of h.receiver x h.memory }

-- after the slots, packet memory being m at the start
unfoldable pub after : List ℕ → Fed → Held
after m start = record { receiver = receiver_for idle; memory = m }
after m (past ▹ x) = fed (after m past) x

-- the packet bytes that an answer hands out: those that memory begins with
abbrev pub handed_out_bytes : Result Answer Refusal → List ℕ → List ℕ
handed_out_bytes (Ok (Header h)) m = []
handed_out_bytes (Ok (Stored k)) m = []
handed_out_bytes (Ok (Packet total)) m = take total m
handed_out_bytes (Ok (Stream f l)) m = []
handed_out_bytes (Ok Ended) m = []
handed_out_bytes (Err why) m = []

-- what a caller hears at a slot: the answer with what it carries, and the packet bytes handed out
pub record Heard : Type 0 where
  pub answer : Result Answer Refusal
  pub bytes : List ℕ

abbrev pub hearing : Received → List ℕ → Heard
hearing r m = record { answer = r.answer; bytes = handed_out_bytes r.answer m }

abbrev pub heard_by : Held → List ℕ → Heard
heard_by h x = hearing (received_of h.receiver x h.memory) (memory_of h.receiver x h.memory)

-- at slot x after the slots past
abbrev pub heard : List ℕ → Fed → List ℕ → Heard
heard m past x = heard_by (after m past) x

-- what the slots said, packet memory having 825 bytes: those of other lengths than 48, refused with 1, count as no slot
unfoldable pub seen_of : Fed → Slots
seen_of start = seen.start
seen_of (past ▹ x) = cond (eqb (length x) 48) (seen_of past ▸ see x) (seen_of past)

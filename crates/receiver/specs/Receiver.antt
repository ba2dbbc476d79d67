-- What the receiver answers to a slot, which state comes next, and what packet memory then holds. Assumes nothing.
use Rattle.std.specs.Prelude.{Bool, true, cond, ◌&&◌, List, ◌++◌, ℕ, ◌-◌, ◌*◌, eqb, leb, length, take, replicate, Result, Ok, Err}
use Rattle.refusal.specs.declared.Refusal.{Refusal}
use Rattle.refusal.specs.declared.Refusal.TheVariants.{WrongLength, BadState}
use Rattle.protocol.specs.declared.StreamFrame.{StreamFrame}
use Rattle.automaton.specs.Seen.{Fields, Seen}
use Rattle.automaton.specs.Step as step
use Rattle.automaton.specs.Step.{State, idle, in_packet, gathering}
use Rattle.receiver.specs.declared.Phase.{Phase}
use Rattle.receiver.specs.declared.Phase.TheVariants.{Idle, Packet, Gathering}
use Rattle.receiver.specs.declared.Receiver.{Receiver}
use Rattle.receiver.specs.declared.Late.{Late}
use Rattle.receiver.specs.declared.Late.TheVariants.{Nothing, Header, Spoiled}
use Rattle.receiver.specs.declared.Answer.{Answer}
use Rattle.receiver.specs.declared.Answer.TheVariants as answered
use Rattle.receiver.specs.declared.Received.{Received}
use Rattle.receiver.specs.See.{see}

-- ---- states

-- the automaton's state: of the parts, the first k
abbrev pub meaning : Phase → List ℕ → State
meaning Idle parts = idle
meaning (Packet n) parts = in_packet n
meaning (Gathering k) parts = gathering k (take (5 * k) parts)

abbrev pub state_of : Receiver → State
state_of r = meaning r.phase r.parts

-- 12 is for n over 32 and k over 5
abbrev pub within : Phase → Bool
within Idle = true
within (Packet n) = leb n 32
within (Gathering k) = leb k 5

-- thirty bytes of parts: zeros where none is gathered
abbrev pub padded : List ℕ → List ℕ
padded q = q ++ replicate (30 - length q) 0

abbrev pub phase_for : State → Phase
phase_for idle = Idle
phase_for (in_packet n) = Packet n
phase_for (gathering k q) = Gathering k

-- the receiver in a state
abbrev pub receiver_for : State → Receiver
receiver_for s = record { phase = phase_for s; parts = padded (step.parts s) }

-- how many parts are gathered
abbrev pub gathered : Phase → ℕ
gathered Idle = 0
gathered (Packet n) = 0
gathered (Gathering k) = k

-- ---- answers

abbrev pub late_for : step.Late → Late
late_for step.nothing = Nothing
late_for (step.late h) = Header h
late_for step.spoiled = Spoiled

-- the stream frame of a counter, a part and fields
abbrev pub stream_frame : ℕ → List ℕ → Fields → StreamFrame
stream_frame c p f = record { lich_idx = c; lich_part = p; frame_number = f.number; end_of_stream = f.closing; stream_data = f.content }

abbrev pub answer_for : step.Answer → Result Answer Refusal
answer_for (step.header h) = Ok (answered.Header h)
answer_for (step.stored k) = Ok (answered.Stored k)
answer_for (step.packet total) = Ok (answered.Packet total)
answer_for (step.fields c p f l) = Ok (answered.Stream (stream_frame c p f) (late_for l))
answer_for step.ended = Ok answered.Ended
answer_for (step.refused why) = Err why

-- an answer of the automaton and its next state
abbrev pub received_from : State → step.Answer → Received
received_from s a = record { answer = answer_for a; next = receiver_for s }

-- what comes of a step: where it is refused nothing is open then
abbrev pub outcome_of : Result (Answer × Receiver) Refusal → Received
outcome_of (Ok said) = record { answer = Ok said.0; next = said.1 }
outcome_of (Err why) = record { answer = Err why; next = receiver_for idle }

-- ---- a slot

-- refused with 1 or 12: no state changes
abbrev pub unchanged : Refusal → Receiver → Received
unchanged why self = record { answer = Err why; next = self }

-- is it a slot of 48 bytes, with 825 bytes of packet memory?
abbrev pub fits : List ℕ → List ℕ → Bool
fits slot m = eqb (length slot) 48 && eqb (length m) 825

-- what the automaton does at what a slot says
abbrev pub taken : State → List ℕ → Seen → Received
taken st m s = received_from (step.next st s) (step.answer st m s)

-- 1, then 12, then what the slot says
unfoldable pub received_of : Receiver → List ℕ → List ℕ → Received
received_of self slot m =
    cond (fits slot m)
    (cond (within self.phase) (taken (state_of self) m (see slot)) (unchanged BadState self))
    (unchanged WrongLength self)

-- packet memory afterwards
unfoldable pub memory_of : Receiver → List ℕ → List ℕ → List ℕ
memory_of self slot m = cond (fits slot m && within self.phase) (step.kept (state_of self) m (see slot)) m

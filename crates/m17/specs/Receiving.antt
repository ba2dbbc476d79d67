-- The slot receiver's state and answers as structs of numbers and arrays. Assumes nothing.
use Rattle.std.specs.Prelude.{cond, ℕ, eqb}
use Rattle.refusal.specs.Number.{number_of, said_of}
use Rattle.refusal.specs.declared.Refusal.TheVariants.{WrongLength, BadState}
use Rattle.bits.specs.Bits.{bit}
use Rattle.receiver.specs.declared.Phase.{Phase}
use Rattle.receiver.specs.declared.Phase.TheVariants.{Idle, Packet, Gathering}
use Rattle.receiver.specs.declared.Receiver.{Receiver}
use Rattle.receiver.specs.declared.Received.{Received}
use Rattle.receiver.specs.Numbers.{answer_number, answer_count, header_in, stream_in}
use Rattle.m17.specs.declared.M17Receiver.{M17Receiver}
use Rattle.m17.specs.declared.M17Received.{M17Received}

-- ---- states: 0 idle, 1 in a packet expecting frame `count`, 2 gathering with `count` parts; any other phase is refused with 12

-- what any other phase is taken for: a packet expecting frame 33, which no run comes to and the receiver refuses with 12
abbrev pub bad_phase : Phase
bad_phase = Packet 33

abbrev pub phase_from : ℕ → ℕ → Phase
phase_from phase count = cond (eqb phase 0) Idle (cond (eqb phase 1) (Packet count) (cond (eqb phase 2) (Gathering count) bad_phase))

abbrev pub held_by : M17Receiver → Receiver
held_by s = record { phase = phase_from s.phase s.count; parts = s.parts }

abbrev pub phase_number : Phase → ℕ
phase_number Idle = 0
phase_number (Packet n) = 1
phase_number (Gathering k) = 2

abbrev pub phase_count : Phase → ℕ
phase_count Idle = 0
phase_count (Packet n) = n
phase_count (Gathering k) = k

abbrev pub state_for : Receiver → M17Receiver
state_for r = record { count = phase_count r.phase; phase = phase_number r.phase; parts = r.parts }

-- ---- answers

-- 1 and 12 leave the state as it was given
abbrev pub next_for : ℕ → M17Receiver → Receiver → M17Receiver
next_for said s r = cond (eqb said (number_of WrongLength)) s (cond (eqb said (number_of BadState)) s (state_for r))

abbrev pub crossed : M17Receiver → Received → M17Received
crossed s r =
    record {
      number = answer_count r.answer;
      next = next_for (said_of r.answer) s r.next;
      frame_number = (stream_in r.answer).frame_number;
      said = said_of r.answer;
      answer = answer_number r.answer;
      header = header_in r.answer;
      lich_idx = (stream_in r.answer).lich_idx;
      lich_part = (stream_in r.answer).lich_part;
      end_of_stream = bit (stream_in r.answer).end_of_stream;
      stream_data = (stream_in r.answer).stream_data;
    }

-- Slots of bytes fed to a receiver, as what they say fed to the automaton: the state that the code holds is the automaton's, its memory too,
-- and what a caller hears is what the automaton says. Assumes nothing.
use mathlib.Core.Path.{◌≡◌, refl, ap, ap₂, ◌∙◌}
use mathlib.Core.Bool.{Bool, true, false, cond}
use mathlib.Core.List.{List, []}
use Prim.Native.Nat.{ℕ, ◌-◌, ◌*◌, ◌<◌}
use native.Mathlib.Omega.{arith}
use lib.Dec.{eqb}
use lib.ListN.{length, take, drop, replicate}
use lib.Seq.{take_at}
use borrow.Author.Tests.{eq-eqb, ne_eqb, eqb-true, eqb-false, le-leb}
use Rattle.laws.specs.Value.{value_of}
use Rattle.std.specs.Prelude.{Result, Ok, Err}
use Rattle.refusal.specs.declared.Refusal.{Refusal}
use Rattle.refusal.specs.declared.Refusal.TheVariants.{BadHeader, WrongLength, UnknownSync}
use Rattle.crc.specs.Crc.{crc}
use Rattle.protocol.specs.declared.LsfFrame.{LsfFrame}
use Rattle.protocol.specs.declared.StreamFrame.{StreamFrame}
use Rattle.protocol.specs.declared.PacketFrame.{PacketFrame}
use Rattle.protocol.specs.declared.PacketFrameCounter.{PacketFrameCounter}
use Rattle.protocol.specs.declared.PacketFrameCounter.TheVariants.{Frame, FinalFrame}
use Rattle.decode.specs.Bodies.{lsf_read_of, stream_read_of, packet_read_of}
use Rattle.decode.proofs.Ranges.{lsf_range, stream_range, number_in, packet_range}
use Rattle.automaton.specs.Seen.{Seen, head, end, unread, Sound}
use Rattle.automaton.specs.Step as step
use Rattle.automaton.specs.Step.{State, idle, in_packet, gathering, Answer, answer, kept}
use Rattle.automaton.specs.Runs.{Slots, ◌▸◌, AllSound, state, memory, handed, Said, said}
use Rattle.automaton.specs.Demand3.{Bounded}
use Rattle.automaton.proofs.Bounds.{bounded, memory_long}
use Rattle.receiver.specs.declared.Receiver.{Receiver}
use Rattle.receiver.specs.declared.Received.{Received}
use Rattle.receiver.specs.See.{header_seen, stream_seen, counted, packet_seen, seen_by, see}
use Rattle.receiver.specs.Receiver.{state_of, within, phase_for, receiver_for, answer_for, unchanged, taken, received_of, memory_of}
use Rattle.receiver.specs.Runs.{Fed, start, ◌▹◌, Held, fed, after, handed_out_bytes, hearing, Heard, heard, heard_by, seen_of}
use Rattle.demands.specs.Slots.{holding}

-- ---- every reading is sound

either : (b : Bool) (x y : Seen) → Sound x → Sound y → Sound (cond b x y)
either true x y p q = p
either false x y p q = q

header_sound : (r : Result LsfFrame Refusal) → ((f : LsfFrame) → r ≡ Ok f → length f.bytes ≡ 30) → Sound (header_seen r)
header_sound (Ok f) o = either (eqb (crc f.bytes) 0) (head f.bytes) (unread BadHeader) (o f refl) tt
header_sound (Err why) o = tt

stream_sound : (r : Result StreamFrame Refusal) → ((f : StreamFrame) → r ≡ Ok f → (f.lich_idx < 8) × (length f.lich_part ≡ 5)) → Sound (stream_seen r)
stream_sound (Ok f) o = (omega (arith, (o f refl).0), (o f refl).1)
stream_sound (Err why) o = tt

counted_sound : (c : PacketFrameCounter) (b : List ℕ) → number_in c < 32 → length b ≡ 25 → Sound (counted c b)
counted_sound (Frame k) b n e = (omega arith, e)
counted_sound (FinalFrame len) b n e = (omega arith, e)

packet_sound : (r : Result PacketFrame Refusal) → ((f : PacketFrame) → r ≡ Ok f → (number_in f.counter < 32) × (length f.payload ≡ 25)) → Sound (packet_seen r)
packet_sound (Ok f) o = counted_sound f.counter f.payload (o f refl).0 (o f refl).1
packet_sound (Err why) o = tt

sound_by : (sync : ℕ) (body : List ℕ) → Sound (seen_by sync body)
sound_by sync body =
    either (eqb sync 0x55F7) _ _ (header_sound (lsf_read_of body) (λ f e. (lsf_range body f e).long))
    (either (eqb sync 0xFF5D) _ _ (stream_sound (stream_read_of body) (λ f e. let r = stream_range body f e in (r.index, r.part.long)))
    (either (eqb sync 0x75FF) _ _ (packet_sound (packet_read_of body) (λ f e. let r = packet_range body f e in (r.number, r.payload.long)))
    (either (eqb sync 0x555D) end (unread UnknownSync) tt tt)))

pub sound : (x : List ℕ) → Sound (see x)
unfolding see
sound x = sound_by (value_of (take 2 x)) (drop 2 x)

more_sound : (b : Bool) (past : Slots) (x : List ℕ) → AllSound past → AllSound (cond b (past ▸ see x) past)
more_sound true past x o = (o, sound x)
more_sound false past x o = o

pub all_sound : (past : Fed) → AllSound (seen_of past)
unfolding seen_of
all_sound start = tt
all_sound (past ▹ x) = more_sound (eqb (length x) 48) (seen_of past) x (all_sound past)

-- ---- one slot

-- the code's state means the automaton's, and is not refused with 12
meaning_back : (st : State) → Bounded st → (state_of (receiver_for st) ≡ st) × (within (phase_for st) ≡ true)
meaning_back idle o = (refl, refl)
meaning_back (in_packet n) o = (refl, le-leb n 32 o)
meaning_back (gathering k q) o = (ap (gathering k) (take_at q (replicate (30 - length q) 0) (5 * k) o.2), le-leb k 5 o.1)

module _ (st : State) (m x : List ℕ) where
  abbrev self : Receiver
  self = receiver_for st

  module _ (o : Bounded st) (room : length m ≡ 825) (long : length x ≡ 48) where
    pub received_is : received_of self x m ≡ taken st m (see x)
    unfolding received_of
    received_is =
        rw (eq-eqb (length x) 48 long, eq-eqb (length m) 825 room, (meaning_back st o).1) (ap (λ (s : State). taken s m (see x)) (meaning_back st o).0)

    pub memory_is : memory_of self x m ≡ kept st m (see x)
    unfolding memory_of
    memory_is =
        rw (eq-eqb (length x) 48 long, eq-eqb (length m) 825 room, (meaning_back st o).1) (ap (λ (s : State). kept s m (see x)) (meaning_back st o).0)

  -- a slot of another length is none
  pub no_slot_lem : (length x ≡ 48 → ⊥) → (received_of self x m ≡ unchanged WrongLength self) × (memory_of self x m ≡ m)
  unfolding received_of memory_of
  no_slot_lem n = (rw (ne_eqb (length x) 48 n), rw (ne_eqb (length x) 48 n))

-- ---- runs

-- what the automaton says, in the code's values
abbrev pub heard_for : Said → Heard
heard_for s = record { answer = answer_for s.answer; bytes = s.bytes }

handed_is : (a : Answer) (m : List ℕ) → handed_out_bytes (answer_for a) m ≡ handed a m
handed_is (step.header h) m = refl
handed_is (step.stored k) m = refl
handed_is (step.packet total) m = refl
handed_is (step.fields c p f l) m = refl
handed_is step.ended m = refl
handed_is (step.refused why) m = refl

-- what is heard at a slot of another length than 48
abbrev pub no_slot : Heard
no_slot = record { answer = Err WrongLength; bytes = [] }

module _ (m : List ℕ) (room : length m ≡ 825) where
  pub after_is : (past : Fed) → after m past ≡ holding (state (seen_of past)) (memory m (seen_of past))
  unfolding after seen_of state memory
  after_is start = refl
  after_is (past ▹ x) = ap (λ (h : Held). fed h x) (after_is past) ∙ by (eqb (length x) 48) refl
    where
      st : State
      st = state (seen_of past)

      mem : List ℕ
      mem = memory m (seen_of past)

      by : (b : Bool) → eqb (length x) 48 ≡ b
          → fed (holding st mem) x ≡ holding (state (cond b (seen_of past ▸ see x) (seen_of past))) (memory m (cond b (seen_of past ▸ see x) (seen_of past)))
      by true e =
          let o = bounded (seen_of past) (all_sound past) in
          let long = memory_long m (seen_of past) (all_sound past) room in
          let n = eqb-true (length x) 48 e in
          ap₂ (λ (r : Received) (k : List ℕ). record { receiver = r.next; memory = k }) (received_is st mem x o long n) (memory_is st mem x o long n)
      by false e =
          let n = no_slot_lem st mem x (eqb-false (length x) 48 e) in
          ap₂ (λ (r : Received) (k : List ℕ). record { receiver = r.next; memory = k }) n.0 n.1

  pub heard_is : (past : Fed) (x : List ℕ) → length x ≡ 48 → heard m past x ≡ heard_for (said m (seen_of past) (see x))
  heard_is past x long =
      let st = state (seen_of past) in
      let mem = memory m (seen_of past) in
      let o = bounded (seen_of past) (all_sound past) in
      let full = memory_long m (seen_of past) (all_sound past) room in
      ap (λ (h : Held). heard_by h x) (after_is past)
      ∙ ap₂ hearing (received_is st mem x o full long) (memory_is st mem x o full long)
      ∙ ap (λ (b : List ℕ). record { answer = answer_for (answer st mem (see x)); bytes = b }) (handed_is (answer st mem (see x)) (kept st mem (see x)))

  pub heard_none : (past : Fed) (x : List ℕ) → (length x ≡ 48 → ⊥) → heard m past x ≡ no_slot
  heard_none past x n =
      let none = no_slot_lem (state (seen_of past)) (memory m (seen_of past)) x n in
      ap (λ (h : Held). heard_by h x) (after_is past) ∙ ap₂ hearing none.0 none.1

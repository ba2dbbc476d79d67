-- What a slot is answered with at any point of a run, and what it leaves, as the record says. Assumes nothing.
use mathlib.Core.Path.{◌≡◌, refl, sym, ap, ap₂, ◌∙◌, subst}
use mathlib.Core.Logic.{◌↔◌}
use mathlib.Core.Bool.{Bool, true, false, cond}
use mathlib.Core.List.{List, []}
use Prim.Native.Nat.{ℕ, ◌+◌, ◌*◌, ◌%◌, ◌≤◌, ◌<◌}
use native.Mathlib.Omega.{arith}
use native.Mathlib.Decide.{ℕ_discrete}
use lib.Dec.{eqb}
use lib.ListN.{length, get_or, take, drop, length-drop}
use lib.Seq.{get_or-drop}
use borrow.Author.Tests.{eq-eqb, ne_eqb, eqb-true}
use Rattle.laws.specs.Value.{value_of}
use Rattle.refusal.specs.Number.{number_of}
use Rattle.refusal.specs.declared.Refusal.{Refusal}
use Rattle.refusal.specs.declared.Refusal.TheVariants.{WrongLength, BadHeader, UnknownSync, OutOfTurn, BadFinal, TooShort, BadPacket, BadState}
use Rattle.std.specs.Prelude.{Result, Ok, Err}
use Rattle.crc.specs.Crc.{crc}
use Rattle.protocol.specs.declared.LsfFrame.{LsfFrame}
use Rattle.protocol.specs.declared.StreamFrame.{StreamFrame}
use Rattle.protocol.specs.declared.PacketFrame.{PacketFrame}
use Rattle.protocol.specs.declared.PacketFrameCounter.{PacketFrameCounter}
use Rattle.protocol.specs.declared.PacketFrameCounter.TheVariants.{Frame, FinalFrame}
use Rattle.protocol.specs.Numbers.{mode_of}
use Rattle.protocol.specs.Fields.{type_bytes, mode_bits, field}
use Rattle.protocol.specs.Header.{header}
use Rattle.protocol.proofs.Whole.{field_bytes}
use Rattle.protocol.proofs.TypeBits.{type_read}
use Rattle.decode.proofs.Words.{value_two}
use Rattle.decode.specs.Bodies.{lsf_read_of, stream_read_of, packet_read_of}
use Rattle.automaton.specs.Seen.{Seen, head, piece, end, unread, streams, is_stream}
use Rattle.automaton.specs.Step as step
use Rattle.automaton.specs.Runs.{AllSound, state, memory, handed, said}
use Rattle.automaton.proofs.Cases.{never, by_test}
use Rattle.automaton.specs.Demand3.{ByAnswer}
use Rattle.automaton.proofs.ByAnswer.{by_answer}
use Rattle.automaton.specs.Opened.{Pieces}
use Rattle.automaton.proofs.Opened.{opened}
use Rattle.automaton.proofs.Refusals.{expected, in_turn}
use Rattle.automaton.proofs.Demand3.{over_seen}
use Rattle.receiver.specs.declared.Receiver.{Receiver}
use Rattle.receiver.specs.declared.Late.{Late}
use Rattle.receiver.specs.declared.Late.TheVariants as Lates
use Rattle.receiver.specs.declared.Answer.{Answer}
use Rattle.receiver.specs.declared.Answer.TheVariants as Answers
use Rattle.receiver.specs.See.{header_seen, seen_stream, stream_seen, counted, packet_seen, see}
use Rattle.receiver.specs.Receiver.{within, fits, late_for, answer_for, unchanged, received_of, memory_of}
use Rattle.receiver.specs.Numbers.{no_header, header_in, no_stream, stream_in}
use Rattle.receiver.specs.Runs.{Fed, ◌▹◌, Held, after, Heard, heard, seen_of}
use Rattle.demands.specs.Frames.{Header}
use Rattle.demands.specs.Slots.{HeaderSlot, holding}
use Rattle.demands.specs.EachSlot.{EachSlot}
use Rattle.demands.proofs.AsSeen.{all_sound, after_is, heard_for, heard_is}
use Rattle.demands.proofs.Sees.{header_says}
use Rattle.demands.proofs.Alone.{not_alone}

-- ---- what a slot says, by its sync word

module _ (x : List ℕ) where
  stream_says : value_of (take 2 x) ≡ 0xFF5D → see x ≡ stream_seen (stream_read_of (drop 2 x))
  unfolding see
  stream_says e = rw e

  header_sync : value_of (take 2 x) ≡ 0x55F7 → see x ≡ header_seen (lsf_read_of (drop 2 x))
  unfolding see
  header_sync e = rw e

  packet_says : value_of (take 2 x) ≡ 0x75FF → see x ≡ packet_seen (packet_read_of (drop 2 x))
  unfolding see
  packet_says e = rw e

  end_says : value_of (take 2 x) ≡ 0x555D → see x ≡ end
  unfolding see
  end_says e = rw e

  unknown_says : (value_of (take 2 x) ≡ 0x55F7 → ⊥) → (value_of (take 2 x) ≡ 0xFF5D → ⊥) → (value_of (take 2 x) ≡ 0x75FF → ⊥) → (value_of (take 2 x) ≡ 0x555D → ⊥)
      → see x ≡ unread UnknownSync
  unfolding see
  unknown_says a b c d =
      rw (ne_eqb (value_of (take 2 x)) 0x55F7 a, ne_eqb (value_of (take 2 x)) 0xFF5D b, ne_eqb (value_of (take 2 x)) 0x75FF c, ne_eqb (value_of (take 2 x)) 0x555D d)

-- ---- only a header slot says `head`

stream_no_head : (r : Result StreamFrame Refusal) (h : List ℕ) → stream_seen r ≡ head h → ⊥
stream_no_head (Ok f) h e = never (cc)
stream_no_head (Err why) h e = never (cc)

counted_no_head : (c : PacketFrameCounter) (b h : List ℕ) → counted c b ≡ head h → ⊥
counted_no_head (Frame k) b h e = never (cc)
counted_no_head (FinalFrame len) b h e = never (cc)

packet_no_head : (r : Result PacketFrame Refusal) (h : List ℕ) → packet_seen r ≡ head h → ⊥
packet_no_head (Ok f) h e = counted_no_head f.counter f.payload h e
packet_no_head (Err why) h e = never (cc)

header_head : (r : Result LsfFrame Refusal) (h : List ℕ) → header_seen r ≡ head h → (r ≡ Ok (header h)) × (crc h ≡ 0)
header_head (Ok f) h e =
    by_test (λ (s : Seen). s ≡ head h → (◌≡◌ {A = Result LsfFrame Refusal} (Ok f) (Ok (header h))) × (crc h ≡ 0)) (eqb (crc f.bytes) 0)
    (λ z q. let b : f.bytes ≡ h = cc in (ap {B = Result LsfFrame Refusal} (λ (l : List ℕ). Ok (header l)) b, sym (ap crc b) ∙ eqb-true _ 0 z))
    (λ z q. never (cc)) e
header_head (Err why) h e = never (cc)

head_only : (x h : List ℕ) → length x ≡ 48 → see x ≡ head h → HeaderSlot x h
unfolding see
head_only x h long =
    by_test (λ (s : Seen). s ≡ head h → HeaderSlot x h) (eqb sync 0x55F7)
    (λ e q. let k = header_head (lsf_read_of body) h q in record { long = long; sync = eqb-true sync 0x55F7 e; reads = k.0; good = k.1 })
    (λ e. by_test (λ (s : Seen). s ≡ head h → HeaderSlot x h) (eqb sync 0xFF5D)
    (λ f q. absurd (stream_no_head (stream_read_of body) h q))
    (λ f. by_test (λ (s : Seen). s ≡ head h → HeaderSlot x h) (eqb sync 0x75FF)
    (λ g q. absurd (packet_no_head (packet_read_of body) h q))
    (λ g. by_test (λ (s : Seen). s ≡ head h → HeaderSlot x h) (eqb sync 0x555D) (λ i q. never (cc)) (λ i q. never (cc)))))
  where
    sync : ℕ
    sync = value_of (take 2 x)

    body : List ℕ
    body = drop 2 x

-- ---- one slot of a run

header_only_answer : (a : step.Answer) (h : List ℕ) → answer_for a ≡ Ok (Answers.Header h) → a ≡ step.header h
header_only_answer (step.header b) h e = cc
header_only_answer (step.stored k) h e = never (cc)
header_only_answer (step.packet t) h e = never (cc)
header_only_answer (step.fields c p f l) h e = never (cc)
header_only_answer step.ended h e = never (cc)
header_only_answer (step.refused why) h e = never (cc)

pub refused_only : (a : step.Answer) (why : Refusal) → answer_for a ≡ Err why → a ≡ step.refused why
refused_only (step.header h) why e = never (cc)
refused_only (step.stored k) why e = never (cc)
refused_only (step.packet t) why e = never (cc)
refused_only (step.fields c p f l) why e = never (cc)
refused_only step.ended why e = never (cc)
refused_only (step.refused w) why e = cc

stored_only : (a : step.Answer) (k : ℕ) → answer_for a ≡ Ok (Answers.Stored k) → a ≡ step.stored k
stored_only (step.header h) k e = never (cc)
stored_only (step.stored j) k e = cc
stored_only (step.packet t) k e = never (cc)
stored_only (step.fields c p f l) k e = never (cc)
stored_only step.ended k e = never (cc)
stored_only (step.refused why) k e = never (cc)

turn : (b : Bool) (k : ℕ) → cond b (step.stored k) (step.refused OutOfTurn) ≡ step.stored k → b ≡ true
turn true k e = refl
turn false k e = never (cc)

-- ---- type bit 0

by_bit : (n : ℕ) → n < 2 → streams (mode_of n) ≡ eqb n 1
by_bit n h = elim (ℕ_discrete n 0) [
  | yes e ↦ rw e
  | no z ↦ let e : n ≡ 1 = omega arith in rw e
]

type_bit : (h : List ℕ) → Header (record { bytes = h }) → is_stream h ≡ eqb (get_or h 13 0 % 2) 1
type_bit h o =
    let t = field type_bytes h in
    let left : 2 ≤ length (drop 12 h) = omega (arith, length-drop 12 h, o.long) in
    let v : t ≡ get_or h 12 0 * 256 + get_or h 13 0 =
    field_bytes h (record { long = o.long; bytes = o.bytes }) 12 2 (omega arith) ∙ value_two (drop 12 h) left ∙ ap₂ (λ (a b : ℕ). a * 256 + b) (get_or-drop 12 h 0 0) (get_or-drop 12 h 1 0) in
    let r : field mode_bits h ≡ get_or h 13 0 % 2 = type_read 0 1 h (omega arith) t refl ∙ omega arith in
    ap (λ (n : ℕ). streams (mode_of n)) r ∙ by_bit (get_or h 13 0 % 2) (omega arith)

module _ (m : List ℕ) (past : Fed) (x : List ℕ) (room : length m ≡ 825) (long : length x ≡ 48) where
  at_seen : (s : Seen) → see x ≡ s → heard m past x ≡ heard_for (said m (seen_of past) s)
  at_seen s e = heard_is m room past x long ∙ ap (λ (t : Seen). heard_for (said m (seen_of past) t)) e

  slot_after : after m (past ▹ x) ≡ holding (step.next (state (seen_of past)) (see x)) (step.kept (state (seen_of past)) (memory m (seen_of past)) (see x))
  unfolding seen_of state memory
  slot_after = after_is m room (past ▹ x) ∙ rw (eq-eqb (length x) 48 long)

  unread-heard : (why : Refusal) → see x ≡ unread why → (heard m past x).answer ≡ Err why
  unfolding step.answer
  unread-heard why e = ap (λ (k : Heard). k.answer) (at_seen (unread why) e)

  refusal_keeps : (why : Refusal) → (heard m past x).answer ≡ Err why
      → (heard m past x ≡ record { answer = Err why; bytes = [] })
      × (after m (past ▹ x) ≡ holding step.idle (after m past).memory)
  refusal_keeps why e =
      let st = state (seen_of past) in
      let mem = memory m (seen_of past) in
      let is = heard_is m room past x long in
      let a = refused_only (step.answer st mem (see x)) why (sym (ap (λ (k : Heard). k.answer) is) ∙ e) in
      let k = subst (ByAnswer st mem (see x)) a (by_answer st mem (see x)) in (
        is ∙ ap (λ (b : step.Answer). heard_for (record { answer = b; bytes = handed b (step.kept st mem (see x)) })) a,
        slot_after ∙ ap₂ holding k.0 (k.1 ∙ sym (ap (λ (h : Held). h.memory) (after_is m room past))),
      )

  end_answered : value_of (take 2 x) ≡ 0x555D
      → (heard m past x ≡ record { answer = Ok Answers.Ended; bytes = [] })
      × (after m (past ▹ x) ≡ holding step.idle (after m past).memory)
  unfolding step.next step.answer step.kept
  end_answered e = (
    at_seen end (end_says x e),
    slot_after
        ∙ ap (λ (s : Seen). holding (step.next (state (seen_of past)) s) (step.kept (state (seen_of past)) (memory m (seen_of past)) s)) (end_says x e)
        ∙ ap (holding step.idle) (sym (ap (λ (h : Held). h.memory) (after_is m room past))),
  )

  stream_answered : (f : StreamFrame) → value_of (take 2 x) ≡ 0xFF5D → stream_read_of (drop 2 x) ≡ Ok f
      → (l : Late) × ((heard m past x).answer ≡ Ok (Answers.Stream f l))
  unfolding step.answer
  stream_answered f e q =
      let is = at_seen (seen_stream f) (stream_says x e ∙ ap stream_seen q) in
      (late_for (step.late_of (state (seen_of past)) f.lich_idx f.lich_part), ap (λ (k : Heard). k.answer) is)

  header_only : (h : List ℕ) → (heard m past x).answer ≡ Ok (Answers.Header h) → HeaderSlot x h
  header_only h e =
      let st = state (seen_of past) in
      let mem = memory m (seen_of past) in
      let is = heard_is m room past x long in
      let a = header_only_answer (step.answer st mem (see x)) h (sym (ap (λ (k : Heard). k.answer) is) ∙ e) in
      let k = subst (ByAnswer st mem (see x)) a (by_answer st mem (see x)) in
      head_only x h long k.0

  -- ---- stored pieces

  stored_exactly : (k : ℕ) → ((heard m past x).answer ≡ Ok (Answers.Stored k)) ↔ ((b : List ℕ) × (see x ≡ piece k b) × Pieces k (seen_of past))
  unfolding step.answer
  stored_exactly k = (only, if)
    where
      only : (heard m past x).answer ≡ Ok (Answers.Stored k) → (b : List ℕ) × (see x ≡ piece k b) × Pieces k (seen_of past)
      only e =
          let st = state (seen_of past) in
          let mem = memory m (seen_of past) in
          let a = stored_only (step.answer st mem (see x)) k (sym (ap (λ (q : Heard). q.answer) (heard_is m room past x long)) ∙ e) in
          let (b, slot, is) = subst (ByAnswer st mem (see x)) a (by_answer st mem (see x)) in
          (b, slot, expected st k (seen_of past) (turn (step.expects st k) k (sym (ap (step.answer st mem) slot) ∙ a)) (opened (seen_of past)))

      if : (b : List ℕ) × (see x ≡ piece k b) × Pieces k (seen_of past) → (heard m past x).answer ≡ Ok (Answers.Stored k)
      if (b, slot, g) =
          ap (λ (q : Heard). q.answer) (at_seen (piece k b) slot) ∙ rw (in_turn m (seen_of past) (all_sound past) k g, eq-eqb k k refl)

  -- ---- refused pieces

  -- a number from 8 on, which no slot is refused with by itself, is heard exactly when the automaton says it
  refused_when : (why : Refusal) → 8 ≤ number_of why → {A : Type 0}
      → (AllSound (seen_of past) → (see x ≡ unread why → ⊥) → ((said m (seen_of past) (see x)).answer ≡ step.refused why) ↔ A)
      → ((heard m past x).answer ≡ Err why) ↔ A
  refused_when why over when =
      let is = ap (λ (q : Heard). q.answer) (heard_is m room past x long) in
      let k = when (all_sound past) (not_alone x why long over) in
      (λ e. k.0 (refused_only _ why (sym is ∙ e)), λ a. is ∙ ap answer_for (k.1 a))

header_answered : (m : List ℕ) (past : Fed) (x h : List ℕ) → length m ≡ 825 → HeaderSlot x h
    → heard m past x ≡ record { answer = Ok (Answers.Header h); bytes = [] }
unfolding step.answer step.kept
header_answered m past x h room k = at_seen m past x room k.long (head h) (header_says x h k)

pub refused_1 : (r : Receiver) (x m : List ℕ) → fits x m ≡ false → (received_of r x m ≡ unchanged WrongLength r) × (memory_of r x m ≡ m)
unfolding received_of memory_of
refused_1 r x m e = (rw e, rw e)

pub refused_12 : (r : Receiver) (x m : List ℕ) → fits x m ≡ true → within r.phase ≡ false → (received_of r x m ≡ unchanged BadState r) × (memory_of r x m ≡ m)
unfolding received_of memory_of
refused_12 r x m e w = (rw (e, w), rw (e, w))

-- ---- what an answer carries

header_beside : (a : Result Answer Refusal) → ((h : List ℕ) → a ≡ Ok (Answers.Header h) → ⊥) → ((f : StreamFrame) (h : List ℕ) → a ≡ Ok (Answers.Stream f (Lates.Header h)) → ⊥)
    → header_in a ≡ no_header
header_beside (Ok (Answers.Header h)) n l = absurd (n h refl)
header_beside (Ok (Answers.Stored k)) n l = refl
header_beside (Ok (Answers.Packet total)) n l = refl
header_beside (Ok (Answers.Stream f Lates.Nothing)) n l = refl
header_beside (Ok (Answers.Stream f (Lates.Header h))) n l = absurd (l f h refl)
header_beside (Ok (Answers.Stream f Lates.Spoiled)) n l = refl
header_beside (Ok Answers.Ended) n l = refl
header_beside (Err why) n l = refl

stream_beside : (a : Result Answer Refusal) → ((f : StreamFrame) (l : Late) → a ≡ Ok (Answers.Stream f l) → ⊥) → stream_in a ≡ no_stream
stream_beside (Ok (Answers.Header h)) n = refl
stream_beside (Ok (Answers.Stored k)) n = refl
stream_beside (Ok (Answers.Packet total)) n = refl
stream_beside (Ok (Answers.Stream f l)) n = absurd (n f l refl)
stream_beside (Ok Answers.Ended) n = refl
stream_beside (Err why) n = refl

pub each_slot : EachSlot
each_slot =
    record {
      as_seen = λ m past room. after_is m room past;
      header_answered = header_answered;
      header_only = λ m past x h room long e. header_only m past x room long h e;
      type_bit = type_bit;
      stored_exactly = λ m past x k room long. stored_exactly m past x room long k;
      stream_answered = λ m past x f room long e q. stream_answered m past x room long f e q;
      header_beside = λ m past x. header_beside (heard m past x).answer;
      stream_beside = λ m past x. stream_beside (heard m past x).answer;
      end_answered = end_answered;
      refused_7 = λ m past x room long a b c d. unread-heard m past x room long UnknownSync (unknown_says x a b c d);
      header_refused = λ m past x why room long e q. unread-heard m past x room long why (header_sync x e ∙ ap header_seen q);
      refused_5 =
          λ m past x f room long e q z. unread-heard m past x room long BadHeader (header_sync x e ∙ ap header_seen q ∙ rw (ne_eqb (crc f.bytes) 0 z));
      stream_refused = λ m past x why room long e q. unread-heard m past x room long why (stream_says x e ∙ ap stream_seen q);
      packet_refused = λ m past x why room long e q. unread-heard m past x room long why (packet_says x e ∙ ap packet_seen q);
      refused_8 = λ m past x room long. refused_when m past x room long OutOfTurn (omega arith) (over_seen.refused_8 m (seen_of past) (see x));
      refused_9 = λ m past x room long. refused_when m past x room long BadFinal (omega arith) (over_seen.refused_9 m (seen_of past) (see x));
      refused_10 = λ m past x room long. refused_when m past x room long TooShort (omega arith) (over_seen.refused_10 m (seen_of past) (see x));
      refused_11 = λ m past x room long. refused_when m past x room long BadPacket (omega arith) (over_seen.refused_11 m (seen_of past) (see x));
      refusal_keeps = λ m past x why room long e. refusal_keeps m past x room long why e;
      refused_1 = refused_1;
      refused_12 = refused_12;
    }

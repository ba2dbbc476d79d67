-- Demand 3 holds. Assumes nothing.
use mathlib.Core.Path.{◌≡◌, refl, sym, ap, ap₂, ◌∙◌}
use mathlib.Core.Logic.{◌↔◌}
use mathlib.Core.Bool.{true}
use mathlib.Core.List.{List, [], ◌++◌}
use Prim.Native.Nat.{ℕ}
use native.Mathlib.Decide.{ℕ_discrete}
use lib.ListN.{length, drop}
use borrow.Author.Tests.{eq-eqb}
use Rattle.crc.specs.Crc.{crc}
use Rattle.automaton.specs.Seen.{Fields, Seen, head, piece, final, stream, end, unread}
use Rattle.automaton.specs.Step as step
use Rattle.automaton.specs.Runs as runs
use Rattle.automaton.specs.Runs.{Slots, ◌▸◌, memory, Said, said, Packet, Six}
use Rattle.automaton.proofs.Cases.{never}
use Rattle.automaton.proofs.Demand3.{over_seen}
use Rattle.std.specs.Prelude.{Ok}
use Rattle.protocol.specs.declared.StreamFrame.{StreamFrame}
use Rattle.receiver.specs.declared.Phase.TheVariants.{Idle, Gathering}
use Rattle.receiver.specs.declared.Receiver.{Receiver}
use Rattle.receiver.specs.declared.Late.TheVariants as Lates
use Rattle.receiver.specs.declared.Answer.TheVariants as Answers
use Rattle.receiver.specs.See.{see}
use Rattle.receiver.specs.Receiver.{state_of, within, fits, stream_frame, answer_for, received_from, taken, received_of, memory_of}
use Rattle.receiver.specs.Runs.{Fed, start, ◌▹◌, ◌▹▹◌, Held, after, Heard, heard, seen_of}
use Rattle.demands.specs.Slots.{HeaderSlot}
use Rattle.demands.specs.Demand3.{Demand3}
use Rattle.demands.proofs.AsSeen.{sound, all_sound, after_is, heard_for, heard_is, heard_none}
use Rattle.demands.proofs.Sees.{header_says, sees_of, sounds, seen_after}
use Rattle.demands.proofs.CleanRuns.{eleven, clean_packet}

-- ---- fresh

module _ (m m' : List ℕ) (past : Fed) (x h : List ℕ) (room : length m ≡ 825) (room' : length m' ≡ 825) (k : HeaderSlot x h) where
  fresh_header : heard m past x ≡ heard m' start x
  unfolding seen_of
  fresh_header =
      heard_is m room past x k.long
      ∙ ap heard_for
      (ap (said m (seen_of past)) (header_says x h k) ∙ over_seen.fresh_header m m' (seen_of past) h ∙ sym (ap (said m' runs.start) (header_says x h k)))
      ∙ sym (heard_is m' room' start x k.long)

  module _ (future : List (List ℕ)) (y : List ℕ) where
    fresh_long : length y ≡ 48 → heard m (past ▹ x ▹▹ future) y ≡ heard m' (start ▹ x ▹▹ future) y
    unfolding seen_of
    fresh_long l =
        heard_is m room (past ▹ x ▹▹ future) y l
        ∙ ap heard_for
        (ap (λ (p : Slots). said m p (see y)) (seen_after past x h future k)
        ∙ over_seen.fresh m m' (seen_of past) h (sees_of future) (sounds future) (see y) (sound y)
        ∙ sym (ap (λ (p : Slots). said m' p (see y)) (seen_after start x h future k)))
        ∙ sym (heard_is m' room' (start ▹ x ▹▹ future) y l)

    fresh : heard m (past ▹ x ▹▹ future) y ≡ heard m' (start ▹ x ▹▹ future) y
    fresh = elim (ℕ_discrete (length y) 48) [
      | yes l ↦ fresh_long l
      | no n ↦ heard_none m room (past ▹ x ▹▹ future) y n ∙ sym (heard_none m' room' (start ▹ x ▹▹ future) y n)
    ]

-- ---- handed out

packet_only : (a : step.Answer) (total : ℕ) → answer_for a ≡ Ok (Answers.Packet total) → a ≡ step.packet total
packet_only (step.header h) total e = never (cc)
packet_only (step.stored k) total e = never (cc)
packet_only (step.packet t) total e = cc
packet_only (step.fields c p f l) total e = never (cc)
packet_only step.ended total e = never (cc)
packet_only (step.refused why) total e = never (cc)

module _ (m : List ℕ) (past : Fed) (x : List ℕ) (room : length m ≡ 825) (long : length x ≡ 48) where
  says : Said
  says = said m (seen_of past) (see x)

  handed_out : (total : ℕ) (bytes : List ℕ)
      → (((heard m past x).answer ≡ Ok (Answers.Packet total)) × ((heard m past x).bytes ≡ bytes)) ↔ (Packet (seen_of past) (see x) bytes × (total ≡ length bytes))
  unfolding says
  handed_out total bytes = (only, if)
    where
      is : heard m past x ≡ heard_for says
      is = heard_is m room past x long

      both : (says ≡ record { answer = step.packet total; bytes = bytes }) ↔ (Packet (seen_of past) (see x) bytes × (total ≡ length bytes))
      both = over_seen.handed_out m (seen_of past) (see x) (all_sound past) (sound x) total bytes

      only : ((heard m past x).answer ≡ Ok (Answers.Packet total)) × ((heard m past x).bytes ≡ bytes) → Packet (seen_of past) (see x) bytes × (total ≡ length bytes)
      only e =
          both.0
          (ap₂ (λ (a : step.Answer) (b : List ℕ). record { answer = a; bytes = b })
          (packet_only says.answer total (sym (ap (λ (k : Heard). k.answer) is) ∙ e.0)) (sym (ap (λ (k : Heard). k.bytes) is) ∙ e.1))

      if : Packet (seen_of past) (see x) bytes × (total ≡ length bytes) → ((heard m past x).answer ≡ Ok (Answers.Packet total)) × ((heard m past x).bytes ≡ bytes)
      if k =
          let e = is ∙ ap heard_for (both.1 k) in
          (ap (λ (q : Heard). q.answer) e, ap (λ (q : Heard). q.bytes) e)

  only_those : (bytes : List ℕ) (k : Packet (seen_of past) (see x) bytes)
      → (after m (past ▹ x)).memory ≡ bytes ++ drop (length bytes) (memory m (k.before ▸ head k.h))
  unfolding seen_of memory
  only_those bytes k =
      ap (λ (h : Held). h.memory) (after_is m room (past ▹ x))
      ∙ rw (eq-eqb (length x) 48 long) (over_seen.only_those m (seen_of past) (all_sound past) (see x) (sound x) bytes k)

  -- ---- late headers

  late_header : (bytes : List ℕ)
      → ((g : StreamFrame) × ((heard m past x).answer ≡ Ok (Answers.Stream g (Lates.Header bytes))))
      ↔ ((p : List ℕ) × (f : Fields) × Six (seen_of past) (see x) p f bytes × (crc bytes ≡ 0))
  unfolding says
  late_header bytes = (only, if)
    where
      is : (heard m past x).answer ≡ answer_for says.answer
      is = ap (λ (k : Heard). k.answer) (heard_is m room past x long)

      at : (a : step.Answer) (g : StreamFrame) → says.answer ≡ a → answer_for a ≡ Ok (Answers.Stream g (Lates.Header bytes))
          → (p : List ℕ) × (f : Fields) × Six (seen_of past) (see x) p f bytes × (crc bytes ≡ 0)
      at (step.header h) g q e = never (cc)
      at (step.stored k) g q e = never (cc)
      at (step.packet t) g q e = never (cc)
      at (step.fields c p f step.nothing) g q e = never (cc)
      at (step.fields c p f (step.late h)) g q e =
          let b : h ≡ bytes = cc in
          let six = (over_seen.late_header m (seen_of past) (see x) c p f bytes).0 (q ∙ ap (λ (l : List ℕ). step.fields c p f (step.late l)) b) in
          (p, f, six.1, six.2)
      at (step.fields c p f step.spoiled) g q e = never (cc)
      at step.ended g q e = never (cc)
      at (step.refused why) g q e = never (cc)

      only : (g : StreamFrame) × ((heard m past x).answer ≡ Ok (Answers.Stream g (Lates.Header bytes)))
          → (p : List ℕ) × (f : Fields) × Six (seen_of past) (see x) p f bytes × (crc bytes ≡ 0)
      only (g, e) = at says.answer g refl (sym is ∙ e)

      if : (p : List ℕ) × (f : Fields) × Six (seen_of past) (see x) p f bytes × (crc bytes ≡ 0)
          → (g : StreamFrame) × ((heard m past x).answer ≡ Ok (Answers.Stream g (Lates.Header bytes)))
      if (p, f, six, z) = (stream_frame 5 p f, is ∙ ap answer_for ((over_seen.late_header m (seen_of past) (see x) 5 p f bytes).1 (refl, six, z)))

  spoiled_mark : ((g : StreamFrame) × ((heard m past x).answer ≡ Ok (Answers.Stream g Lates.Spoiled)))
      ↔ ((p : List ℕ) × (f : Fields) × (bytes : List ℕ) × Six (seen_of past) (see x) p f bytes × (crc bytes ≡ 0 → ⊥))
  unfolding says
  spoiled_mark = (only, if)
    where
      is : (heard m past x).answer ≡ answer_for says.answer
      is = ap (λ (k : Heard). k.answer) (heard_is m room past x long)

      at : (a : step.Answer) (g : StreamFrame) → says.answer ≡ a → answer_for a ≡ Ok (Answers.Stream g Lates.Spoiled)
          → (p : List ℕ) × (f : Fields) × (bytes : List ℕ) × Six (seen_of past) (see x) p f bytes × (crc bytes ≡ 0 → ⊥)
      at (step.header h) g q e = never (cc)
      at (step.stored k) g q e = never (cc)
      at (step.packet t) g q e = never (cc)
      at (step.fields c p f step.nothing) g q e = never (cc)
      at (step.fields c p f (step.late h)) g q e = never (cc)
      at (step.fields c p f step.spoiled) g q e = let (five, bytes, six, n) = (over_seen.spoiled_mark m (seen_of past) (see x) c p f).0 q in (p, f, bytes, six, n)
      at step.ended g q e = never (cc)
      at (step.refused why) g q e = never (cc)

      only : (g : StreamFrame) × ((heard m past x).answer ≡ Ok (Answers.Stream g Lates.Spoiled))
          → (p : List ℕ) × (f : Fields) × (bytes : List ℕ) × Six (seen_of past) (see x) p f bytes × (crc bytes ≡ 0 → ⊥)
      only (g, e) = at says.answer g refl (sym is ∙ e)

      if : (p : List ℕ) × (f : Fields) × (bytes : List ℕ) × Six (seen_of past) (see x) p f bytes × (crc bytes ≡ 0 → ⊥)
          → (g : StreamFrame) × ((heard m past x).answer ≡ Ok (Answers.Stream g Lates.Spoiled))
      if (p, f, bytes, six, n) = (stream_frame 5 p f, is ∙ ap answer_for ((over_seen.spoiled_mark m (seen_of past) (see x) 5 p f).1 (refl, bytes, six, n)))

-- ---- states

same_meaning : (r r' : Receiver) (x m : List ℕ) → fits x m ≡ true → within r.phase ≡ true → within r'.phase ≡ true → state_of r ≡ state_of r'
    → (received_of r x m ≡ received_of r' x m) × (memory_of r x m ≡ memory_of r' x m)
unfolding received_of memory_of
same_meaning r r' x m f w w' e =
    (rw (f, w, w') (ap (λ (st : step.State). taken st m (see x)) e), rw (f, w, w') (ap (λ (st : step.State). step.kept st m (see x)) e))

module _ (m : List ℕ) where
  next_alike : (s : Seen) → step.next (step.gathering 0 []) s ≡ step.next step.idle s
  unfolding step.next
  next_alike (head h) = refl
  next_alike (piece k b) = refl
  next_alike (final len b) = refl
  next_alike (stream c p f) = refl
  next_alike end = refl
  next_alike (unread why) = refl

  answer_alike : (s : Seen) → step.answer (step.gathering 0 []) m s ≡ step.answer step.idle m s
  unfolding step.answer
  answer_alike (head h) = refl
  answer_alike (piece k b) = refl
  answer_alike (final len b) = refl
  answer_alike (stream c p f) = refl
  answer_alike end = refl
  answer_alike (unread why) = refl

  kept_alike : (s : Seen) → step.kept (step.gathering 0 []) m s ≡ step.kept step.idle m s
  unfolding step.kept
  kept_alike (head h) = refl
  kept_alike (piece k b) = refl
  kept_alike (final len b) = refl
  kept_alike (stream c p f) = refl
  kept_alike end = refl
  kept_alike (unread why) = refl

none_gathered : (q q' x m : List ℕ) → fits x m ≡ true
    → (received_of (record { phase = Gathering 0; parts = q }) x m ≡ received_of (record { phase = Idle; parts = q' }) x m)
    × (memory_of (record { phase = Gathering 0; parts = q }) x m ≡ memory_of (record { phase = Idle; parts = q' }) x m)
unfolding received_of memory_of
none_gathered q q' x m f = (rw f (ap₂ received_from (next_alike m (see x)) (answer_alike m (see x))), rw f (kept_alike m (see x)))

pub demand_3 : Demand3
demand_3 =
    record {
      fresh_header = λ m m' past x h room room' k. fresh_header m m' past x h room room' k;
      fresh = λ m m' past x h future y room room' k. fresh m m' past x h room room' k future y;
      handed_out = handed_out;
      only_those = λ m past x bytes room long k. only_those m past x room long bytes k;
      late_header = late_header;
      spoiled_mark = spoiled_mark;
      eleven = λ m past h f i room o good ranges. eleven h f o ranges m past i room good;
      clean_packet = λ m past h p room o good packets some few bytes zero_crc. clean_packet p some few bytes m past h room o good packets zero_crc;
      same_meaning = same_meaning;
      none_gathered = none_gathered;
    }

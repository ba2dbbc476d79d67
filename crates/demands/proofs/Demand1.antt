-- Demand 1 holds: the facts of each crate, and the receiver's numbers. Assumes nothing.
use mathlib.Core.Path.{◌≡◌, refl, sym, ap, ◌∙◌, subst}
use mathlib.Core.Logic.{inl, inr}
use mathlib.Core.Bool.{Bool, true, false, cond, ◌&&◌}
use mathlib.Core.List.{List, [], ◌∷◌}
use Prim.Native.Nat.{ℕ, ◌*◌, ◌≤◌}
use native.Mathlib.Decide.{ℕ_discrete}
use native.Mathlib.Omega.{arith}
use lib.Dec.{eqb}
use lib.Ieee.{Float}
use lib.ListN.{length}
use borrow.Author.Tests.{eq-eqb, ne_eqb, eqb-true, lt-ltb, le-ltb}
use Rattle.refusal.specs.Number.{number_of, said_of}
use Rattle.refusal.specs.declared.Refusal.{Refusal}
use Rattle.refusal.specs.declared.Refusal.TheVariants.{WrongLength, OutOfTurn, BadFinal, TooShort, BadPacket, BadState}
use Rattle.std.specs.Prelude.{⊤, Option, Some, None, Result, Ok, Err}
use Rattle.refusal.proofs.Different.{different}
use Rattle.bits.specs.Bits.{bits_of}
use Rattle.bits.specs.Places as bits
use Rattle.bits.proofs.Getting as getting
use Rattle.bits.proofs.Setting as setting
use Rattle.interleave.specs.Interleave.{interleaved_of}
use Rattle.interleave.proofs.Twice as interleaving
use Rattle.address.specs.Address as address
use Rattle.address.proofs.Exactly as addresses
use Rattle.golay.proofs.Only as golay
use Rattle.fec.specs.declared.Kind.{Kind}
use Rattle.fec.specs.Kinds as fec
use Rattle.fec.specs.Nearest.{read_of}
use Rattle.fec.proofs.Bodies.{encoded_long, encoded_short, decoded_long, decoded_short}
use Rattle.fec.proofs.When as when
use Rattle.protocol.specs.declared.LichCollection.{LichCollection}
use Rattle.protocol.specs.Lich.{part_said, after_set}
use Rattle.protocol.specs.Header.{from_of, address_set_of, channel_set_of, new_of}
use Rattle.protocol.proofs.Exactly as headers
use Rattle.encode.specs.Lich.{lich_of}
use Rattle.encode.specs.Bodies.{lsf_body_of, stream_body_of, packet_body_of}
use Rattle.encode.specs.Symbols.{body_symbols_of, lsf_symbols_of, stream_symbols_of, packet_symbols_of}
use Rattle.encode.proofs.Exactly as writing
use Rattle.decode.specs.Bodies.{lsf_read_of, stream_read_of, packet_read_of}
use Rattle.decode.specs.Symbols.{body_from, body_read_of, initial_of, lsf_parsed_of, stream_parsed_of, packet_parsed_of}
use Rattle.decode.specs.When.{OneOf}
use Rattle.decode.proofs.LichWhen.{lich_when}
use Rattle.decode.proofs.When as reading
use Rattle.automaton.specs.Seen.{Seen, head, piece, final, stream, end, unread}
use Rattle.automaton.specs.Step as step
use Rattle.automaton.specs.Demand3.{ByAnswer}
use Rattle.automaton.proofs.Cases.{never, by_test}
use Rattle.automaton.proofs.ByAnswer.{by_answer}
use Rattle.automaton.proofs.Verdicts.{by_verdict}
use Rattle.automaton.proofs.Refusals.{told_only}
use Rattle.receiver.specs.declared.Receiver.{Receiver}
use Rattle.receiver.specs.declared.Received.{Received}
use Rattle.receiver.specs.See.{see}
use Rattle.receiver.specs.Receiver.{state_of, within, fits, unchanged, taken, received_of, memory_of}
use Rattle.demands.specs.Demand1.{ByLength, NoData, Demand1}
use Rattle.demands.proofs.Alone.{Alone, unread_number}
use Rattle.demands.proofs.EachSlot.{refused_only, refused_1, refused_12}

-- ---- leaves

set_said : (s : List ℕ) (i : ℕ) (b : Bool) → bits.within s i ≡ b → said_of (bits.set_of s i) ≡ cond b 0 2
set_said s i true e = rw e
set_said s i false e = rw e

coded : (k : Kind) (d : List ℕ) → ByLength (length d) (fec.data_bytes k) (said_of (fec.encoded_of k d))
coded k d = (λ n. ap said_of (encoded_short k d n), λ e. ap said_of (encoded_long k d e))

part_untouched : (c : ℕ) (part : List ℕ) (l : LichCollection) (why : Refusal) → part_said c part ≡ Err why → after_set c part l ≡ l
part_untouched c part l why e = rw e

-- a refusal carries no data
no_data : {A : Type 0} (r : Result A Refusal) → NoData r
no_data (Ok y) x why e f = never (cc)
no_data (Err w) x why e f = never (cc)

-- ---- symbols

module _ (xs : List Float) where
  body_parsed : ByLength (length xs) 192 (said_of (body_read_of xs))
  unfolding body_read_of
  body_parsed = (λ n. rw (ne_eqb (length xs) 192 n), λ e. rw (eq-eqb (length xs) 192 e))

  body_initial : ByLength (length xs) 192 (said_of (initial_of xs))
  unfolding initial_of
  body_initial = (λ n. rw (ne_eqb (length xs) 192 n), λ e. rw (eq-eqb (length xs) 192 e))

  header_parsed_1 : (length xs ≡ 192 → ⊥) → lsf_parsed_of xs ≡ Err WrongLength
  unfolding lsf_parsed_of
  header_parsed_1 n = rw (ne_eqb (length xs) 192 n)

  header_parsed : length xs ≡ 192 → lsf_parsed_of xs ≡ lsf_read_of (body_from xs)
  unfolding lsf_parsed_of
  header_parsed e = rw (eq-eqb (length xs) 192 e)

  stream_parsed_1 : (length xs ≡ 192 → ⊥) → stream_parsed_of xs ≡ Err WrongLength
  unfolding stream_parsed_of
  stream_parsed_1 n = rw (ne_eqb (length xs) 192 n)

  stream_parsed : length xs ≡ 192 → stream_parsed_of xs ≡ stream_read_of (body_from xs)
  unfolding stream_parsed_of
  stream_parsed e = rw (eq-eqb (length xs) 192 e)

  packet_parsed_1 : (length xs ≡ 192 → ⊥) → packet_parsed_of xs ≡ Err WrongLength
  unfolding packet_parsed_of
  packet_parsed_1 n = rw (ne_eqb (length xs) 192 n)

  packet_parsed : length xs ≡ 192 → packet_parsed_of xs ≡ packet_read_of (body_from xs)
  unfolding packet_parsed_of
  packet_parsed e = rw (eq-eqb (length xs) 192 e)

-- ---- the receiver's numbers

-- those of a slot by itself, and with them those of a packet slot
abbrev OfSlot : ℕ → Type 0
OfSlot n = OneOf n (3 ∷ 4 ∷ 5 ∷ 7 ∷ 8 ∷ 9 ∷ 10 ∷ 11 ∷ [])

wider : (n : ℕ) → Alone n → OfSlot n
wider n (inl e) = inl e
wider n (inr (inl e)) = inr (inl e)
wider n (inr (inr (inl e))) = inr (inr (inl e))
wider n (inr (inr (inr (inl e)))) = inr (inr (inr (inl e)))
wider n (inr (inr (inr (inr x)))) = elim x [ ]

of_slot : (n : ℕ) → OfSlot n → (3 ≤ n) × (n ≤ 11)
of_slot n (inl e) = rw e (omega arith, omega arith)
of_slot n (inr (inl e)) = rw e (omega arith, omega arith)
of_slot n (inr (inr (inl e))) = rw e (omega arith, omega arith)
of_slot n (inr (inr (inr (inl e)))) = rw e (omega arith, omega arith)
of_slot n (inr (inr (inr (inr (inl e))))) = rw e (omega arith, omega arith)
of_slot n (inr (inr (inr (inr (inr (inl e)))))) = rw e (omega arith, omega arith)
of_slot n (inr (inr (inr (inr (inr (inr (inl e))))))) = rw e (omega arith, omega arith)
of_slot n (inr (inr (inr (inr (inr (inr (inr (inl e)))))))) = rw e (omega arith, omega arith)
of_slot n (inr (inr (inr (inr (inr (inr (inr (inr x)))))))) = elim x [ ]

-- a final piece
verdict_number : (n len sum : ℕ) (w : Refusal) → step.verdict n len sum ≡ Err w → OfSlot (number_of w)
verdict_number n len sum w =
    by_verdict n len sum (λ v. v ≡ Err w → OfSlot (number_of w)) (λ k e. nine e) (λ k e. ten e) (λ k e. eleven e) (λ k e. never (cc))
  where
    nine : ◌≡◌ {A = Result ⊤ Refusal} (Err BadFinal) (Err w) → OfSlot (number_of w)
    nine e = let q : BadFinal ≡ w = cc in inr (inr (inr (inr (inr (inl (sym (ap number_of q)))))))

    ten : ◌≡◌ {A = Result ⊤ Refusal} (Err TooShort) (Err w) → OfSlot (number_of w)
    ten e = let q : TooShort ≡ w = cc in inr (inr (inr (inr (inr (inr (inl (sym (ap number_of q))))))))

    eleven : ◌≡◌ {A = Result ⊤ Refusal} (Err BadPacket) (Err w) → OfSlot (number_of w)
    eleven e = let q : BadPacket ≡ w = cc in inr (inr (inr (inr (inr (inr (inr (inl (sym (ap number_of q)))))))))

out_of_turn : (w : Refusal) → OutOfTurn ≡ w → OfSlot (number_of w)
out_of_turn w q = inr (inr (inr (inr (inl (sym (ap number_of q))))))

judge_number : (st : step.State) (m : List ℕ) (len : ℕ) (b : List ℕ) (w : Refusal) → step.judge st m len b ≡ Err w → OfSlot (number_of w)
judge_number step.idle m len b w e = out_of_turn w cc
judge_number (step.in_packet n) m len b w e = verdict_number n len _ w e
judge_number (step.gathering k q) m len b w e = out_of_turn w cc

-- what the automaton refuses a slot with
refused_number : (st : step.State) (m : List ℕ) (s : Seen) (w : Refusal) → ((v : Refusal) → s ≡ unread v → OfSlot (number_of v))
    → step.answer st m s ≡ step.refused w → OfSlot (number_of w)
unfolding step.answer
refused_number st m (head h) w by e = never (cc)
refused_number st m (piece k b) w by e = turn e
  where
    turn : cond (step.expects st k) (step.stored k) (step.refused OutOfTurn) ≡ step.refused w → OfSlot (number_of w)
    turn = by_test (λ (a : step.Answer). a ≡ step.refused w → OfSlot (number_of w)) (step.expects st k) (λ t q. never (cc)) (λ t q. out_of_turn w cc)
refused_number st m (final len b) w by e = judge_number st m len b w (told_only _ (step.judge st m len b) w e)
refused_number st m (stream c p f) w by e = never (cc)
refused_number st m end w by e = never (cc)
refused_number st m (unread why) w by e = let q : why ≡ w = cc in by w (ap unread q)

both : (a b : Bool) → (a && b) ≡ true → a ≡ true
both true b e = refl
both false b e = never (cc)

module _ (r : Receiver) (x m : List ℕ) where
  taken_is : fits x m ≡ true → within r.phase ≡ true → received_of r x m ≡ taken (state_of r) m (see x)
  unfolding received_of
  taken_is f w = rw (f, w)

  left : fits x m ≡ true → within r.phase ≡ true → memory_of r x m ≡ step.kept (state_of r) m (see x)
  unfolding memory_of
  left f w = rw (f, w)

  slot_refused : (why : Refusal) → fits x m ≡ true → within r.phase ≡ true → (received_of r x m).answer ≡ Err why
      → step.answer (state_of r) m (see x) ≡ step.refused why
  slot_refused why f w e = refused_only (step.answer (state_of r) m (see x)) why (sym (ap (λ (k : Received). k.answer) (taken_is f w)) ∙ e)

  receiver_only : (why : Refusal) → fits x m ≡ true → within r.phase ≡ true → (received_of r x m).answer ≡ Err why → OfSlot (number_of why)
  receiver_only why f w e =
      let long = eqb-true (length x) 48 (both (eqb (length x) 48) (eqb (length m) 825) f) in
      refused_number (state_of r) m (see x) why (λ v q. wider (number_of v) (unread_number x v long q)) (slot_refused why f w e)

  -- 1, 12, or what the automaton does
  cases : (P : Received → List ℕ → Type 0) → (fits x m ≡ false → P (unchanged WrongLength r) m)
      → (fits x m ≡ true → within r.phase ≡ false → P (unchanged BadState r) m)
      → (fits x m ≡ true → within r.phase ≡ true → P (received_of r x m) (memory_of r x m)) → P (received_of r x m) (memory_of r x m)
  cases P one twelve other = by (fits x m) (within r.phase) refl refl
    where
      by : (a b : Bool) → fits x m ≡ a → within r.phase ≡ b → P (received_of r x m) (memory_of r x m)
      by false b f w = let k = refused_1 r x m f in rw (k.0, k.1) (one f)
      by true false f w = let k = refused_12 r x m f w in rw (k.0, k.1) (twelve f w)
      by true true f w = other f w

  not_of_slot : (why : Refusal) → fits x m ≡ true → within r.phase ≡ true → (OfSlot (number_of why) → ⊥) → (received_of r x m).answer ≡ Err why → ⊥
  not_of_slot why f w n e = n (receiver_only why f w e)

  receiver_1 : ((received_of r x m).answer ≡ Err WrongLength → fits x m ≡ false) × (fits x m ≡ false → (received_of r x m).answer ≡ Err WrongLength)
  receiver_1 = (
    cases (λ k n. k.answer ≡ Err WrongLength → fits x m ≡ false) (λ f e. f) (λ f w e. never (cc))
        (λ f w e. absurd (not_of_slot WrongLength f w (λ o. omega (arith, of_slot 1 o)) e)),
    λ f. ap (λ (k : Received). k.answer) (refused_1 r x m f).0,
  )

  receiver_12 : ((received_of r x m).answer ≡ Err BadState → (fits x m ≡ true) × (within r.phase ≡ false))
      × ((fits x m ≡ true) × (within r.phase ≡ false) → (received_of r x m).answer ≡ Err BadState)
  receiver_12 = (
    cases (λ k n. k.answer ≡ Err BadState → (fits x m ≡ true) × (within r.phase ≡ false)) (λ f e. never (cc)) (λ f w e. (f, w))
        (λ f w e. absurd (not_of_slot BadState f w (λ o. omega (arith, of_slot 12 o)) e)),
    λ k. ap (λ (q : Received). q.answer) (refused_12 r x m k.0 k.1).0,
  )

  receiver_untouched : (why : Refusal) → (received_of r x m).answer ≡ Err why → memory_of r x m ≡ m
  receiver_untouched why =
      cases (λ k n. k.answer ≡ Err why → n ≡ m) (λ f e. refl) (λ f w e. refl)
      (λ f w e. left f w ∙ (subst (ByAnswer (state_of r) m (see x)) (slot_refused why f w e) (by_answer (state_of r) m (see x))).1)

-- ---- the code

uncoded_only : (k : Kind) (rx : List ℕ) → OneOf (said_of (fec.decoded_of k rx)) (0 ∷ 1 ∷ 3 ∷ [])
uncoded_only k rx = elim (ℕ_discrete (length rx) (fec.coded_bytes k)) [
  | yes l ↦ rw (decoded_long k rx l) (by (read_of (fec.sends_in k) (fec.bits_in k) (fec.limit_of k) (bits_of rx)))
  | no n ↦ rw (decoded_short k rx n) (inr (inl refl))
]
  where
    by : (o : Option (List Bool)) → OneOf (said_of (fec.found o)) (0 ∷ 1 ∷ 3 ∷ [])
    by (Some d) = inl refl
    by None = inr (inr (inl refl))

pub demand_1 : Demand1
demand_1 =
    record {
      the_numbers = (refl, refl, refl, refl, refl, refl, refl, refl, refl, refl, refl, refl);
      numbers_differ = different;
      bit_read_2 = getting.refused_when;
      bit_read = getting.answered_when;
      bit_set_2 = λ s i h. set_said s i false (le-ltb i (8 * length s) h);
      bit_set = λ s i h. set_said s i true (lt-ltb i (8 * length s) h);
      bit_untouched = setting.unchanged;
      interleave = λ s. (interleaving.refused_when s, interleaving.answered_when s);
      address_read = addresses.read_exactly;
      address_written = addresses.written_exactly;
      golay_read = golay.reads;
      golay_over = golay.over;
      golay_written_2 = golay.written_two;
      golay_written = golay.written_zero;
      coded = coded;
      uncoded_1 = when.wrong_length_when;
      uncoded_3 = when.refused_when;
      uncoded = when.answered_when;
      uncoded_only = uncoded_only;
      header_from = headers.from_exactly;
      channel_set = headers.channel_exactly;
      address_set = headers.address_exactly;
      header_new = headers.new_exactly;
      part_set = headers.part_exactly;
      part_untouched = part_untouched;
      lich_written = writing.lich_exactly;
      header_written = writing.lsf_exactly;
      stream_written = writing.stream_exactly;
      packet_written = writing.packet_exactly;
      body_sent = writing.body_symbols;
      header_sent = writing.lsf_symbols;
      stream_sent = writing.stream_symbols;
      packet_sent = writing.packet_symbols;
      lich_read = lich_when;
      header_read = reading.lsf_when;
      stream_read = reading.stream_when;
      packet_read = reading.packet_when;
      body_parsed = body_parsed;
      body_initial = body_initial;
      header_parsed_1 = header_parsed_1;
      header_parsed = header_parsed;
      stream_parsed_1 = stream_parsed_1;
      stream_parsed = stream_parsed;
      packet_parsed_1 = packet_parsed_1;
      packet_parsed = packet_parsed;
      interleave_none = λ s. no_data (interleaved_of s);
      address_read_none = λ s. no_data (address.decoded_of s);
      address_written_none = λ a s. no_data (address.encoded_of a s);
      coded_none = λ k d. no_data (fec.encoded_of k d);
      header_from_none = λ s. no_data (from_of s);
      channel_none = λ c s. no_data (channel_set_of c s);
      address_set_none = λ p a cs s. no_data (address_set_of p a cs s);
      header_new_none = λ m d a s b t. no_data (new_of m d a s b t);
      lich_none = λ c part. no_data (lich_of c part);
      header_written_none = λ s. no_data (lsf_body_of s);
      stream_written_none = λ i part f last s. no_data (stream_body_of i part f last s);
      packet_written_none = λ c s. no_data (packet_body_of c s);
      body_sent_none = λ k body. no_data (body_symbols_of k body);
      header_sent_none = λ f. no_data (lsf_symbols_of f);
      stream_sent_none = λ f. no_data (stream_symbols_of f);
      packet_sent_none = λ f. no_data (packet_symbols_of f);
      body_parsed_none = λ xs. no_data (body_read_of xs);
      body_initial_none = λ xs. no_data (initial_of xs);
      slot_only = unread_number;
      receiver_1 = receiver_1;
      receiver_12 = receiver_12;
      receiver_only = receiver_only;
      receiver_untouched = receiver_untouched;
    }

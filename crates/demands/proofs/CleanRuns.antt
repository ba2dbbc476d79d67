-- Runs of clean slots: a sender's stream, and a packet of any allowed length. Assumes nothing.
use mathlib.Core.Path.{◌≡◌, refl, sym, ap, ap₂, ◌∙◌}
use mathlib.Core.Bool.{false}
use mathlib.Core.List.{List, [], ◌∷◌, ◌++◌, append_assoc}
use Prim.Native.Nat.{ℕ, zero, suc, ◌+◌, ◌-◌, ◌*◌, ◌%◌, ◌≤◌, ◌<◌}
use native.Mathlib.Omega.{arith}
use lib.ListN.{length, take, drop, replicate, length-append, length-drop, length-replicate, take-append-drop}
use lib.Seq.{length-take-le, take_at, drop-drop}
use borrow.Author.Tests.{eq-eqb, le-leb}
use Rattle.std.specs.Prelude.{Ok}
use Rattle.laws.specs.Value.{Bytes}
use Rattle.laws.proofs.Bytes.{bytes_append, bytes_take, bytes_drop, bytes_zeros}
use Rattle.crc.specs.Crc.{crc}
use Rattle.automaton.specs.Seen.{Fields, Seen, head, is_stream}
use Rattle.automaton.specs.Runs as runs
use Rattle.automaton.specs.Runs.{Slots, ◌▸◌, ◌▸▸◌, said, Packet, part}
use Rattle.automaton.proofs.Demand3.{over_seen}
use Rattle.receiver.specs.declared.Late.TheVariants as Lates
use Rattle.receiver.specs.declared.Answer.TheVariants as Answers
use Rattle.receiver.specs.See.{see}
use Rattle.receiver.specs.Receiver.{answer_for}
use Rattle.receiver.specs.Runs.{Fed, ◌▹◌, ◌▹▹◌, Heard, heard, seen_of}
use Rattle.demands.specs.Frames.{Header, Stream, Packet as PacketGood, trimmed}
use Rattle.demands.specs.Slots.{header_slot, stream_slot, packet_slot, sent_frame, sent_slots, InRange, fulls, frame_at, rest, last_frame, frame_slots}
use Rattle.demands.proofs.AsSeen.{sound, all_sound, heard_for, heard_is}
use Rattle.demands.proofs.Clean.{header_slot_lem, header_seen_lem, stream_slot_lem, stream_seen_lem, packet_slot_lem, packet_seen_lem}
use Rattle.demands.proofs.Sees.{sees_of, seen_more}

module _ (h : List ℕ) (f : ℕ → Fields) (o : Header (record { bytes = h })) (ranges : (k : ℕ) → InRange (f k)) where
  in_range : (i : ℕ) → Stream (sent_frame h f i)
  in_range i =
      let c : i % 6 < 6 = omega arith in
      let left : 5 ≤ length (drop (5 * (i % 6)) h) = omega (arith, length-drop (5 * (i % 6)) h, o.long) in
      record {
        index = c;
        part_long = length-take-le 5 (drop (5 * (i % 6)) h) left;
        part = bytes_take 5 (drop (5 * (i % 6)) h) (bytes_drop (5 * (i % 6)) h o.bytes);
        number = (ranges i).number;
        long = (ranges i).long;
        bytes = (ranges i).bytes;
      }

  sent_says : (i n : ℕ) → sees_of (sent_slots h f i n) ≡ runs.sending h f i n
  unfolding sees_of
  sent_says i zero = refl
  sent_says i (suc n) =
      let l = stream_slot_lem (sent_frame h f i) (in_range i) in
      let e = stream_seen_lem (sent_frame h f i) (in_range i) in
      rw (eq-eqb (length (stream_slot (sent_frame h f i))) 48 l) (ap₂ (λ (s : Seen) (more : List Seen). s ∷ more) e (sent_says (suc i) n))

  module _ (m : List ℕ) (past : Fed) (i : ℕ) (room : length m ≡ 825) (good : crc h ≡ 0) where
    pub eleven : (j : ℕ) × (j < 11)
        × ((heard m (past ▹▹ sent_slots h f i j) (stream_slot (sent_frame h f (i + j)))).answer
        ≡ Ok (Answers.Stream (sent_frame h f (i + j)) (Lates.Header h)))
    eleven =
        let (j, few, said_is) = over_seen.eleven m (seen_of past) h f i o.long good in
        let frame = sent_frame h f (i + j) in
        let is = heard_is m room (past ▹▹ sent_slots h f i j) (stream_slot frame) (stream_slot_lem frame (in_range (i + j))) in
        let gone = seen_more past (sent_slots h f i j) ∙ ap (λ (more : List Seen). seen_of past ▸▸ more) (sent_says i j) in
        let a = ap₂ (λ (p : Slots) (s : Seen). (said m p s).answer) gone (stream_seen_lem frame (in_range (i + j))) ∙ said_is in
        (j, few, ap (λ (k : Heard). k.answer) is ∙ ap answer_for a)

-- the pieces of a packet's bytes p: n from the i-th on
pieces_of : List ℕ → ℕ → ℕ → List (List ℕ)
pieces_of p i zero = []
pieces_of p i (suc n) = take 25 (drop (25 * i) p) ∷ pieces_of p (suc i) n

pieces_joined : (p : List ℕ) (i n : ℕ) → runs.join (pieces_of p i n) ++ drop (25 * (i + n)) p ≡ drop (25 * i) p
unfolding pieces_of
pieces_joined p i zero = let e : i + 0 ≡ i = omega arith in ap (λ (k : ℕ). drop (25 * k) p) e
pieces_joined p i (suc n) =
    let front = take 25 (drop (25 * i) p) in
    let e : i + suc n ≡ suc i + n = omega arith in
    let d : 25 * suc i ≡ 25 * i + 25 = omega arith in
    append_assoc front (runs.join (pieces_of p (suc i) n)) (drop (25 * (i + suc n)) p)
    ∙ ap (λ (k : ℕ). front ++ (runs.join (pieces_of p (suc i) n) ++ drop (25 * k) p)) e
    ∙ ap (λ (l : List ℕ). front ++ l) (pieces_joined p (suc i) n ∙ ap (λ (k : ℕ). drop k p) d ∙ sym (drop-drop 25 (25 * i) p))
    ∙ take-append-drop 25 (drop (25 * i) p)

module _ (p : List ℕ) (some : 3 ≤ length p) (few : length p ≤ 825) (bytes : Bytes p) where
  frame_good : (i : ℕ) → i < fulls p → PacketGood (frame_at p i)
  frame_good i h =
      let left : 25 ≤ length (drop (25 * i) p) = omega (arith, length-drop (25 * i) p) in
      record {
        number = le-leb i 31 (omega arith);
        long = length-take-le 25 (drop (25 * i) p) left;
        bytes = bytes_take 25 (drop (25 * i) p) (bytes_drop (25 * i) p bytes);
      }

  frames_say : (i n : ℕ) → i + n ≡ fulls p → sees_of (frame_slots p i n) ≡ runs.numbered i (pieces_of p i n)
  unfolding sees_of pieces_of
  frames_say i zero e = refl
  frames_say i (suc n) e =
      let g : PacketGood (frame_at p i) = frame_good i (omega arith) in
      rw (eq-eqb (length (packet_slot (frame_at p i))) 48 (packet_slot_lem (frame_at p i) g))
      (ap₂ (λ (s : Seen) (more : List Seen). s ∷ more) (packet_seen_lem (frame_at p i) g) (frames_say (suc i) n (omega arith)))

  rest_long : (1 ≤ length (rest p)) × (length (rest p) ≤ 25)
  rest_long = (omega (arith, length-drop (25 * fulls p) p), omega (arith, length-drop (25 * fulls p) p))

  last_good : PacketGood (last_frame p)
  last_good =
      record {
        number = le-leb (length (rest p)) 25 rest_long.1;
        long = length-append (rest p) (replicate (25 - length (rest p)) 0) ∙ omega (arith, length-replicate {A = ℕ} (25 - length (rest p)) 0, rest_long.1);
        bytes = bytes_append (rest p) (replicate (25 - length (rest p)) 0) (bytes_drop (25 * fulls p) p bytes) (bytes_zeros (25 - length (rest p)));
      }

  -- what is left is read back
  rest_back : take (length (rest p)) (trimmed (last_frame p)).payload ≡ rest p
  rest_back =
      let r = length (rest p) in
      let zeros : List ℕ = replicate (25 - r) 0 in
      let front : take r (rest p ++ zeros) ≡ rest p = take_at (rest p) zeros r refl in
      ap (λ (l : List ℕ). take r (l ++ zeros)) front ∙ front

  module _ (m : List ℕ) (past : Fed) (h : List ℕ) (room : length m ≡ 825) (o : Header (record { bytes = h })) (good : crc h ≡ 0) (packets : is_stream h ≡ false) (zero_crc : crc p ≡ 0) where
    gone_says : seen_of (past ▹ header_slot h ▹▹ frame_slots p 0 (fulls p)) ≡ seen_of past ▸ head h ▸▸ runs.numbered 0 (pieces_of p 0 (fulls p))
    unfolding seen_of
    gone_says =
        seen_more (past ▹ header_slot h) (frame_slots p 0 (fulls p))
        ∙ rw (eq-eqb (length (header_slot h)) 48 (header_slot_lem h o good), header_seen_lem h o good, frames_say 0 (fulls p) (omega arith))

    is_packet : Packet (seen_of (past ▹ header_slot h ▹▹ frame_slots p 0 (fulls p))) (see (packet_slot (last_frame p))) p
    is_packet =
        record {
          before = seen_of past;
          h = h;
          bs = pieces_of p 0 (fulls p);
          len = length (rest p);
          b = (trimmed (last_frame p)).payload;
          slots = gone_says;
          packets = packets;
          closes = packet_seen_lem (last_frame p) last_good;
          least = rest_long.0;
          most = rest_long.1;
          joined = sym (ap (λ (l : List ℕ). runs.join (pieces_of p 0 (fulls p)) ++ l) rest_back ∙ all);
          three = some;
          zero_crc = zero_crc;
        }
      where
        all : runs.join (pieces_of p 0 (fulls p)) ++ rest p ≡ p
        all = let e : fulls p ≡ 0 + fulls p = omega arith in ap (λ (k : ℕ). runs.join (pieces_of p 0 (fulls p)) ++ drop (25 * k) p) e ∙ pieces_joined p 0 (fulls p)

    pub clean_packet : heard m (past ▹ header_slot h ▹▹ frame_slots p 0 (fulls p)) (packet_slot (last_frame p))
        ≡ record { answer = Ok (Answers.Packet (length p)); bytes = p }
    clean_packet =
        let fed = past ▹ header_slot h ▹▹ frame_slots p 0 (fulls p) in
        let x = packet_slot (last_frame p) in
        heard_is m room fed x (packet_slot_lem (last_frame p) last_good)
        ∙ ap heard_for ((over_seen.handed_out m (seen_of fed) (see x) (all_sound fed) (sound x) (length p) p).1 (is_packet, refl))

-- Demand 3: slots fed in order to one receiver from its start, state and packet memory untouched between calls. Packet memory is 825 numbers,
-- whatever they are; slots are lists of any numbers and lengths, bytes included, and `seen_of past` is what those of length 48 said, read by the
-- rules of demand 2. Assumes nothing.
use Rattle.std.specs.Prelude.{◌≡◌, ◌↔◌, true, false, List, ◌++◌, ℕ, ◌+◌, ◌≤◌, ◌<◌, length, drop, Ok}
use Rattle.laws.specs.Value.{Bytes}
use Rattle.crc.specs.Crc.{crc}
use Rattle.automaton.specs.Seen.{Fields, head, is_stream}
use Rattle.automaton.specs.Runs.{◌▸◌, memory, Packet, Six}
use Rattle.protocol.specs.declared.StreamFrame.{StreamFrame}
use Rattle.receiver.specs.declared.Phase.TheVariants.{Idle, Gathering}
use Rattle.receiver.specs.declared.Receiver.{Receiver}
use Rattle.receiver.specs.declared.Late.TheVariants as Lates
use Rattle.receiver.specs.declared.Answer.TheVariants as Answers
use Rattle.receiver.specs.See.{see}
use Rattle.receiver.specs.Receiver.{state_of, within, fits, received_of, memory_of}
use Rattle.receiver.specs.Runs.{Fed, start, ◌▹◌, ◌▹▹◌, after, heard, seen_of}
use Rattle.demands.specs.Frames.{Header}
use Rattle.demands.specs.Slots.{HeaderSlot, header_slot, stream_slot, packet_slot, sent_frame, sent_slots, InRange, fulls, last_frame, frame_slots}

pub record Demand3 : Type 0 where
  -- Whatever came before, damage of any kind included, from a header slot that reads with a good CRC onward every answer and, in what is handed
  -- out, every packet byte is that of a receiver started at that slot, whatever the two memories held.
  pub fresh_header : (m m' : List ℕ) (past : Fed) (x h : List ℕ) → length m ≡ 825 → length m' ≡ 825 → HeaderSlot x h
      → heard m past x ≡ heard m' start x
  pub fresh : (m m' : List ℕ) (past : Fed) (x h : List ℕ) (future : List (List ℕ)) (y : List ℕ) → length m ≡ 825 → length m' ≡ 825
      → HeaderSlot x h → heard m (past ▹ x ▹▹ future) y ≡ heard m' (start ▹ x ▹▹ future) y
  -- A packet is handed out exactly when the slots just gone are such a packet header, frames 0 upward with none missing, and a final frame of
  -- 1 to 25 bytes, all reading by rule 2 (as `seen_of` and `see` have it), three bytes or more in all, CRC zero; it is their bytes joined.
  pub handed_out : (m : List ℕ) (past : Fed) (x : List ℕ) → length m ≡ 825 → length x ≡ 48 → (total : ℕ) (bytes : List ℕ)
      → (((heard m past x).answer ≡ Ok (Answers.Packet total)) × ((heard m past x).bytes ≡ bytes)) ↔ (Packet (seen_of past) (see x) bytes × (total ≡ length bytes))
  -- Memory is then the packet's bytes, and after them what it held at the packet's header.
  pub only_those : (m : List ℕ) (past : Fed) (x bytes : List ℕ) → length m ≡ 825 → length x ≡ 48 → (k : Packet (seen_of past) (see x) bytes)
      → (after m (past ▹ x)).memory ≡ bytes ++ drop (length bytes) (memory m (k.before ▸ head k.h))
  -- A late header comes exactly when the last six slots are readable stream slots counted 0 to 5 with CRC zero, and is their parts joined.
  pub late_header : (m : List ℕ) (past : Fed) (x : List ℕ) → length m ≡ 825 → length x ≡ 48 → (bytes : List ℕ)
      → ((g : StreamFrame) × ((heard m past x).answer ≡ Ok (Answers.Stream g (Lates.Header bytes))))
      ↔ ((p : List ℕ) × (f : Fields) × Six (seen_of past) (see x) p f bytes × (crc bytes ≡ 0))
  -- The mark "spoiled" comes exactly when they are so counted and it is not zero.
  pub spoiled_mark : (m : List ℕ) (past : Fed) (x : List ℕ) → length m ≡ 825 → length x ≡ 48
      → ((g : StreamFrame) × ((heard m past x).answer ≡ Ok (Answers.Stream g Lates.Spoiled)))
      ↔ ((p : List ℕ) × (f : Fields) × (bytes : List ℕ) × Six (seen_of past) (see x) p f bytes × (crc bytes ≡ 0 → ⊥))
  -- Within eleven clean stream slots in a row of one sender, whatever came before, that sender's header comes, with the frame that was sent.
  pub eleven : (m : List ℕ) (past : Fed) (h : List ℕ) (f : ℕ → Fields) (i : ℕ) → length m ≡ 825 → Header (record { bytes = h }) → crc h ≡ 0
      → ((k : ℕ) → InRange (f k))
      → (j : ℕ) × (j < 11)
      × ((heard m (past ▹▹ sent_slots h f i j) (stream_slot (sent_frame h f (i + j)))).answer
      ≡ Ok (Answers.Stream (sent_frame h f (i + j)) (Lates.Header h)))
  -- The clean slots of a packet of any allowed length, after any history, are handed out as they were.
  pub clean_packet : (m : List ℕ) (past : Fed) (h p : List ℕ) → length m ≡ 825 → Header (record { bytes = h }) → crc h ≡ 0 → is_stream h ≡ false
      → 3 ≤ length p → length p ≤ 825 → Bytes p → crc p ≡ 0
      → heard m (past ▹ header_slot h ▹▹ frame_slots p 0 (fulls p)) (packet_slot (last_frame p))
      ≡ record { answer = Ok (Answers.Packet (length p)); bytes = p }
  -- No answer depends on anything but the state's meaning, the slot and packet memory: parts not yet gathered do not matter.
  pub same_meaning : (r r' : Receiver) (x m : List ℕ) → fits x m ≡ true → within r.phase ≡ true → within r'.phase ≡ true → state_of r ≡ state_of r'
      → (received_of r x m ≡ received_of r' x m) × (memory_of r x m ≡ memory_of r' x m)
  -- A state that gathers no part, which no run comes to, answers as idle does.
  pub none_gathered : (q q' x m : List ℕ) → fits x m ≡ true
      → (received_of (record { phase = Gathering 0; parts = q }) x m ≡ received_of (record { phase = Idle; parts = q' }) x m)
      × (memory_of (record { phase = Gathering 0; parts = q }) x m ≡ memory_of (record { phase = Idle; parts = q' }) x m)

-- What a slot is answered with at any point of a run, and what it leaves: the lines of document 01's table and of its receiver section, one by
-- one. Assumes nothing.
use Rattle.std.specs.Prelude.{◌≡◌, ◌↔◌, ◌⊎◌, true, false, List, [], ℕ, ◌+◌, ◌*◌, ◌%◌, ◌≤◌, ◌<◌, eqb, length, get_or, take, drop, Ok, Err}
use Rattle.laws.specs.Value.{value_of}
use Rattle.refusal.specs.declared.Refusal.{Refusal}
use Rattle.refusal.specs.declared.Refusal.TheVariants.{WrongLength, BadHeader, UnknownSync, OutOfTurn, BadFinal, TooShort, BadPacket, BadState}
use Rattle.crc.specs.Crc.{crc}
use Rattle.protocol.specs.declared.LsfFrame.{LsfFrame}
use Rattle.protocol.specs.declared.StreamFrame.{StreamFrame}
use Rattle.decode.specs.Bodies.{lsf_read_of, stream_read_of, packet_read_of}
use Rattle.automaton.specs.Seen.{piece, final, is_stream}
use Rattle.automaton.specs.Step as step
use Rattle.automaton.specs.Runs.{state, memory}
use Rattle.automaton.specs.Opened.{Pieces, Closing}
use Rattle.receiver.specs.declared.Receiver.{Receiver}
use Rattle.receiver.specs.declared.Late.{Late}
use Rattle.receiver.specs.declared.Late.TheVariants as Lates
use Rattle.receiver.specs.declared.Answer.TheVariants as Answers
use Rattle.receiver.specs.See.{see}
use Rattle.receiver.specs.Receiver.{within, fits, unchanged, received_of, memory_of}
use Rattle.receiver.specs.Numbers.{no_header, header_in, no_stream, stream_in}
use Rattle.receiver.specs.Runs.{Fed, ◌▹◌, after, heard, seen_of}
use Rattle.demands.specs.Frames.{Header}
use Rattle.demands.specs.Slots.{HeaderSlot, holding}

pub record EachSlot : Type 0 where
  -- The receiver's state means the automaton's, and packet memory is the automaton's, after any slots.
  pub as_seen : (m : List ℕ) (past : Fed) → length m ≡ 825 → after m past ≡ holding (state (seen_of past)) (memory m (seen_of past))
  -- A header slot that reads with a good CRC is answered with its bytes, and nothing else is answered so.
  pub header_answered : (m : List ℕ) (past : Fed) (x h : List ℕ) → length m ≡ 825 → HeaderSlot x h
      → heard m past x ≡ record { answer = Ok (Answers.Header h); bytes = [] }
  pub header_only : (m : List ℕ) (past : Fed) (x h : List ℕ) → length m ≡ 825 → length x ≡ 48 → (heard m past x).answer ≡ Ok (Answers.Header h)
      → HeaderSlot x h
  -- Type bit 0, which says what a header opens, is the lowest bit of byte 13.
  pub type_bit : (h : List ℕ) → Header (record { bytes = h }) → is_stream h ≡ eqb (get_or h 13 0 % 2) 1
  -- Frame k is answered as stored exactly when the slots just gone are a packet header and frames 0 to k - 1.
  pub stored_exactly : (m : List ℕ) (past : Fed) (x : List ℕ) (k : ℕ) → length m ≡ 825 → length x ≡ 48
      → ((heard m past x).answer ≡ Ok (Answers.Stored k)) ↔ ((b : List ℕ) × (see x ≡ piece k b) × Pieces k (seen_of past))
  -- A stream slot's fields are always answered.
  pub stream_answered : (m : List ℕ) (past : Fed) (x : List ℕ) (f : StreamFrame) → length m ≡ 825 → length x ≡ 48 → value_of (take 2 x) ≡ 0xFF5D
      → stream_read_of (drop 2 x) ≡ Ok f → (l : Late) × ((heard m past x).answer ≡ Ok (Answers.Stream f l))
  -- A header stands in a header's answer and in a late header alone, so not beside the mark "spoiled"; stream fields in a stream's.
  pub header_beside : (m : List ℕ) (past : Fed) (x : List ℕ) → ((h : List ℕ) → (heard m past x).answer ≡ Ok (Answers.Header h) → ⊥)
      → ((f : StreamFrame) (h : List ℕ) → (heard m past x).answer ≡ Ok (Answers.Stream f (Lates.Header h)) → ⊥)
      → header_in (heard m past x).answer ≡ no_header
  pub stream_beside : (m : List ℕ) (past : Fed) (x : List ℕ)
      → ((f : StreamFrame) (l : Late) → (heard m past x).answer ≡ Ok (Answers.Stream f l) → ⊥) → stream_in (heard m past x).answer ≡ no_stream
  -- The end is answered as end, its body unread, and leaves idle and memory alone.
  pub end_answered : (m : List ℕ) (past : Fed) (x : List ℕ) → length m ≡ 825 → length x ≡ 48 → value_of (take 2 x) ≡ 0x555D
      → (heard m past x ≡ record { answer = Ok Answers.Ended; bytes = [] })
      × (after m (past ▹ x) ≡ holding step.idle (after m past).memory)
  -- A slot that does not read is refused with its number: 7, then 3, then 4 or 5.
  pub refused_7 : (m : List ℕ) (past : Fed) (x : List ℕ) → length m ≡ 825 → length x ≡ 48 → (value_of (take 2 x) ≡ 0x55F7 → ⊥)
      → (value_of (take 2 x) ≡ 0xFF5D → ⊥) → (value_of (take 2 x) ≡ 0x75FF → ⊥) → (value_of (take 2 x) ≡ 0x555D → ⊥)
      → (heard m past x).answer ≡ Err UnknownSync
  pub header_refused : (m : List ℕ) (past : Fed) (x : List ℕ) (why : Refusal) → length m ≡ 825 → length x ≡ 48 → value_of (take 2 x) ≡ 0x55F7
      → lsf_read_of (drop 2 x) ≡ Err why → (heard m past x).answer ≡ Err why
  pub refused_5 : (m : List ℕ) (past : Fed) (x : List ℕ) (f : LsfFrame) → length m ≡ 825 → length x ≡ 48 → value_of (take 2 x) ≡ 0x55F7
      → lsf_read_of (drop 2 x) ≡ Ok f → (crc f.bytes ≡ 0 → ⊥) → (heard m past x).answer ≡ Err BadHeader
  pub stream_refused : (m : List ℕ) (past : Fed) (x : List ℕ) (why : Refusal) → length m ≡ 825 → length x ≡ 48 → value_of (take 2 x) ≡ 0xFF5D
      → stream_read_of (drop 2 x) ≡ Err why → (heard m past x).answer ≡ Err why
  pub packet_refused : (m : List ℕ) (past : Fed) (x : List ℕ) (why : Refusal) → length m ≡ 825 → length x ≡ 48 → value_of (take 2 x) ≡ 0x75FF
      → packet_read_of (drop 2 x) ≡ Err why → (heard m past x).answer ≡ Err why
  -- 8 is answered exactly when the slot reads as frame k and the slots just gone are not a packet header and frames 0 to k - 1, or it reads as a
  -- final frame and they are no packet header and frames 0 upward: no packet is open.
  pub refused_8 : (m : List ℕ) (past : Fed) (x : List ℕ) → length m ≡ 825 → length x ≡ 48
      → ((heard m past x).answer ≡ Err OutOfTurn)
      ↔ (((k : ℕ) × (b : List ℕ) × (see x ≡ piece k b) × (Pieces k (seen_of past) → ⊥))
      ⊎ ((len : ℕ) × (b : List ℕ) × (see x ≡ final len b) × ((n : ℕ) → Pieces n (seen_of past) → ⊥)))
  -- 9, exactly when it reads as a final frame of length 0 or over 25, with a packet open.
  pub refused_9 : (m : List ℕ) (past : Fed) (x : List ℕ) → length m ≡ 825 → length x ≡ 48
      → ((heard m past x).answer ≡ Err BadFinal) ↔ ((c : Closing (seen_of past) (see x)) × ((c.len ≡ 0) ⊎ (25 < c.len)))
  -- 10, exactly when it reads as a final frame of length 1 to 25, with a packet of n frames open, and the total 25n + length is under 3.
  pub refused_10 : (m : List ℕ) (past : Fed) (x : List ℕ) → length m ≡ 825 → length x ≡ 48
      → ((heard m past x).answer ≡ Err TooShort)
      ↔ ((c : Closing (seen_of past) (see x)) × (1 ≤ c.len) × (c.len ≤ 25) × (25 * c.n + c.len < 3))
  -- 11, exactly when it reads so, the total is 3 or more, and the CRC over the total bytes, those of all the frames joined, is not zero.
  pub refused_11 : (m : List ℕ) (past : Fed) (x : List ℕ) → length m ≡ 825 → length x ≡ 48
      → ((heard m past x).answer ≡ Err BadPacket)
      ↔ ((c : Closing (seen_of past) (see x)) × (1 ≤ c.len) × (c.len ≤ 25) × (3 ≤ 25 * c.n + c.len) × (crc c.bytes ≡ 0 → ⊥))
  -- Whatever the refusal of a slot, it carries no data, memory is untouched and the receiver idle.
  pub refusal_keeps : (m : List ℕ) (past : Fed) (x : List ℕ) (why : Refusal) → length m ≡ 825 → length x ≡ 48 → (heard m past x).answer ≡ Err why
      → (heard m past x ≡ record { answer = Err why; bytes = [] })
      × (after m (past ▹ x) ≡ holding step.idle (after m past).memory)
  -- 1 and 12 change no state and no memory, whatever the receiver.
  pub refused_1 : (r : Receiver) (x m : List ℕ) → fits x m ≡ false → (received_of r x m ≡ unchanged WrongLength r) × (memory_of r x m ≡ m)
  pub refused_12 : (r : Receiver) (x m : List ℕ) → fits x m ≡ true → within r.phase ≡ false
      → (received_of r x m ≡ unchanged BadState r) × (memory_of r x m ≡ m)

-- Demand 3 over what slots say: slots are fed in order to one receiver from its start, its packet memory m untouched between calls.
-- Assumes nothing.
use Rattle.std.specs.Prelude.{◌≡◌, ◌↔◌, ◌⊎◌, List, ◌++◌, ℕ, ◌+◌, ◌*◌, ◌%◌, ◌<◌, ◌≤◌, length, take, drop, IsOk}
use Rattle.refusal.specs.declared.Refusal.{Refusal}
use Rattle.refusal.specs.declared.Refusal.TheVariants.{OutOfTurn, BadFinal, TooShort, BadPacket}
use Rattle.crc.specs.Crc.{crc}
use Rattle.automaton.specs.Seen.{Fields, Seen, head, piece, final, stream, end, unread, Sound}
use Rattle.automaton.specs.Step.{State, idle, in_packet, gathering, Answer, header, stored, packet, fields, ended, refused, late, spoiled, pieces, judge, put, late_of, next, answer, kept}
use Rattle.automaton.specs.Runs.{Slots, start, ◌▸◌, ◌▸▸◌, AllSound, Sounds, state, memory, said, Packet, part, Six, sent, sending}
use Rattle.automaton.specs.Opened.{Pieces, Closing}

-- what an answer says of its slot, and of what the slot did: a stored piece changes its own bytes only, a final piece its length; any other answer leaves memory as it is
abbrev pub ByAnswer : State → List ℕ → Seen → Answer → Type 0
ByAnswer st m s (header h) = (s ≡ head h) × (kept st m s ≡ m)
ByAnswer st m s (stored k) = (b : List ℕ) × (s ≡ piece k b) × (kept st m s ≡ put (25 * k) b m)
ByAnswer st m s (packet t) =
    (len : ℕ) × (b : List ℕ) × (s ≡ final len b) × IsOk (judge st m len b) × (t ≡ 25 * pieces st + len)
    × (kept st m s ≡ put (25 * pieces st) (take len b) m)
ByAnswer st m s (fields c p f l) = (s ≡ stream c p f) × (l ≡ late_of st c p) × (kept st m s ≡ m)
ByAnswer st m s ended = (s ≡ end) × (kept st m s ≡ m)
ByAnswer st m s (refused why) = (next st s ≡ idle) × (kept st m s ≡ m)

-- the states that are not refused with 12, as a run comes to them
abbrev pub Bounded : State → Type 0
Bounded idle = Unit {0}
Bounded (in_packet n) = n ≤ 32
Bounded (gathering k q) = (1 ≤ k) × (k ≤ 5) × (length q ≡ 5 * k)

pub record OverSeen : Type 0 where
  -- Whatever came before, damage of any kind included: from a header slot that reads with a good CRC onward, its own answer first, every answer
  -- and, in what is handed out, every packet byte is that of a receiver started at that slot, whatever the two memories held.
  pub fresh_header : (m m' : List ℕ) (past : Slots) (h : List ℕ) → said m past (head h) ≡ said m' start (head h)
  pub fresh : (m m' : List ℕ) (past : Slots) (h : List ℕ) (future : List Seen) → Sounds future → (s : Seen) → Sound s
      → said m (past ▸ head h ▸▸ future) s ≡ said m' (start ▸ head h ▸▸ future) s
  -- A packet is handed out exactly when the slots just gone are a packet header, frames 0 upward with none missing, and a final frame of
  -- 1 to 25 bytes, three bytes or more in all, CRC zero; it is their bytes joined.
  pub handed_out : (m : List ℕ) (gone : Slots) (s : Seen) → AllSound gone → Sound s → (total : ℕ) (bytes : List ℕ)
      → (said m gone s ≡ record { answer = packet total; bytes = bytes }) ↔ (Packet gone s bytes × (total ≡ length bytes))
  -- Memory is then the packet's bytes, and after them what it held at the packet's header.
  pub only_those : (m : List ℕ) (gone : Slots) → AllSound gone → (s : Seen) → Sound s → (bytes : List ℕ) (k : Packet gone s bytes)
      → kept (state gone) (memory m gone) s ≡ bytes ++ drop (length bytes) (memory m (k.before ▸ head k.h))
  -- In any state a stored piece changes its own 25 bytes only, and a final piece its length; any other answer leaves memory as it is.
  pub by_answer : (st : State) (m : List ℕ) (s : Seen) → ByAnswer st m s (answer st m s)
  -- A refusal leaves the receiver idle.
  pub refusal_idles : (st : State) (m : List ℕ) (s : Seen) (why : Refusal) → answer st m s ≡ refused why → next st s ≡ idle
  -- A slot that is not refused so by itself is refused with 8 exactly when it is frame k and the slots just gone are not a packet header and
  -- frames 0 to k - 1, or a final frame and they are no packet header and frames 0 upward.
  pub refused_8 : (m : List ℕ) (gone : Slots) (s : Seen) → AllSound gone → (s ≡ unread OutOfTurn → ⊥)
      → ((said m gone s).answer ≡ refused OutOfTurn)
      ↔ (((k : ℕ) × (b : List ℕ) × (s ≡ piece k b) × (Pieces k gone → ⊥)) ⊎ ((len : ℕ) × (b : List ℕ) × (s ≡ final len b) × ((n : ℕ) → Pieces n gone → ⊥)))
  -- With 9, exactly when it is a final frame of length 0 or over 25 with a packet open.
  pub refused_9 : (m : List ℕ) (gone : Slots) (s : Seen) → AllSound gone → (s ≡ unread BadFinal → ⊥)
      → ((said m gone s).answer ≡ refused BadFinal) ↔ ((c : Closing gone s) × ((c.len ≡ 0) ⊎ (25 < c.len)))
  -- With 10, exactly when it is a final frame of length 1 to 25 with a packet open, total 25n + length under 3.
  pub refused_10 : (m : List ℕ) (gone : Slots) (s : Seen) → AllSound gone → (s ≡ unread TooShort → ⊥)
      → ((said m gone s).answer ≡ refused TooShort) ↔ ((c : Closing gone s) × (1 ≤ c.len) × (c.len ≤ 25) × (25 * c.n + c.len < 3))
  -- With 11, exactly when it is such a frame, total 3 or more, and the CRC over all their bytes is not zero.
  pub refused_11 : (m : List ℕ) (gone : Slots) (s : Seen) → AllSound gone → (s ≡ unread BadPacket → ⊥)
      → ((said m gone s).answer ≡ refused BadPacket)
      ↔ ((c : Closing gone s) × (1 ≤ c.len) × (c.len ≤ 25) × (3 ≤ 25 * c.n + c.len) × (crc c.bytes ≡ 0 → ⊥))
  -- A late header comes exactly when the last six slots are stream slots counted 0 to 5 with CRC zero.
  pub late_header : (m : List ℕ) (gone : Slots) (s : Seen) (c : ℕ) (p : List ℕ) (f : Fields) (bytes : List ℕ)
      → ((said m gone s).answer ≡ fields c p f (late bytes)) ↔ ((c ≡ 5) × Six gone s p f bytes × (crc bytes ≡ 0))
  -- The mark "spoiled" comes exactly when they are so counted and it is not zero.
  pub spoiled_mark : (m : List ℕ) (gone : Slots) (s : Seen) (c : ℕ) (p : List ℕ) (f : Fields)
      → ((said m gone s).answer ≡ fields c p f spoiled) ↔ ((c ≡ 5) × (bytes : List ℕ) × Six gone s p f bytes × (crc bytes ≡ 0 → ⊥))
  -- Eleven stream slots in a row of one sender, from any of its counts on and whatever came before, bring its header.
  pub eleven : (m : List ℕ) (past : Slots) (h : List ℕ) (f : ℕ → Fields) (i : ℕ) → length h ≡ 30 → crc h ≡ 0
      → (j : ℕ) × (j < 11) × ((said m (past ▸▸ sending h f i j) (sent h f (i + j))).answer ≡ fields ((i + j) % 6) (part h ((i + j) % 6)) (f (i + j)) (late h))
  -- No state that a run reaches is refused with 12, and packet memory keeps its length.
  pub bounded : (past : Slots) → AllSound past → Bounded (state past)
  pub memory_long : (m : List ℕ) (past : Slots) → AllSound past → length m ≡ 825 → length (memory m past) ≡ 825

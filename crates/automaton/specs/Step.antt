-- The slot receiver of document 01: its states, and what each slot does to a state and to packet memory. The next state does not look at
-- memory, so what a slot does is three functions: `next`, `answer` and `kept`. Assumes nothing.
use Rattle.std.specs.Prelude.{Bool, false, cond, ◌&&◌, List, [], ◌++◌, ℕ, suc, ◌+◌, ◌*◌, length, take, drop, eqb, ltb, ⊤, Result, Ok, Err}
use Rattle.refusal.specs.declared.Refusal.{Refusal}
use Rattle.refusal.specs.declared.Refusal.TheVariants.{OutOfTurn, BadFinal, TooShort, BadPacket}
use Rattle.crc.specs.Crc.{crc}
use Rattle.automaton.specs.Seen.{Fields, Seen, head, piece, final, stream, end, unread, is_stream}

-- ---- states and answers

pub data State : Type 0 where
  idle : State
  -- in a packet, expecting frame n
  in_packet : ℕ → State
  -- k LICH parts, joined
  gathering : ℕ → List ℕ → State

-- what a stream slot brings beside its fields
pub data Late : Type 0 where
  nothing : Late
  late : List ℕ → Late
  spoiled : Late

pub data Answer : Type 0 where
  header : List ℕ → Answer
  -- a piece is stored: its number
  stored : ℕ → Answer
  -- a packet is handed out: so many bytes from the start of packet memory
  packet : ℕ → Answer
  -- counter, part and fields of a stream slot
  fields : ℕ → List ℕ → Fields → Late → Answer
  ended : Answer
  refused : Refusal → Answer

-- ---- a packet slot

-- is it frame k's turn? After 32 frames n is 32, and no frame has that number: `Sound` has at most 31
abbrev pub expects : State → ℕ → Bool
expects idle k = false
expects (in_packet n) k = eqb k n
expects (gathering j q) k = false

-- how many pieces are stored
abbrev pub pieces : State → ℕ
pieces idle = 0
pieces (in_packet n) = n
pieces (gathering k q) = 0

-- a final piece of len bytes after n pieces, with the CRC over them all: 9, then 10, then 11
unfoldable pub verdict : ℕ → ℕ → ℕ → Result ⊤ Refusal
verdict n len sum =
    cond (eqb len 0) (Err BadFinal)
    (cond (ltb 25 len) (Err BadFinal)
    (cond (ltb (25 * n + len) 3) (Err TooShort)
    (cond (eqb sum 0) (Ok tt) (Err BadPacket))))

abbrev pub judge : State → List ℕ → ℕ → List ℕ → Result ⊤ Refusal
judge idle m len b = Err OutOfTurn
judge (in_packet n) m len b = verdict n len (crc (take (25 * n) m ++ take len b))
judge (gathering k q) m len b = Err OutOfTurn

-- what a verdict answers of a packet of that many bytes, and which memory it leaves
abbrev pub told : ℕ → Result ⊤ Refusal → Answer
told total (Ok x) = packet total
told total (Err why) = refused why

abbrev pub memory_left : Result ⊤ Refusal → List ℕ → List ℕ → List ℕ
memory_left (Ok x) new m = new
memory_left (Err why) new m = m

-- the bytes b put into memory at a place
abbrev pub put : ℕ → List ℕ → List ℕ → List ℕ
put at b m = take at m ++ b ++ drop (at + length b) m

-- ---- a stream slot

abbrev pub count : State → ℕ
count idle = 0
count (in_packet n) = 0
count (gathering k q) = k

abbrev pub parts : State → List ℕ
parts idle = []
parts (in_packet n) = []
parts (gathering k q) = q

-- counter 0 starts gathering, counter k adds a part, any other stops it; six parts are all
abbrev pub gather : State → ℕ → List ℕ → State
gather s c p =
    cond (eqb c 0) (gathering 1 p)
    (cond (eqb c (count s)) (cond (eqb c 5) idle (gathering (suc c) (parts s ++ p))) idle)

-- six parts: the header if its CRC is zero, or the mark "spoiled"
abbrev pub whole : List ℕ → Late
whole q = cond (eqb (crc q) 0) (late q) spoiled

abbrev pub late_of : State → ℕ → List ℕ → Late
late_of s c p = cond (eqb c 5 && eqb (count s) 5) (whole (parts s ++ p)) nothing

-- ---- a slot

-- the state after it: a slot that doesn't continue what was open closes it
unfoldable pub next : State → Seen → State
next s (head h) = cond (is_stream h) idle (in_packet 0)
next s (piece k b) = cond (expects s k) (in_packet (suc k)) idle
next s (final len b) = idle
next s (stream c p f) = gather s c p
next s end = idle
next s (unread why) = idle

-- what is answered, m being packet memory before the slot
unfoldable pub answer : State → List ℕ → Seen → Answer
answer s m (head h) = header h
answer s m (piece k b) = cond (expects s k) (stored k) (refused OutOfTurn)
answer s m (final len b) = told (25 * pieces s + len) (judge s m len b)
answer s m (stream c p f) = fields c p f (late_of s c p)
answer s m end = ended
answer s m (unread why) = refused why

-- packet memory after it
unfoldable pub kept : State → List ℕ → Seen → List ℕ
kept s m (head h) = m
kept s m (piece k b) = cond (expects s k) (put (25 * k) b m) m
kept s m (final len b) = memory_left (judge s m len b) (put (25 * pieces s) (take len b) m) m
kept s m (stream c p f) = m
kept s m end = m
kept s m (unread why) = m

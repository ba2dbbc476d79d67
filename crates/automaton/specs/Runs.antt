-- Slots in order to one receiver from its start, and what the demands say of them. Assumes nothing.
use Rattle.std.specs.Prelude.{◌≡◌, false, List, [], ◌∷◌, ◌++◌, ℕ, zero, suc, ◌*◌, ◌%◌, ◌≤◌, length, take, drop}
use Rattle.crc.specs.Crc.{crc}
use Rattle.automaton.specs.Seen.{Fields, Seen, head, piece, final, stream, Sound, is_stream}
use Rattle.automaton.specs.Step.{State, idle, Answer, header, stored, packet, fields, ended, refused, next, answer, kept}

infixl 25 ◌▸◌ ◌▸▸◌
-- slots in the order in which they came
pub data Slots : Type 0 where
  start : Slots
  ◌▸◌ : Slots → Seen → Slots

abbrev pub ◌▸▸◌ : Slots → List Seen → Slots
past ▸▸ [] = past
past ▸▸ (s ∷ more) = (past ▸ s) ▸▸ more

abbrev pub AllSound : Slots → Type 0
AllSound start = Unit {0}
AllSound (past ▸ s) = AllSound past × Sound s

abbrev pub Sounds : List Seen → Type 0
Sounds [] = Unit {0}
Sounds (s ∷ more) = Sound s × Sounds more

-- the state after slots
unfoldable pub state : Slots → State
state start = idle
state (past ▸ s) = next (state past) s

-- packet memory after slots, m before them
unfoldable pub memory : List ℕ → Slots → List ℕ
memory m start = m
memory m (past ▸ s) = kept (state past) (memory m past) s

-- the bytes that an answer hands out
abbrev pub handed : Answer → List ℕ → List ℕ
handed (header h) m = []
handed (stored k) m = []
handed (packet t) m = take t m
handed (fields c p f l) m = []
handed ended m = []
handed (refused why) m = []

pub record Said : Type 0 where
  pub answer : Answer
  pub bytes : List ℕ

-- what is said and handed out at a slot, by a state and memory
abbrev pub saying : State → List ℕ → Seen → Said
saying st m s = record { answer = answer st m s; bytes = handed (answer st m s) (kept st m s) }

-- what a receiver says at slot s after the slots gone, m its memory at the start
abbrev pub said : List ℕ → Slots → Seen → Said
said m past s = saying (state past) (memory m past) s

-- ---- what the demands speak of

-- the pieces numbered from n on
abbrev pub numbered : ℕ → List (List ℕ) → List Seen
numbered n [] = []
numbered n (b ∷ bs) = piece n b ∷ numbered (suc n) bs

abbrev pub join : List (List ℕ) → List ℕ
join [] = []
join (b ∷ bs) = b ++ join bs

-- the slots gone and slot s are a packet header, frames 0 upward with none missing, and a final frame of 1 to 25 bytes,
-- three bytes or more in all, CRC zero; bytes are theirs joined
pub record Packet (gone : Slots) (s : Seen) (bytes : List ℕ) : Type 0 where
  pub before : Slots
  -- the header's bytes, those of each frame before the final one, and the final one's length and bytes
  pub h : List ℕ
  pub bs : List (List ℕ)
  pub len : ℕ
  pub b : List ℕ
  pub slots : gone ≡ before ▸ head h ▸▸ numbered 0 bs
  pub packets : is_stream h ≡ false
  pub closes : s ≡ final len b
  pub least : 1 ≤ len
  pub most : len ≤ 25
  pub joined : bytes ≡ join bs ++ take len b
  pub three : 3 ≤ length bytes
  pub zero_crc : crc bytes ≡ 0

-- part c of a header
abbrev pub part : List ℕ → ℕ → List ℕ
part h c = take 5 (drop (5 * c) h)

-- the last six slots are stream slots counted 0 to 5, the last with part p and fields f; bytes are their parts joined
pub record Six (gone : Slots) (s : Seen) (p : List ℕ) (f : Fields) (bytes : List ℕ) : Type 0 where
  pub before : Slots
  pub p0 : List ℕ
  pub p1 : List ℕ
  pub p2 : List ℕ
  pub p3 : List ℕ
  pub p4 : List ℕ
  pub f0 : Fields
  pub f1 : Fields
  pub f2 : Fields
  pub f3 : Fields
  pub f4 : Fields
  pub slots : gone ≡ before ▸ stream 0 p0 f0 ▸ stream 1 p1 f1 ▸ stream 2 p2 f2 ▸ stream 3 p3 f3 ▸ stream 4 p4 f4
  pub sixth : s ≡ stream 5 p f
  pub joined : bytes ≡ p0 ++ p1 ++ p2 ++ p3 ++ p4 ++ p

-- a sender's i-th slot: it counts 0 to 5 round and round with the parts of one header
abbrev pub sent : List ℕ → (ℕ → Fields) → ℕ → Seen
sent h f i = stream (i % 6) (part h (i % 6)) (f i)

-- n of its slots in a row, from the i-th on
abbrev pub sending : List ℕ → (ℕ → Fields) → ℕ → ℕ → List Seen
sending h f i zero = []
sending h f i (suc n) = sent h f i ∷ sending h f (suc i) n

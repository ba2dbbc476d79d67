-- What the slots just gone were, by the state that they led to. Assumes nothing.
use Rattle.std.specs.Prelude.{◌≡◌, false, List, [], ◌++◌, ℕ, zero, suc, ◌≤◌, length, take}
use Rattle.automaton.specs.Seen.{Fields, Seen, head, final, stream, is_stream}
use Rattle.automaton.specs.Step.{State, idle, in_packet, gathering}
use Rattle.automaton.specs.Runs.{Slots, ◌▸◌, ◌▸▸◌, numbered, join}

-- a packet header and pieces 0 to n - 1
pub record Pieces (n : ℕ) (past : Slots) : Type 0 where
  pub before : Slots
  pub h : List ℕ
  pub bs : List (List ℕ)
  pub slots : past ≡ before ▸ head h ▸▸ numbered 0 bs
  pub packets : is_stream h ≡ false
  pub many : length bs ≡ n

-- slot s is a final frame of length len, and a packet is open: the slots just gone are its header and pieces 0 to n - 1; bytes are those of the
-- pieces joined, and of b, the final frame's, the first len
pub record Closing (gone : Slots) (s : Seen) : Type 0 where
  pub n : ℕ
  pub len : ℕ
  pub b : List ℕ
  pub came : Pieces n gone
  pub closes : s ≡ final len b
  pub bytes : List ℕ
  pub joined : bytes ≡ join came.bs ++ take len b

-- stream slots counted 0 to k - 1, q their parts joined
abbrev pub Counted : ℕ → List ℕ → Slots → Type 0
Counted zero q past = q ≡ []
Counted (suc k) q past =
    (before : Slots) × (p : List ℕ) × (f : Fields) × (r : List ℕ) × (past ≡ before ▸ stream k p f) × (q ≡ r ++ p) × Counted k r before

abbrev pub Opened : State → Slots → Type 0
Opened idle past = Unit {0}
Opened (in_packet n) past = Pieces n past
Opened (gathering k q) past = (1 ≤ k) × (k ≤ 5) × Counted k q past

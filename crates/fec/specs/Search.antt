-- What the private functions of the search compute, step by step. A reader of the promises needs none of it: the public contracts cite
-- `Kinds` alone, and the proofs show that the search finds what `Nearest` says. Assumes nothing.
use Rattle.std.specs.Prelude.{◌≡◌, Bool, false, cond, List, [], ◌∷◌, ◌++◌, reverse, ℕ, zero, suc, ◌+◌, ◌*◌, ◌/◌, ◌%◌, ◌≤◌, ◌<◌, min, ltb, length, drop, take, get_or}
use Rattle.bits.specs.Bits.{bit, odd}
use Rattle.fec.specs.declared.Sends.{Sends}
use Rattle.fec.specs.declared.Sends.TheVariants.{Both, First, Second}
use Rattle.fec.specs.Code.{◌⊕◌, sent}
use Rattle.fec.specs.Nearest.{differ}

-- ---- any cost of a step

-- the state after a word, its latest bit first: the last four bits, zeros before the start
unfoldable pub st : List Bool → ℕ
st [] = 0
st (b ∷ r) = 8 * bit b + st r / 2

-- the transition that the latest bit made
abbrev pub ix : Bool → List Bool → ℕ
ix b r = 16 * bit b + st r

-- the input bit of a transition
unfoldable pub input : ℕ → Bool
input i = ltb 15 i

-- the cost of being in a state before the first step: none but the first can be had
unfoldable pub start : ℕ → ℕ
start zero = 0
start (suc s) = 255

-- σ t i is what transition i costs at step t
module _ (σ : ℕ → ℕ → ℕ) where
  -- what a word costs, its latest bit first
  unfoldable pub cost : List Bool → ℕ
  cost [] = 0
  cost (b ∷ r) = cost r + σ (length r) (ix b r)

  -- the least cost to a state after t steps
  unfoldable pub to : ℕ → ℕ → ℕ
  to zero s = start s
  to (suc t) s = min (to t (2 * s % 16) + σ t (2 * s)) (to t ((2 * s + 1) % 16) + σ t (2 * s + 1))

  -- the least cost of a transition at step t
  unfoldable pub row : ℕ → ℕ → ℕ
  row t i = to t (i % 16) + σ t i

  -- the transition before a state: the odd one among equals
  unfoldable pub choose : ℕ → ℕ → ℕ
  choose t s = cond (ltb (row t (2 * s)) (row t (2 * s + 1))) (2 * s) (2 * s + 1)

  -- the word traced back from a state after t steps, its latest bit first
  unfoldable pub back : ℕ → ℕ → List Bool
  back zero s = []
  back (suc t) s = input (choose t s) ∷ back t (choose t s % 16)

  -- the word traced back from a transition at step t
  unfoldable pub trace : ℕ → ℕ → List Bool
  trace t i = input i ∷ back t (i % 16)

-- the least cost of each transition, from the costs of the step before, at most 255
abbrev pub grown : List ℕ → List ℕ → ℕ → ℕ
grown old price i = min 255 (min (get_or old (2 * (i % 16)) 0) (get_or old (2 * (i % 16) + 1) 0) + get_or price i 0)

-- the first rows of a table hold the least costs, at most 255
abbrev pub Rows : (ℕ → ℕ → ℕ) → List (List ℕ) → ℕ → Type 0
Rows σ table n = (t : ℕ) → t < n → (i : ℕ) → i < 32 → get_or (get_or table t []) i 0 ≡ min 255 (row σ t i)

-- i is the first place of the least of a row
pub record Lowest (r : List ℕ) (i : ℕ) : Type 0 where
  pub below : i < 32
  pub least : (j : ℕ) → j < 32 → get_or r i 0 ≤ get_or r j 0
  pub earlier : (j : ℕ) → j < i → get_or r i 0 < get_or r j 0

-- the transition before a state by a row of the table
abbrev pub source : List ℕ → ℕ → ℕ
source r s = cond (ltb (get_or r (2 * s) 0) (get_or r (2 * s + 1) 0)) (2 * s) (2 * s + 1)

-- word is traced back from the transition last of step n + 3, whatever the costs that the table was made for
abbrev pub Traced : List (List ℕ) → ℕ → ℕ → List Bool → Type 0
Traced table n last word = (σ : ℕ → ℕ → ℕ) → Rows σ table (n + 4) → row σ (n + 3) last < 255 → take (n + 4) word ≡ reverse (trace σ (n + 3) last)

-- ---- the cost of a step where it is the count of bits that differ

-- the coded bits of a transition
unfoldable pub out1 : ℕ → Bool
out1 i = odd (i / 16) ⊕ odd (i / 2) ⊕ odd i

unfoldable pub out2 : ℕ → Bool
out2 i = odd (i / 16) ⊕ odd (i / 8) ⊕ odd (i / 4) ⊕ odd i

-- a table holds the coded bits of each transition
pub record Outputs (table : List (List ℕ)) : Type 0 where
  pub first : (i : ℕ) → i < 32 → get_or (get_or table i []) 0 0 ≡ bit (out1 i)
  pub second : (i : ℕ) → i < 32 → get_or (get_or table i []) 1 0 ≡ bit (out2 i)

-- how many bits a step sends
abbrev pub count : Sends → ℕ
count Both = 2
count First = 1
count Second = 1

module _ (p : ℕ → Sends) where
  -- how many bits are sent before step t
  unfoldable pub sofar : ℕ → ℕ
  sofar zero = 0
  sofar (suc t) = sofar t + count (p t)

  -- what a transition costs at step t
  unfoldable pub costs_at : List Bool → ℕ → ℕ → ℕ
  costs_at rx t i = differ (sent (p t) (out1 i) (out2 i)) (drop (sofar t) rx)

-- what a transition costs where x is received, or x and y
abbrev pub price : Sends → Bool → Bool → ℕ → ℕ
price e x y i = differ (sent e (out1 i) (out2 i)) (x ∷ y ∷ [])

-- where the prices for what is received stand
abbrev pub shelf : Sends → Bool → Bool → ℕ
shelf Both x y = 2 * bit x + bit y
shelf First x y = 4 + bit x
shelf Second x y = 6 + bit x

-- l is stored in new from at to next, what stood before it is kept, and so is what stood after
pub record Stored (old new : List Bool) (at next : ℕ) (l : List Bool) : Type 0 where
  pub front : take next new ≡ take at old ++ l
  pub rest : (k : ℕ) → next ≤ k → get_or new k false ≡ get_or old k false

-- The nearest word, as a statement over all words and as a function. The function ranges over all words and is not computed at full length:
-- what is known of it is that it is the `Nearest` one. Assumes nothing.
use Rattle.std.specs.Prelude.{◌≡◌, Bool, true, false, not, cond, List, [], ◌∷◌, reverse, ℕ, zero, suc, ◌+◌, ◌≤◌, T, ltb, leb, length, take, Option, Some, None}
use Rattle.bits.specs.Bits.{bit}
use Rattle.fec.specs.declared.Sends.{Sends}
use Rattle.fec.specs.Code.{◌⊕◌, code}

-- in how many places two lists differ, as far as both go
unfoldable pub differ : List Bool → List Bool → ℕ
differ [] ys = 0
differ (x ∷ xs) [] = 0
differ (x ∷ xs) (y ∷ ys) = bit (x ⊕ y) + differ xs ys

-- the distance of a word: the count of coded bits that differ from those received
unfoldable pub distance : (ℕ → Sends) → List Bool → List Bool → ℕ
distance p rx w = differ (code p w) rx

-- does the bit x lead y? Of two that differ the one that is `first` leads; where they are equal the rest tells
abbrev pub leads : Bool → Bool → Bool → Bool → Bool
leads first true true rest = rest
leads first false false rest = rest
leads first true false rest = first
leads first false true rest = not first

-- u comes before v, or is v: in the first k places 0 comes before 1, in all later ones 1 before 0
unfoldable pub comes : ℕ → List Bool → List Bool → Bool
comes k [] v = true
comes k (x ∷ u) [] = false
comes zero (x ∷ u) (y ∷ v) = leads true x y (comes zero u v)
comes (suc k) (x ∷ u) (y ∷ v) = leads false x y (comes k u v)

-- w comes before v, or is v, compared from the last bit backwards: in the last five places 0 before 1, in all earlier ones 1 before 0
abbrev pub ahead : List Bool → List Bool → Bool
ahead w v = comes 5 (reverse w) (reverse v)

-- w is the nearest word: any n + 4 bits are a word, none is nearer, and of those as near it comes first
pub record Nearest (p : ℕ → Sends) (n : ℕ) (rx w : List Bool) : Type 0 where
  pub long : length w ≡ n + 4
  pub least : (v : List Bool) → length v ≡ n + 4 → distance p rx w ≤ distance p rx v
  pub earliest : (v : List Bool) → length v ≡ n + 4 → distance p rx v ≡ distance p rx w → T (ahead w v)

-- the first of two words, unless the second is nearer
unfoldable pub nearer : (List Bool → ℕ) → List Bool → List Bool → List Bool
nearer d u v = cond (ltb (d v) (d u)) v u

-- the nearest of all words of m bits and then s; of equals the first: in the last k of the m places 0 comes before 1, in all earlier ones
-- 1 before 0
unfoldable pub best : (List Bool → ℕ) → ℕ → ℕ → List Bool → List Bool
best d k zero s = s
best d (suc k) (suc m) s = nearer d (best d k m (false ∷ s)) (best d k m (true ∷ s))
best d zero (suc m) s = nearer d (best d zero m (true ∷ s)) (best d zero m (false ∷ s))

-- the nearest of all words
unfoldable pub nearest : (ℕ → Sends) → ℕ → List Bool → List Bool
nearest p n rx = best (distance p rx) 5 (n + 4) []

-- what reading finds: the first n bits of the nearest word, or nothing where its distance is over the limit
unfoldable pub read_of : (ℕ → Sends) → ℕ → ℕ → List Bool → Option (List Bool)
read_of p n limit rx = cond (leb (distance p rx (nearest p n rx)) limit) (Some (take n (nearest p n rx))) None

-- The convolutional code and its three puncturings. Assumes nothing.
use Rattle.std.specs.Prelude.{Bool, true, false, cond, List, [], ◌∷◌, ◌++◌, ℕ, suc, ◌%◌, eqb, ltb, replicate}
use Rattle.fec.specs.declared.Sends.{Sends}
use Rattle.fec.specs.declared.Sends.TheVariants.{Both, First, Second}
use Rattle.fec.specs.declared.Puncture.{Puncture}
use Rattle.fec.specs.declared.Puncture.TheVariants.{One, Two, Three}

infixl 40 ◌⊕◌
-- the sum mod 2
abbrev pub ◌⊕◌ : Bool → Bool → Bool
true ⊕ true = false
true ⊕ false = true
false ⊕ true = true
false ⊕ false = false

-- what step t sends. Puncture 1, r = t mod 61: even r sends both, odd r below 30 sends g2, odd r above 30 sends g1. Puncture 2 drops g2
-- when t mod 6 = 5, puncture 3 when t mod 4 = 3
unfoldable pub sends : Puncture → ℕ → Sends
sends One t = cond (eqb (t % 61 % 2) 0) Both (cond (ltb (t % 61) 30) Second First)
sends Two t = cond (eqb (t % 6) 5) First Both
sends Three t = cond (eqb (t % 4) 3) First Both

-- which of g1 and g2 go out, g1 first
abbrev pub sent : Sends → Bool → Bool → List Bool
sent Both g1 g2 = g1 ∷ g2 ∷ []
sent First g1 g2 = g1 ∷ []
sent Second g1 g2 = g2 ∷ []

-- the coded bits from step t on, after the bits b1 (latest) to b4. For input bit b: g1 = b + b3 + b4, g2 = b + b1 + b2 + b4
unfoldable pub coded : (ℕ → Sends) → ℕ → Bool → Bool → Bool → Bool → List Bool → List Bool
coded p t b1 b2 b3 b4 [] = []
coded p t b1 b2 b3 b4 (b ∷ w) = sent (p t) (b ⊕ b3 ⊕ b4) (b ⊕ b1 ⊕ b2 ⊕ b4) ++ coded p (suc t) b b1 b2 b3 w

-- the coded bits of a word: zero before the start
unfoldable pub code : (ℕ → Sends) → List Bool → List Bool
code p w = coded p 0 false false false false w

-- the word that is written for some bits: coding appends four zero bits
abbrev pub flushed : List Bool → List Bool
flushed d = d ++ replicate 4 false

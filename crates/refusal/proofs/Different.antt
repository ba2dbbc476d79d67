-- No two refusals have the same number: each is named again by its number. Assumes nothing.
use mathlib.Core.Path.{◌≡◌, refl, sym, ap, ◌∙◌}
use mathlib.Core.Bool.{cond}
use Prim.Native.Nat.{ℕ}
use lib.Dec.{eqb}
use Rattle.refusal.specs.declared.Refusal.{Refusal}
use Rattle.refusal.specs.declared.Refusal.TheVariants.{WrongLength, OutOfRange, TooFar, BadGolay, BadHeader, BadAddress, UnknownSync, OutOfTurn, BadFinal, TooShort, BadPacket, BadState, BadSample, Ended, Full}
use Rattle.refusal.specs.Number.{number_of}

-- the refusal of a number from 1 to 15
named : ℕ → Refusal
named n =
    cond (eqb n 1) WrongLength
    (cond (eqb n 2) OutOfRange
    (cond (eqb n 3) TooFar
    (cond (eqb n 4) BadGolay
    (cond (eqb n 5) BadHeader
    (cond (eqb n 6) BadAddress
    (cond (eqb n 7) UnknownSync
    (cond (eqb n 8) OutOfTurn
    (cond (eqb n 9) BadFinal
    (cond (eqb n 10) TooShort
    (cond (eqb n 11) BadPacket
    (cond (eqb n 12) BadState
    (cond (eqb n 13) BadSample
    (cond (eqb n 14) Ended Full)))))))))))))

named_again : (a : Refusal) → named (number_of a) ≡ a
unfolding named
named_again WrongLength = refl
named_again OutOfRange = refl
named_again TooFar = refl
named_again BadGolay = refl
named_again BadHeader = refl
named_again BadAddress = refl
named_again UnknownSync = refl
named_again OutOfTurn = refl
named_again BadFinal = refl
named_again TooShort = refl
named_again BadPacket = refl
named_again BadState = refl
named_again BadSample = refl
named_again Ended = refl
named_again Full = refl

pub different : (a b : Refusal) → number_of a ≡ number_of b → a ≡ b
different a b e = sym (named_again a) ∙ ap named e ∙ named_again b

-- The number of each refusal: 1 to 12 as the table "When the desk says no" has them, 13 to 15 kept for later requests. Assumes nothing.
use Rattle.std.specs.Prelude.{ℕ, Result, Ok, Err}
use Rattle.refusal.specs.declared.Refusal.{Refusal}
use Rattle.refusal.specs.declared.Refusal.TheVariants.{WrongLength, OutOfRange, TooFar, BadGolay, BadHeader, BadAddress, UnknownSync, OutOfTurn, BadFinal, TooShort, BadPacket, BadState, BadSample, Ended, Full}

abbrev pub number_of : Refusal → ℕ
number_of WrongLength = 1
number_of OutOfRange = 2
number_of TooFar = 3
number_of BadGolay = 4
number_of BadHeader = 5
number_of BadAddress = 6
number_of UnknownSync = 7
number_of OutOfTurn = 8
number_of BadFinal = 9
number_of TooShort = 10
number_of BadPacket = 11
number_of BadState = 12
number_of BadSample = 13
number_of Ended = 14
number_of Full = 15

-- 0 for what is no refusal
abbrev pub said_of : {A : Type 0} → Result A Refusal → ℕ
said_of (Ok x) = 0
said_of (Err why) = number_of why

-- what is made of an answer that is no refusal
abbrev pub made_of : {A B : Type 0} → (A → B) → Result A Refusal → Result B Refusal
made_of f (Ok x) = Ok (f x)
made_of f (Err why) = Err why

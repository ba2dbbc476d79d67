-- What lent memory holds after an answer: what is answered, and on a refusal what it held before. Assumes nothing.
use Rattle.std.specs.Prelude.{◌≡◌, cond, List, ℕ, eqb, length, Option, Some, None, Result, Ok, Err}
use Rattle.refusal.specs.Number.{said_of}
use Rattle.refusal.specs.declared.Refusal.{Refusal}
use Rattle.refusal.specs.declared.Refusal.TheVariants.{WrongLength}

abbrev pub given : {A : Type 0} → Result A Refusal → A → A
given (Ok x) old = x
given (Err why) old = old

-- a buffer of n bytes, or symbols, lent for the answer: 1 where it has another length, before anything else
abbrev pub lent_said : {A : Type 0} → ℕ → List A → Result (List A) Refusal → ℕ
lent_said n old r = cond (eqb (length old) n) (said_of r) 1

abbrev pub lent_bytes : {A : Type 0} → ℕ → List A → Result (List A) Refusal → List A
lent_bytes n old r = cond (eqb (length old) n) (given r old) old

-- memory of several parts lent for the answer: what is said, and the memory after it
abbrev pub Lent : {A : Type 0} → Result A Refusal → A → ℕ → A → Type 0
Lent r old said new = (said ≡ said_of r) × (new ≡ given r old)

-- ---- answers one after another

-- what takes n bytes, or symbols: 1 where there are not as many, before anything else
abbrev pub of_length : {A B : Type 0} → ℕ → List B → Result A Refusal → Result A Refusal
of_length n s r = cond (eqb (length s) n) r (Err WrongLength)

-- the first refusal, or what f answers of the first answer
abbrev pub and_then : {A B : Type 0} → Result A Refusal → (A → Result B Refusal) → Result B Refusal
and_then (Ok x) f = f x
and_then (Err why) f = Err why

-- ---- where an answer may be missing, which is no refusal

-- 1 where there is one, 0 where there is none
abbrev pub there : {A : Type 0} → Option A → ℕ
there (Some x) = 1
there None = 0

abbrev pub given_there : {A : Type 0} → Option A → A → A
given_there (Some x) old = x
given_there None old = old

-- What the functions of a collection of LICH parts answer. Assumes nothing.
use Rattle.std.specs.Prelude.{Bool, true, false, cond, List, [], ◌∷◌, ◌++◌, ℕ, suc, ◌+◌, ◌*◌, eqb, leb, length, replicate, take, drop, set as replaced, is_ok, ⊤, Option, Some, None, Result, Ok, Err}
use Rattle.refusal.specs.declared.Refusal.{Refusal}
use Rattle.refusal.specs.declared.Refusal.TheVariants.{WrongLength, OutOfRange}
use Rattle.protocol.specs.declared.LichCollection.{LichCollection}

-- no part is set
abbrev pub empty : LichCollection
empty = record { bytes = replicate 30 0; set = replicate 6 false }

-- how many flags are set
unfoldable pub flags_set : List Bool → ℕ
flags_set [] = 0
flags_set (b ∷ l) = cond b (suc (flags_set l)) (flags_set l)

-- 1 where a part has not five bytes, then 2 where a counter is over 5
abbrev pub part_said : ℕ → List ℕ → Result ⊤ Refusal
part_said c part = cond (eqb (length part) 5) (cond (leb c 5) (Ok tt) (Err OutOfRange)) (Err WrongLength)

-- part c is bytes 5c to 5c + 4
abbrev pub with_part : ℕ → List ℕ → LichCollection → LichCollection
with_part c part l = record { bytes = take (5 * c) l.bytes ++ part ++ drop (5 * c + 5) l.bytes; set = replaced l.set c true }

-- the collection after a part is set in it: on a refusal nothing changes
abbrev pub after_set : ℕ → List ℕ → LichCollection → LichCollection
after_set c part l = cond (is_ok (part_said c part)) (with_part c part l) l

-- the 30 bytes where all six are set; else not yet, which is no refusal
abbrev pub assembled_of : LichCollection → Option (List ℕ)
assembled_of l = cond (eqb (flags_set l.set) 6) (Some l.bytes) None

-- A sequence of parts given to a collection, and what was set in it. The latest part stands first. Assumes nothing.
use Rattle.std.specs.Prelude.{Bool, true, false, cond, ◌&&◌, List, [], ◌∷◌, ◌++◌, ℕ, eqb, leb, length, replicate}
use Rattle.protocol.specs.declared.LichCollection.{LichCollection}
use Rattle.protocol.specs.Lich.{empty, after_set}

-- what `set_segment` is called with
pub record Segment : Type 0 where
  pub counter : ℕ
  pub part : List ℕ

-- the collection after the sequence, from a new one on
unfoldable pub after_segments : List Segment → LichCollection
after_segments [] = empty
after_segments (x ∷ h) = after_set x.counter x.part (after_segments h)

-- a part that is not refused, set at counter k
abbrev pub sets_at : ℕ → Segment → Bool
sets_at k x = eqb (length x.part) 5 && (leb x.counter 5 && eqb x.counter k)

-- some part was set at counter k
unfoldable pub was_set : List Segment → ℕ → Bool
was_set [] k = false
was_set (x ∷ h) k = cond (sets_at k x) true (was_set h k)

-- the last part set at counter k: five zeros where none was
unfoldable pub last : List Segment → ℕ → List ℕ
last [] k = replicate 5 0
last (x ∷ h) k = cond (sets_at k x) x.part (last h k)

-- the last parts of counters 0 to 5, one after the other
abbrev pub joined : List Segment → List ℕ
joined h = last h 0 ++ last h 1 ++ last h 2 ++ last h 3 ++ last h 4 ++ last h 5

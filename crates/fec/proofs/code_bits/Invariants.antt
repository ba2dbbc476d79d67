-- `fec::code_bits` meets its contract: what is written so far, and then the coded bits of what is left, are those of the whole. Assumes
-- nothing.
use mathlib.Core.Bool.{Bool}
use mathlib.Core.List.{List}
use Prim.Native.Nat.{ℕ}
use lib.ListN.{take}
use Rattle.bits.specs.Bits.{bits_of}
use Rattle.fec.specs.Code.{sends, flushed}
use Rattle.fec.proofs.Written.{Encoding}
use Rattle.fec.proofs.code_bits.Given as goal

abbrev pub word : List ℕ → ℕ → List Bool
word plain n = flushed (take n (bits_of plain))

abbrev pub invariant-loop-t : goal.invariant-loop-t
invariant-loop-t l = Encoding (sends l.p) (word l.plain l.n) l.out l.at l.b1 l.b2 l.b3 l.b4 l.t

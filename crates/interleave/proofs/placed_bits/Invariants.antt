-- `interleave::placed_bits` meets its contract: the reader stands at the bit that comes next, the places left are those from it on, and the bits before it are placed. Assumes nothing.
use mathlib.Core.Path.{◌≡◌}
use Prim.Native.Nat.{◌≤◌}
use lib.ListN.{drop}
use Rattle.laws.specs.Tabled.{tabled}
use Rattle.bits.specs.Bits.{bits_of}
use Rattle.interleave.specs.Interleave.{mapped, placed}
use Rattle.interleave.proofs.placed_bits.Given as goal

abbrev pub invariant-loop-place : goal.invariant-loop-place
invariant-loop-place l =
    let at = l.place-iterator.b.idx in
    (at ≤ 368) × (l.place-iterator.b.bits.now ≡ l.payload) × (l.place-iterator.a.rest.now ≡ drop at (tabled mapped 368)) × (l.new ≡ placed (bits_of l.payload) at)

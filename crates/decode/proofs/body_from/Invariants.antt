-- `decode::body_from` meets its contract: after i turns the first i bytes are read. Assumes nothing.
use Prim.Native.Nat.{◌*◌}
use lib.ListN.{drop}
use Rattle.laws.proofs.Values.{Filled}
use Rattle.bits.specs.Bits.{byte_of}
use Rattle.decode.specs.Symbols.{pairs_of}
use Rattle.decode.proofs.body_from.Given as goal

abbrev pub invariant-loop-i : goal.invariant-loop-i
invariant-loop-i l = Filled (λ k. byte_of (drop (8 * k) (pairs_of (drop 8 l.frame)))) 46 0 l.byte-items l.i

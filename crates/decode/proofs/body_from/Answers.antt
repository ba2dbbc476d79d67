-- `decode::body_from` meets its contract: after i turns the first i bytes are read. Assumes nothing.
use mathlib.Core.Path.{sym, ◌∙◌}
use Prim.Native.Nat.{◌*◌}
use native.Mathlib.Omega.{arith}
use lib.ListN.{drop}
use Rattle.laws.proofs.Values.{filled_all}
use Rattle.bits.specs.Bits.{byte_of}
use Rattle.bits.proofs.Back.{bytes_tabled}
use Rattle.decode.specs.Symbols.{pairs_of, body_from}
use Rattle.decode.proofs.body_from.Goals as goal

pub returns : goal.returns
unfolding body_from
returns c =
    let l = c.loop-i in
    let xs = c.args.frame.now in
    filled_all (λ k. byte_of (drop (8 * k) (pairs_of (drop 8 xs)))) 46 0 l.byte-items l.i (omega (arith, c.loop-i-test.false, l.invariant.long)) l.invariant
    ∙ sym (bytes_tabled 46 (pairs_of (drop 8 xs)))

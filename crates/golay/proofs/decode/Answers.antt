-- `golay::decode` meets its contract. Assumes nothing.
use Prim.Native.Nat.{◌^◌}
use borrow.Author.Tests.{lt-ltb, le-ltb}
use Rattle.std.proofs.Common.{rules}
use Rattle.golay.specs.Golay.{decoded_of}
use Rattle.golay.proofs.decode.Goals as goal

pub returns-then-word-ge16777216 : goal.returns-then-word-ge16777216
unfolding decoded_of
returns-then-word-ge16777216 c = simp (le-ltb c.args.word (2 ^ 24) c.if-word-ge16777216.true)

pub returns-in_err-hit : goal.returns-in_err-hit
unfolding decoded_of
returns-in_err-hit c = simp (lt-ltb c.args.word (2 ^ 24) c.if-word-ge16777216.false) (search rules)

pub returns : goal.returns
unfolding decoded_of
returns c = simp (lt-ltb c.args.word (2 ^ 24) c.if-word-ge16777216.false) (search rules)

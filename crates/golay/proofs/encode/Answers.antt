-- `golay::encode` meets its contract. Assumes nothing.
use mathlib.Core.Path.{ap, ◌∙◌}
use borrow.Author.Tests.{lt-ltb, le-ltb}
use Rattle.std.specs.Prelude.{Result, Ok}
use Rattle.refusal.specs.declared.Refusal.{Refusal}
use Prim.Native.Nat.{ℕ}
use Rattle.golay.specs.Golay.{golay, encoded_of}
use Rattle.golay.proofs.encode.Goals as goal

pub returns-then-value-ge4096 : goal.returns-then-value-ge4096
unfolding encoded_of
returns-then-value-ge4096 c = simp (le-ltb c.args.value 4096 c.if-value-ge4096.true)

pub returns : goal.returns
unfolding encoded_of
returns c =
    let h = c.if-value-ge4096.false in
    simp (lt-ltb c.args.value 4096 h) (ap {B = Result ℕ Refusal} (λ (n : ℕ). Ok n) (c.word_of.ensures ∙ ap golay c.from.ensures))

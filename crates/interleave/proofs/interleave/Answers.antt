-- `interleave::interleave` meets its contract. Assumes nothing.
use mathlib.Core.Path.{ap, ◌∙◌}
use mathlib.Core.List.{List}
use Prim.Native.Nat.{ℕ}
use lib.ListN.{length}
use borrow.Author.Tests.{eq-eqb, ne_eqb}
use Rattle.std.specs.Prelude.{Result, Ok}
use Rattle.refusal.specs.declared.Refusal.{Refusal}
use Rattle.bits.specs.Bits.{bytes_of}
use Rattle.interleave.specs.Interleave.{interleaved_of}
use Rattle.interleave.proofs.interleave.Goals as goal

pub returns-then-payload-ne46 : goal.returns-then-payload-ne46
unfolding interleaved_of
returns-then-payload-ne46 c = simp (ne_eqb (length c.args.payload.now) 46 c.if-payload-ne46.true)

pub returns : goal.returns
unfolding interleaved_of
returns c =
    simp (eq-eqb (length c.args.payload.now) 46 c.if-payload-ne46.false)
    (ap {B = Result (List ℕ) Refusal} (λ (b : List ℕ). Ok b) (c.pack.ensures ∙ ap (bytes_of 46) c.placed_bits.ensures))

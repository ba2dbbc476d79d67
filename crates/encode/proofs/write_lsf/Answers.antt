-- `encode::write_lsf` meets its contract. Assumes nothing.
use mathlib.Core.Path.{sym, ap, ◌∙◌}
use mathlib.Core.List.{List}
use Prim.Native.Nat.{ℕ}
use Rattle.std.specs.Prelude.{Result, Ok}
use Rattle.refusal.specs.declared.Refusal.{Refusal}
use Rattle.fec.specs.declared.Kind.TheVariants.{Header}
use Rattle.encode.specs.Bodies.{masked}
use Rattle.encode.proofs.Answers.{lsf_short, lsf_written}
use Rattle.encode.proofs.Coded.{coded_is, coded_never}
use Rattle.encode.proofs.write_lsf.Goals as goal

pub returns-then-header-ne30 : goal.returns-then-header-ne30
returns-then-header-ne30 c = sym (lsf_short c.args.header.now c.if-header-ne30.true)

pub returns-in_err-coded : goal.returns-in_err-coded
returns-in_err-coded c = absurd (coded_never Header c.args.header.now c.if-header-ne30.false _ c.encode.ensures _ c.in_err-coded.was)

pub returns : goal.returns
returns c =
    let s = c.args.header.now in
    let long = c.if-header-ne30.false in
    c.mask.ensures
    ∙ ap {B = Result (List ℕ) Refusal} (λ (b : List ℕ). Ok (masked b)) (coded_is Header s long _ c.encode.ensures _ c.in_ok-coded.was)
    ∙ sym (lsf_written s long)

-- `encode::body_symbols` meets its contract. Assumes nothing.
use Rattle.std.proofs.Common.{Ok, ap, ap₂, ◌∙◌, length, rules}
use borrow.Author.Tests.{eq-eqb, ne_eqb}
use Rattle.encode.specs.Symbols.{frame_of, body_symbols_of}
use Rattle.encode.proofs.body_symbols.Goals as goal

pub returns-in_default : goal.returns-in_default
unfolding body_symbols_of
returns-in_default c = simp (ne_eqb (length c.args.body.now) 46 (search rules))

pub returns : goal.returns
unfolding body_symbols_of
returns c =
    let h = c.in-Ok.ensures in
    simp (eq-eqb (length c.args.body.now) 46 h.1.long) (ap Ok (c.to_symbols.ensures ∙ ap₂ frame_of c.sync_of.ensures h.1.same))

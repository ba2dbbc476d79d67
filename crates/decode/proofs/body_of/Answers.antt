-- `decode::body_of` meets its contract. Assumes nothing.
use Rattle.std.proofs.Common.{Ok, ap, ◌∙◌, length, rules}
use borrow.Author.Tests.{eq-eqb, ne_eqb}
use Rattle.decode.specs.Symbols.{body_from, body_read_of}
use Rattle.decode.proofs.body_of.Goals as goal

pub returns-in_default : goal.returns-in_default
unfolding body_read_of
returns-in_default c = simp (ne_eqb (length c.args.symbols.now) 192 (search rules))

pub returns : goal.returns
unfolding body_read_of
returns c =
    let h = c.in-Ok.ensures in
    simp (eq-eqb (length c.args.symbols.now) 192 h.1.long) (ap Ok (c.body_from.ensures ∙ ap body_from h.1.same))

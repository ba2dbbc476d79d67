-- `decode::unmask` meets its contract. Assumes nothing.
use Rattle.std.proofs.Common.{ap, ◌∙◌, length, rules}
use borrow.Author.Tests.{ne_eqb}
use Rattle.random.specs.Random.{xored}
use Rattle.decode.proofs.Masks.{unmasks}
use Rattle.decode.proofs.unmask.Goals as goal

pub returns-in_default : goal.returns-in_default
returns-in_default c = simp (ne_eqb (length c.args.body.now) 46 (search rules))

pub returns : goal.returns
returns c =
    let h = c.in-Ok.ensures in
    c.interleave.ensures ∙ unmasks c.args.body.now c.random_xor.new.bytes h.1.long (c.random_xor.ensures ∙ ap xored h.1.same)

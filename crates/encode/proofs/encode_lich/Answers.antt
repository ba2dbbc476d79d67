-- `encode::encode_lich` meets its contract. Assumes nothing.
use Rattle.std.proofs.Common.{Ok, sym, ap, ◌∙◌, rules}
use Rattle.encode.specs.Lich.{lich_bytes, lich_words}
use Rattle.encode.proofs.Answers.{lich_short, lich_high, lich_written}
use Rattle.encode.proofs.encode_lich.Goals as goal

pub returns-in_default : goal.returns-in_default
returns-in_default c = sym (lich_short c.args.counter c.args.part.now (search rules))

pub returns-then-counter-gt5 : goal.returns-then-counter-gt5
returns-then-counter-gt5 c = sym (lich_high c.args.counter c.args.part.now c.in-Ok.ensures.1.long c.if-counter-gt5.true)

pub returns : goal.returns
returns c =
    let a = c.args in
    let h = c.in-Ok.ensures in
    ap Ok (c.lich_words.ensures ∙ ap lich_words c.lich_value.ensures ∙ ap (lich_bytes a.counter) h.1.same)
    ∙ sym (lich_written a.counter a.part.now h.1.long c.if-counter-gt5.false)

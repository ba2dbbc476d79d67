-- `receiver::Checked::stream_step` meets its contract. Assumes nothing.
use mathlib.Core.Path.{◌≡◌, sym, ◌∙◌}
use mathlib.Core.Logic.{◌⊎◌, inl, inr}
use Rattle.receiver.specs.Receiver.{gathered}
use Rattle.receiver.proofs.Taken.{told_comes}
use Rattle.receiver.proofs.Gather.{part_other, part_more, part_spoiled, part_last}
use Rattle.receiver.proofs.Checked.stream_step.Goals as goal
use Rattle.receiver.proofs.Checked.stream_step.Goals.{After-with_part-parts, else-counter-ne0-via-then-counter-ne0+else-counter-count, else-counter-ne0-via-else-counter-ne0}

pub returns-then-counter-count : goal.returns-then-counter-count
returns-then-counter-count c =
    let a = c.args in
    part_other a.self.receiver a.frame c.from-counter.result c.from-counter.ensures c.if-counter-ne0.true (λ e. c.if-counter-count.true (e ∙ sym c.count.ensures))

in_turn : (c : After-with_part-parts) → (c.from-counter.result ≡ 0) ⊎ (c.from-counter.result ≡ gathered c.args.self.receiver.phase)
in_turn c =
    elim c.else-counter-ne0.branch [
      | else-counter-ne0-via-then-counter-ne0+else-counter-count w ↦ inr (w.if-counter-count.false ∙ w.count.ensures)
      | else-counter-ne0-via-else-counter-ne0 w ↦ inl w.if-counter-ne0.false
    ]

pub returns-then-counter-ne5 : goal.returns-then-counter-ne5
returns-then-counter-ne5 c =
    let a = c.args in
    part_more a.self.receiver a.frame c.from-counter.result c.from-counter.ensures (in_turn (goal.at.returns-then-counter-ne5 c).After-with_part-parts)
    c.with_part-parts.result c.with_part-parts.ensures.0 c.if-counter-ne5.true

pub returns-then-m17_crc-ne0 : goal.returns-then-m17_crc-ne0
returns-then-m17_crc-ne0 c =
    let a = c.args in
    told_comes _ _ _ c.told.ensures
    ∙ part_spoiled a.self.receiver a.frame c.from-counter.result c.from-counter.ensures (in_turn (goal.at.returns-then-m17_crc-ne0 c).After-with_part-parts)
    c.with_part-parts.result c.with_part-parts.ensures.0 c.if-counter-ne5.false c.with_part-parts.ensures.1 c.m17_crc.result c.m17_crc.ensures
    c.if-m17_crc-ne0.true

pub returns : goal.returns
returns c =
    let a = c.args in
    told_comes _ _ _ c.told-2.ensures
    ∙ part_last a.self.receiver a.frame c.from-counter.result c.from-counter.ensures (in_turn (goal.at.returns c).After-with_part-parts)
    c.with_part-parts.result c.with_part-parts.ensures.0 c.if-counter-ne5.false c.with_part-parts.ensures.1 c.m17_crc.result c.m17_crc.ensures
    c.if-m17_crc-ne0.false

-- `receiver::final_step` meets its contract. Assumes nothing.
use mathlib.Core.Path.{refl}
use borrow.Author.Rules.{rules}
use Rattle.laws.specs.Value.{Bytes}
use Rattle.receiver.proofs.Taken.{told_comes}
use Rattle.receiver.proofs.Pieces.{final_empty, final_long, final_short, final_wrong, final_right}
use Rattle.receiver.proofs.final_step.Goals as goal

pub returns-then-len-eq0 : goal.returns-then-len-eq0
returns-then-len-eq0 c =
    let a = c.args in
    final_empty a.n a.len a.frame.now a.memory.now _ c.if-len-eq0.true refl

pub returns-then-len-gt25 : goal.returns-then-len-gt25
returns-then-len-gt25 c =
    let a = c.args in
    final_long a.n a.len a.frame.now a.memory.now _ c.if-len-eq0.false c.if-len-gt25.true refl

pub returns-then-total-lt3 : goal.returns-then-total-lt3
returns-then-total-lt3 c =
    let a = c.args in
    final_short a.n a.len a.frame.now a.memory.now _ c.if-len-eq0.false c.if-len-gt25.false c.if-total-lt3.true refl

pub returns-then-update-ne0 : goal.returns-then-update-ne0
returns-then-update-ne0 c =
    let a = c.args in
    let bytes : Bytes a.memory.now = search rules in
    let given : Bytes a.frame.now = search rules in
    final_wrong a.n a.len a.frame.now a.memory.now _ c.if-len-eq0.false c.if-len-gt25.false c.if-total-lt3.false bytes given _ _
    c.m17_crc-sum.ensures c.update.ensures c.if-update-ne0.true refl

pub returns : goal.returns
returns c =
    let a = c.args in
    let bytes : Bytes a.memory.now = search rules in
    let given : Bytes a.frame.now = search rules in
    final_right a.n a.len a.frame.now a.memory.now _ c.if-len-eq0.false c.if-len-gt25.false c.if-total-lt3.false bytes given _ _
    c.m17_crc-sum.ensures c.update.ensures c.if-update-ne0.false _ (told_comes _ _ _ c.told.ensures) c.store.ensures

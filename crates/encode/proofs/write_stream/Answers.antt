-- `encode::write_stream` meets its contract: the LICH, then the coded fields. Assumes nothing.
use mathlib.Core.Path.{◌≡◌, sym, ap, ap₂, ◌∙◌}
use mathlib.Core.List.{List, ◌++◌}
use Prim.Native.Nat.{ℕ}
use lib.ListN.{length, take}
use borrow.Author.Rules.{rules}
use Rattle.std.specs.Prelude.{Result, Ok}
use Rattle.refusal.specs.declared.Refusal.{Refusal}
use Rattle.fec.specs.declared.Kind.TheVariants.{Stream}
use Rattle.fec.specs.Kinds.{coded_of}
use Rattle.encode.specs.Lich.{lich_bytes}
use Rattle.encode.specs.Bodies.{masked}
use Rattle.encode.proofs.Answers.{lich_written, stream_short_part, stream_short, stream_high_index, stream_high, stream_written}
use Rattle.encode.proofs.Coded.{apart_said, coded_is, coded_never}
use Rattle.encode.proofs.write_stream.Goals as goal

pub returns-then-lich_part-ne5 : goal.returns-then-lich_part-ne5
returns-then-lich_part-ne5 c =
    let a = c.args in
    sym (stream_short_part a.lich_idx a.lich_part.now a.frame_number a.end_of_stream a.stream_data.now c.if-lich_part-ne5.true)

pub returns-then-stream_data-ne16 : goal.returns-then-stream_data-ne16
returns-then-stream_data-ne16 c =
    let a = c.args in
    sym (stream_short a.lich_idx a.lich_part.now a.frame_number a.end_of_stream a.stream_data.now c.if-lich_part-ne5.false c.if-stream_data-ne16.true)

pub returns-then-lich_idx-gt5 : goal.returns-then-lich_idx-gt5
returns-then-lich_idx-gt5 c =
    let a = c.args in
    sym
    (stream_high_index a.lich_idx a.lich_part.now a.frame_number a.end_of_stream a.stream_data.now c.if-lich_part-ne5.false c.if-stream_data-ne16.false
    c.if-lich_idx-gt5.true)

pub returns-then-frame_number-gt32767 : goal.returns-then-frame_number-gt32767
returns-then-frame_number-gt32767 c =
    let a = c.args in
    sym
    (stream_high a.lich_idx a.lich_part.now a.frame_number a.end_of_stream a.stream_data.now c.if-lich_part-ne5.false c.if-stream_data-ne16.false
    c.if-lich_idx-gt5.false c.if-frame_number-gt32767.true)

pub returns-in_err-lich : goal.returns-in_err-lich
returns-in_err-lich c =
    let a = c.args in
    absurd
    (apart_said _ _
    (sym (lich_written a.lich_idx a.lich_part.now c.if-lich_part-ne5.false c.if-lich_idx-gt5.false) ∙ sym c.encode_lich.ensures ∙ c.in_err-lich.was))

pub returns-in_err-coded : goal.returns-in_err-coded
returns-in_err-coded c =
    let long : length c.stream_fields-fields.result ≡ 18 = search rules in
    absurd (coded_never Stream c.stream_fields-fields.result long _ c.encode.ensures _ c.in_err-coded.was)

pub returns : goal.returns
returns c =
    let a = c.args in
    let lp = c.if-lich_part-ne5.false in
    let said : Ok c.in_ok-lich.lich ≡ Ok (lich_bytes a.lich_idx a.lich_part.now) =
    sym c.in_ok-lich.was ∙ c.encode_lich.ensures ∙ lich_written a.lich_idx a.lich_part.now lp c.if-lich_idx-gt5.false in
    let lich : c.in_ok-lich.lich ≡ lich_bytes a.lich_idx a.lich_part.now = cc in
    let long : length c.stream_fields-fields.result ≡ 18 = search rules in
    c.mask.ensures
    ∙ ap {B = Result (List ℕ) Refusal} (λ (b : List ℕ). Ok (masked b))
    (c.combined.ensures
    ∙ ap₂ (λ (p q : List ℕ). p ++ take 34 q) lich
    (coded_is Stream c.stream_fields-fields.result long _ c.encode.ensures _ c.in_ok-coded.was ∙ ap (coded_of Stream) c.stream_fields-fields.ensures))
    ∙ sym
    (stream_written a.lich_idx a.lich_part.now a.frame_number a.end_of_stream a.stream_data.now lp c.if-stream_data-ne16.false c.if-lich_idx-gt5.false
    c.if-frame_number-gt32767.false)

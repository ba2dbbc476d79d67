-- `encode::write_packet` meets its contract: the fields are those of each case of the counter. Assumes nothing.
use mathlib.Core.Path.{◌≡◌, sym, ap, ◌∙◌}
use mathlib.Core.List.{List, [], ◌∷◌}
use Prim.Native.Nat.{ℕ, ◌*◌}
use Rattle.std.specs.Prelude.{Result, Ok}
use Rattle.refusal.specs.declared.Refusal.{Refusal}
use Rattle.fec.specs.declared.Kind.TheVariants.{Packet}
use Rattle.fec.specs.Kinds.{coded_of}
use Rattle.protocol.specs.declared.PacketFrameCounter.{PacketFrameCounter}
use Rattle.encode.specs.Bodies.{masked, packet_body_of}
use Rattle.encode.proofs.Answers.{packet_short, frame_high, frame_written, final_high, final_written}
use Rattle.encode.proofs.Fields.{fields_whole}
use Rattle.encode.proofs.Coded.{coded_is, coded_never}
use Rattle.encode.proofs.write_packet.Goals as goal
use Rattle.encode.proofs.write_packet.Goals.{in-Frame+else-index-gt31, in-FinalFrame+else-payload_len-gt25}

at : (s : List ℕ) (p q : PacketFrameCounter) → p ≡ q → packet_body_of p s ≡ packet_body_of q s
at s p q e = ap (λ (p : PacketFrameCounter). packet_body_of p s) e

abbrev body : List ℕ → Result (List ℕ) Refusal
body l = Ok (masked (coded_of Packet l))

pub returns-then-payload-ne25 : goal.returns-then-payload-ne25
returns-then-payload-ne25 c = sym (packet_short c.args.payload.now c.args.counter c.if-payload-ne25.true)

pub returns-then-index-gt31 : goal.returns-then-index-gt31
returns-then-index-gt31 c =
    let s = c.args.payload.now in
    sym (at s _ _ c.in-Frame.is ∙ frame_high s c.if-payload-ne25.false c.in-Frame.index c.if-index-gt31.true)

pub returns-then-payload_len-gt25 : goal.returns-then-payload_len-gt25
returns-then-payload_len-gt25 c =
    let s = c.args.payload.now in
    sym (at s _ _ c.in-FinalFrame.is ∙ final_high s c.if-payload-ne25.false c.in-FinalFrame.payload_len c.if-payload_len-gt25.true)

pub returns-in_err-coded : goal.returns-in_err-coded
returns-in_err-coded c = absurd (coded_never Packet c.match-counter.fields c.match-counter.array_long _ c.encode.ensures _ c.in_err-coded.was)

pub returns : goal.returns
returns c =
    let s = c.args.payload.now in
    let long = c.if-payload-ne25.false in
    let written : packet_body_of c.args.counter s ≡ body c.match-counter.fields =
    elim c.match-counter.branch [
      | in-Frame+else-index-gt31 w ↦
          let n = w.in-Frame.index in
          at s _ _ w.in-Frame.is ∙ frame_written s long n w.if-index-gt31.false
          ∙ ap body (sym (w.fields-is ∙ w.packet_fields-fields.ensures ∙ fields_whole s (n * 4 ∷ []) long))
      | in-FinalFrame+else-payload_len-gt25 w ↦
          at s _ _ w.in-FinalFrame.is ∙ final_written s long w.in-FinalFrame.payload_len w.if-payload_len-gt25.false
          ∙ ap body (sym (w.fields-is ∙ w.packet_fields-fields-in-FinalFrame.ensures))
    ] in
    c.mask.ensures
    ∙ ap {B = Result (List ℕ) Refusal} (λ (b : List ℕ). Ok (masked b))
    (coded_is Packet c.match-counter.fields c.match-counter.array_long _ c.encode.ensures _ c.in_ok-coded.was)
    ∙ sym written

-- `decode::read_stream` meets its contract: 3 before 4. Assumes nothing.
use mathlib.Core.Path.{◌≡◌, sym, ap, ap₂, ◌∙◌}
use mathlib.Core.List.{List}
use Prim.Native.Nat.{ℕ}
use native.Mathlib.Omega.{arith}
use lib.ListN.{length, take, drop, length-drop}
use lib.Seq.{take_all}
use borrow.Author.Rules.{rules}
use Rattle.std.specs.Prelude.{Result, Ok}
use Rattle.refusal.specs.declared.Refusal.{Refusal}
use Rattle.fec.specs.declared.Kind.TheVariants.{Stream}
use Rattle.fec.specs.Kinds.{decoded_of}
use Rattle.protocol.specs.declared.StreamFrame.{StreamFrame}
use Rattle.decode.specs.Lich.{lich_read_of}
use Rattle.decode.specs.Bodies.{unmasked, stream_by, stream_read_of}
use Rattle.decode.proofs.Steps.{handed, then_done, then_not}
use Rattle.decode.proofs.read_stream.Goals as goal

abbrev read : List ℕ → Result StreamFrame Refusal
read u = stream_by (decoded_of Stream (drop 12 u)) (lich_read_of (take 12 u))

-- all that is left after the LICH
rest : (u : List ℕ) → length u ≡ 46 → take 34 (drop 12 u) ≡ drop 12 u
rest u long = take_all 34 (drop 12 u) (omega (arith, length-drop 12 u))

pub returns-in_err-coded : goal.returns-in_err-coded
unfolding stream_read_of
returns-in_err-coded c =
    let s = c.args.body.now in
    handed _ _ c.from_residual.ensures ∙ then_not (length s) 46 (unmasked s) read c.unmask.result c.unmask.ensures _ c.in_err-coded.was

pub returns-in_err-bytes : goal.returns-in_err-bytes
unfolding stream_read_of
returns-in_err-bytes c =
    let s = c.args.body.now in
    let u = c.in_ok-coded.coded in
    let long : length u ≡ 46 = search rules in
    handed _ _ c.from_residual-in_err-bytes.ensures
    ∙ ap (λ (r : Result (List ℕ) Refusal). stream_by r (lich_read_of (take 12 u))) (sym c.in_err-bytes.was ∙ c.decode.ensures ∙ ap (decoded_of Stream) (rest u long))
    ∙ then_done (length s) 46 (unmasked s) read c.unmask.result c.unmask.ensures _ c.in_ok-coded.was

pub returns-in_err-lich : goal.returns-in_err-lich
unfolding stream_read_of
returns-in_err-lich c =
    let s = c.args.body.now in
    let u = c.in_ok-coded.coded in
    let long : length u ≡ 46 = search rules in
    handed _ _ c.from_residual-in_err-lich.ensures
    ∙ ap₂ stream_by (sym c.in_ok-bytes.was ∙ c.decode.ensures ∙ ap (decoded_of Stream) (rest u long)) (sym c.in_err-lich.was ∙ c.decode_lich.ensures)
    ∙ then_done (length s) 46 (unmasked s) read c.unmask.result c.unmask.ensures _ c.in_ok-coded.was

pub returns : goal.returns
unfolding stream_read_of
returns c =
    let s = c.args.body.now in
    let u = c.in_ok-coded.coded in
    let long : length u ≡ 46 = search rules in
    ap {B = Result StreamFrame Refusal} Ok c.stream_from.ensures
    ∙ ap₂ stream_by (sym c.in_ok-bytes.was ∙ c.decode.ensures ∙ ap (decoded_of Stream) (rest u long)) (sym c.in_ok-lich.was ∙ c.decode_lich.ensures)
    ∙ then_done (length s) 46 (unmasked s) read c.unmask.result c.unmask.ensures _ c.in_ok-coded.was

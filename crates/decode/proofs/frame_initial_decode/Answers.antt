-- `decode::frame_initial_decode` meets its contract. Assumes nothing.
use mathlib.Core.Path.{◌≡◌, ap, ◌∙◌}
use mathlib.Core.Bool.{cond}
use mathlib.Core.List.{List}
use Prim.Native.Nat.{ℕ}
use lib.Dec.{eqb}
use lib.ListN.{length, drop}
use borrow.Author.Tests.{eq-eqb}
use Rattle.std.specs.Prelude.{Result, Ok, Err}
use Rattle.refusal.specs.declared.Refusal.{Refusal}
use Rattle.refusal.specs.declared.Refusal.TheVariants.{WrongLength}
use Rattle.bits.proofs.Back.{length_bytes}
use Rattle.decode.specs.Bodies.{unmasked, unmasked_of}
use Rattle.decode.specs.Symbols.{pairs_of, body_from, body_read_of, initial_of}
use Rattle.decode.proofs.Steps.{handed, then_done, then_not}
use Rattle.decode.proofs.frame_initial_decode.Goals as goal

abbrev Coded : Type 0
Coded = Result (List ℕ) Refusal

-- 46 bytes are never refused
whole : (b : List ℕ) → length b ≡ 46 → unmasked_of b ≡ Ok (unmasked b)
whole b long = simp (eq-eqb (length b) 46 long)

pub returns-in_err-body : goal.returns-in_err-body
unfolding initial_of body_read_of
returns-in_err-body c =
    let xs = c.args.frame.now in
    handed _ _ c.from_residual.ensures
    ∙ then_not {B = List ℕ} (length xs) 192 (body_from xs) (λ b. Ok (unmasked b)) c.body_of.result c.body_of.ensures _ c.in_err-body.was

pub returns : goal.returns
unfolding initial_of body_read_of body_from
returns c =
    let xs = c.args.frame.now in
    c.unmask.ensures ∙ then_done (length xs) 192 (body_from xs) unmasked_of c.body_of.result c.body_of.ensures _ c.in_ok-body.was
    ∙ ap {B = Coded} (λ (r : Coded). cond (eqb (length xs) 192) r (Err WrongLength)) (whole (body_from xs) (length_bytes 46 (pairs_of (drop 8 xs))))

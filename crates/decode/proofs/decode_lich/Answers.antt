-- `decode::decode_lich` meets its contract: each Golay answer in its order. Assumes nothing.
use mathlib.Core.Path.{◌≡◌, sym, ap, ◌∙◌}
use mathlib.Core.List.{List}
use Prim.Native.Nat.{ℕ}
use borrow.Author.Rules.{rules}
use Rattle.std.specs.Prelude.{Result, Ok}
use Rattle.refusal.specs.declared.Refusal.{Refusal}
use Rattle.golay.specs.Golay.{decoded_of}
use Rattle.decode.specs.declared.LichPart.{LichPart}
use Rattle.decode.specs.Lich.{word_at}
use Rattle.decode.proofs.Words.{data_lt}
use Rattle.decode.proofs.ByLength.{lich_short, first_refused, second_refused, third_refused, fourth_refused, all_read}
use Rattle.decode.proofs.decode_lich.Goals as goal

-- what word j of the buffer reads as, from what the code read in the array of its bytes
word : (s l : List ℕ) (j : ℕ) (r : Result ℕ Refusal) → l ≡ s → r ≡ decoded_of (word_at l j) → decoded_of (word_at s j) ≡ r
word s l j r e q = ap (λ (t : List ℕ). decoded_of (word_at t j)) (sym e) ∙ sym q

pub returns-in_default : goal.returns-in_default
returns-in_default c = sym (lich_short c.args.lich.now (search rules))

pub returns-in_default-data_at : goal.returns-in_default-data_at
returns-in_default-data_at c =
    let s = c.args.lich.now in
    let h = c.in-Ok.ensures.1 in
    let l = c.in-Ok.lich.now in
    let a = word s l 0 _ h.same c.data_at.ensures ∙ c.in_default-data_at.is in
    sym (first_refused s h.long _ a)

pub returns-in_default-data_at-2 : goal.returns-in_default-data_at-2
returns-in_default-data_at-2 c =
    let s = c.args.lich.now in
    let h = c.in-Ok.ensures.1 in
    let l = c.in-Ok.lich.now in
    let a = word s l 0 _ h.same c.data_at.ensures ∙ c.in-Ok-data_at.is in
    let b = word s l 1 _ h.same c.data_at-2.ensures ∙ c.in_default-data_at-2.is in
    sym (second_refused s h.long _ a _ b)

pub returns-in_default-data_at-3 : goal.returns-in_default-data_at-3
returns-in_default-data_at-3 c =
    let s = c.args.lich.now in
    let h = c.in-Ok.ensures.1 in
    let l = c.in-Ok.lich.now in
    let a = word s l 0 _ h.same c.data_at.ensures ∙ c.in-Ok-data_at.is in
    let b = word s l 1 _ h.same c.data_at-2.ensures ∙ c.in-Ok-data_at-2.is in
    let d = word s l 2 _ h.same c.data_at-3.ensures ∙ c.in_default-data_at-3.is in
    sym (third_refused s h.long _ a _ b _ d)

pub returns-in_default-data_at-4 : goal.returns-in_default-data_at-4
returns-in_default-data_at-4 c =
    let s = c.args.lich.now in
    let h = c.in-Ok.ensures.1 in
    let l = c.in-Ok.lich.now in
    let a = word s l 0 _ h.same c.data_at.ensures ∙ c.in-Ok-data_at.is in
    let b = word s l 1 _ h.same c.data_at-2.ensures ∙ c.in-Ok-data_at-2.is in
    let d = word s l 2 _ h.same c.data_at-3.ensures ∙ c.in-Ok-data_at-3.is in
    let e = word s l 3 _ h.same c.data_at-4.ensures ∙ c.in_default-data_at-4.is in
    sym (fourth_refused s h.long _ a _ b _ d _ e)

pub lich_from-requires : goal.lich_from-requires
lich_from-requires c = (
  data_lt _ _ (sym c.data_at.ensures ∙ c.in-Ok-data_at.is),
  data_lt _ _ (sym c.data_at-2.ensures ∙ c.in-Ok-data_at-2.is),
  data_lt _ _ (sym c.data_at-3.ensures ∙ c.in-Ok-data_at-3.is),
  data_lt _ _ (sym c.data_at-4.ensures ∙ c.in-Ok-data_at-4.is),
)

pub returns : goal.returns
returns c =
    let s = c.args.lich.now in
    let h = c.in-Ok.ensures.1 in
    let l = c.in-Ok.lich.now in
    ap {B = Result LichPart Refusal} Ok c.lich_from.ensures
    ∙ sym
    (all_read s h.long _ (word s l 0 _ h.same c.data_at.ensures ∙ c.in-Ok-data_at.is) _ (word s l 1 _ h.same c.data_at-2.ensures ∙ c.in-Ok-data_at-2.is) _
    (word s l 2 _ h.same c.data_at-3.ensures ∙ c.in-Ok-data_at-3.is) _ (word s l 3 _ h.same c.data_at-4.ensures ∙ c.in-Ok-data_at-4.is))

-- `bits::pack` meets its contract. Assumes nothing.
use mathlib.Core.Path.{◌≡◌, sym, ap, ◌∙◌}
use mathlib.Core.Bool.{Bool}
use mathlib.Core.List.{List}
use Prim.Native.Nat.{ℕ, ◌-◌, ◌*◌}
use native.Mathlib.Omega.{arith}
use Rattle.std.proofs.Common.{rules}
use lib.ListN.{length, take, drop}
use lib.Seq.{take_all, drop-drop}
use Rattle.std.proofs.lemmas.List.{drop_min, length-drop}
use Rattle.laws.proofs.Values.{filled_more, filled_all}
use Rattle.bits.specs.Bits.{byte_of}
use Rattle.bits.proofs.Back.{bytes_tabled}
use Rattle.bits.proofs.pack.Goals as goal

rest : (n : ℕ) (l : List Bool) → take (length l - n) (drop n l) ≡ drop n l
rest n l = take_all (length l - n) (drop n l) (omega (arith, length-drop n l))

pub loop-byte-preserved : goal.loop-byte-preserved
loop-byte-preserved c = (
  rest c.min.result c.loop-byte.left.now ∙ ap (λ (n : ℕ). drop n c.loop-byte.left.now) (search rules) ∙ drop_min 8 c.loop-byte.left.now
      ∙ ap (drop 8) c.loop-byte.invariant.0 ∙ drop-drop 8 (8 * c.loop-byte.byte-index) c.args.bits.now ∙ ap (λ (n : ℕ). drop n c.args.bits.now) (omega arith),
  filled_more (λ (k : ℕ). byte_of (drop (8 * k) c.args.bits.now)) (length c.args.out.now) 0 c.loop-byte.out c.loop-byte.byte-index c.byte_of.result (omega arith) c.loop-byte.invariant.1 (c.byte_of.ensures ∙ ap byte_of c.loop-byte.invariant.0),
)

pub returns : goal.returns
returns c = filled_all (λ (k : ℕ). byte_of (drop (8 * k) c.args.bits.now)) (length c.args.out.now) 0 c.loop-byte.out c.loop-byte.byte-index (omega arith) c.loop-byte.invariant.1 ∙ sym (bytes_tabled (length c.args.out.now) c.args.bits.now)

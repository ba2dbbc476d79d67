-- `encode::mask` meets its contract: 46 bytes are never refused. Assumes nothing.
use mathlib.Core.Path.{◌≡◌, sym, ap, ◌∙◌}
use mathlib.Core.List.{List}
use Prim.Native.Nat.{ℕ}
use lib.ListN.{length}
use borrow.Author.Rules.{rules}
use Rattle.std.specs.Prelude.{Ok}
use Rattle.random.specs.Random.{xored}
use Rattle.bits.specs.Bits.{bits_of, bytes_of}
use Rattle.interleave.specs.Interleave.{interleaved, interleaved_of}
use Rattle.interleave.proofs.Twice.{right}
use Rattle.encode.specs.Bodies.{masked}
use Rattle.encode.proofs.Coded.{apart_said}
use Rattle.encode.proofs.mask.Goals as goal

masked-is : (s b x : List ℕ) → Ok b ≡ interleaved_of s → length s ≡ 46 → x ≡ xored b → x ≡ masked s
unfolding masked
masked-is s b x p e q =
    let r : Ok b ≡ Ok (bytes_of 46 (interleaved (bits_of s))) = p ∙ right s e in
    let is : b ≡ bytes_of 46 (interleaved (bits_of s)) = cc in
    q ∙ ap xored is

pub returns-in_err-bytes : goal.returns-in_err-bytes
returns-in_err-bytes c = absurd (apart_said _ _ (sym (right c.args.coded (search rules)) ∙ sym c.interleave.ensures ∙ c.in_err-bytes.was))

pub returns : goal.returns
returns c = ap Ok (masked-is c.args.coded c.in_ok-bytes.bytes c.random_xor.new.bytes (sym c.in_ok-bytes.was ∙ c.interleave.ensures) (search rules) c.random_xor.ensures)

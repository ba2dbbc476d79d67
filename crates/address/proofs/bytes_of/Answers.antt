-- `address::bytes_of` meets its contract. Assumes nothing.
use Rattle.std.proofs.Common.{ℕ, List, [], ◌∷◌, ap, ◌∙◌, arith, get_or}
use Rattle.laws.specs.Value.{in_bytes}
use Rattle.laws.proofs.Number.{length_in_bytes}
use Rattle.laws.proofs.BigEndian.{to_be_8_6}
use Rattle.address.proofs.Six.{six}
use Rattle.address.proofs.bytes_of.Goals as goal

pub returns : goal.returns
returns c =
    let v = c.args.value in
    ap (λ (s : List ℕ). get_or s 2 0 ∷ get_or s 3 0 ∷ get_or s 4 0 ∷ get_or s 5 0 ∷ get_or s 6 0 ∷ get_or s 7 0 ∷ [])
    (c.to_be_bytes.ensures ∙ to_be_8_6 v (omega arith))
    ∙ six (in_bytes 6 v) (length_in_bytes 6 v)

-- `crc::update` meets its contract: after i bytes the register is the CRC of the first i. Assumes nothing.
use mathlib.Core.Path.{◌≡◌, sym, ap, ◌∙◌}
use mathlib.Core.List.{List}
use Prim.Native.Nat.{ℕ, ◌+◌, ◌*◌, ◌/◌, ◌%◌, ◌<◌}
use native.Mathlib.Omega.{arith}
use lib.Bits.{bit_xor, xor_lt}
use lib.ListN.{length, get_or, take}
use Rattle.laws.specs.Tabled.{tabled}
use Rattle.laws.specs.Value.{Bytes}
use Rattle.laws.proofs.Values.{tabled_at}
use Rattle.crc.specs.Crc.{byte_remainder, crc_from}
use Rattle.crc.proofs.Parts.{crc_nothing, crc_more}
use Rattle.crc.proofs.update.Goals as goal

pub loop-byte-init : goal.loop-byte-init
loop-byte-init c = sym (crc_nothing c.args.start)

-- one byte more: the table's entry at the byte that is looked up
more : (t : List ℕ) (start : ℕ) (s : List ℕ) (i r x top : ℕ) → t ≡ tabled byte_remainder 256 → start < 65536 → Bytes s → i < length s → r < 65536
    → r ≡ crc_from start (take i s) → x ≡ get_or s i 0 → top ≡ bit_xor (r / 256) x
    → bit_xor (r % 256 * 256) (get_or t top 0) ≡ crc_from start (take (i + 1) s)
more t start s i r x top tabled-is hs bytes hi hr r-is x-is top-is =
    let small : top < 256 = omega (arith, top-is, xor_lt 8 (r / 256) x (omega arith) (omega (arith, x-is, bytes i))) in
    ap (bit_xor (r % 256 * 256))
    (ap (λ (l : List ℕ). get_or l top 0) tabled-is ∙ tabled_at byte_remainder 256 top 0 small
    ∙ ap byte_remainder (top-is ∙ ap (bit_xor (r / 256)) x-is))
    ∙ ap (λ (n : ℕ). bit_xor (n % 256 * 256) (byte_remainder (bit_xor (n / 256) (get_or s i 0)))) r-is
    ∙ sym (crc_more start s i hs bytes hi)

pub loop-byte-preserved : goal.loop-byte-preserved
loop-byte-preserved c =
    let l = c.loop-byte in
    more c.table-remainders.result.now c.args.start c.args.input.now l.byte-index l.r c.from.result c.from-in-loop-byte.result c.table-remainders.ensures
    (omega arith) (λ k. omega (arith, c.type_inv.input k)) (omega arith) (omega arith) l.invariant c.from.ensures c.from-in-loop-byte.ensures

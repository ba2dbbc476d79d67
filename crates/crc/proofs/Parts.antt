-- The CRC may go on: of two parts one after the other, and of one byte more. Assumes nothing.
use mathlib.Core.Path.{◌≡◌, sym, ap, ap₂, ◌∙◌, subst}
use mathlib.Core.List.{List, [], ◌∷◌, ◌++◌}
use Prim.Native.Nat.{ℕ, ◌+◌, ◌*◌, ◌/◌, ◌%◌, ◌^◌, ◌<◌}
use native.Mathlib.Nat.{add-mul, mul_assoc, mul_comm, mul-one}
use native.Mathlib.Numerals.{add-one}
use native.Mathlib.Omega.{arith}
use lib.Dec.{lit<}
use lib.Pow.{pow-add, shl_lt}
use lib.Bits.{bit_xor, xor_block, xor_comm, xor_lt, xor_shifted, xor_zero_r}
use lib.ListN.{length, get_or, take, length-append}
use lib.Seq.{take-suc}
use Rattle.laws.specs.Division.{rem}
use Rattle.laws.specs.Value.{value_of, Bytes}
use Rattle.laws.proofs.Bytes.{bytes_take, bytes_one}
use Rattle.laws.proofs.Xor.{xor_assoc}
use Rattle.laws.proofs.Divide.{shl_xor, rem_lt, rem-xor, rem_small, rem_shift}
use Rattle.laws.proofs.Number.{value_lt, value_append, bits_of_bytes}
use Rattle.crc.specs.Crc.{crc_from, byte_remainder}

poly_lt : 0x5935 < 2 ^ 16
poly_lt = lit< tt

-- what is divided
abbrev dividend : ℕ → List ℕ → ℕ
dividend r s = bit_xor (r * 2 ^ (8 * length s)) (value_of s * 2 ^ 16)

message_lt : (s : List ℕ) → Bytes s → value_of s * 2 ^ 16 < 2 ^ (16 + 8 * length s)
message_lt s h =
    let p : 8 * length s + 16 ≡ 16 + 8 * length s = omega arith in
    subst (λ (n : ℕ). value_of s * 2 ^ 16 < 2 ^ n) p (shl_lt (8 * length s) 16 (subst (λ (n : ℕ). value_of s < n) (bits_of_bytes (length s)) (value_lt s h)))

dividend-lt : (r : ℕ) (s : List ℕ) → r < 65536 → Bytes s → dividend r s < 2 ^ (16 + 8 * length s)
dividend-lt r s hr h = xor_lt (16 + 8 * length s) (r * 2 ^ (8 * length s)) (value_of s * 2 ^ 16) (shl_lt 16 (8 * length s) hr) (message_lt s h)

pub crc_from_lt : (r : ℕ) (s : List ℕ) → r < 65536 → Bytes s → crc_from r s < 65536
unfolding crc_from
crc_from_lt r s hr h = rem_lt 16 0x5935 poly_lt (8 * length s) (dividend r s) (dividend-lt r s hr h)

pub crc_nothing : (r : ℕ) → crc_from r [] ≡ r
unfolding crc_from value_of rem
crc_nothing r = xor_zero_r (r * 1) ∙ mul-one r

-- the dividend of two parts is that of the first, shifted, with the second behind it
dividend-append : (r : ℕ) (s t : List ℕ) → Bytes t
    → bit_xor (r * 2 ^ (8 * length s + 8 * length t)) (value_of (s ++ t) * 2 ^ 16) ≡ bit_xor (dividend r s * 2 ^ (8 * length t)) (value_of t * 2 ^ 16)
dividend-append r s t h =
    let start : r * 2 ^ (8 * length s + 8 * length t) ≡ r * 2 ^ (8 * length s) * 2 ^ (8 * length t) =
    ap (λ (k : ℕ). r * k) (pow-add 2 (8 * length s) (8 * length t)) ∙ sym (mul_assoc r (2 ^ (8 * length s)) (2 ^ (8 * length t))) in
    let swap : value_of s * 2 ^ (8 * length t) * 2 ^ 16 ≡ value_of s * 2 ^ (16 + 8 * length t) =
    mul_assoc (value_of s) (2 ^ (8 * length t)) (2 ^ 16) ∙ ap (λ (k : ℕ). value_of s * k) (mul_comm (2 ^ (8 * length t)) (2 ^ 16) ∙ sym (pow-add 2 16 (8 * length t))) in
    let back : value_of s * 2 ^ (16 + 8 * length t) ≡ value_of s * 2 ^ 16 * 2 ^ (8 * length t) =
    ap (λ (k : ℕ). value_of s * k) (pow-add 2 16 (8 * length t)) ∙ sym (mul_assoc (value_of s) (2 ^ 16) (2 ^ (8 * length t))) in
    let message : value_of (s ++ t) * 2 ^ 16 ≡ bit_xor (value_of s * 2 ^ 16 * 2 ^ (8 * length t)) (value_of t * 2 ^ 16) =
    ap (λ (k : ℕ). k * 2 ^ 16) (value_append s t ∙ ap (λ (k : ℕ). value_of s * k + value_of t) (bits_of_bytes (length t))) ∙ add-mul (value_of s * 2 ^ (8 * length t)) (value_of t) (2 ^ 16)
    ∙ ap (λ (k : ℕ). k + value_of t * 2 ^ 16) swap ∙ sym (xor_shifted (value_of s) (16 + 8 * length t) (value_of t * 2 ^ 16) (message_lt t h))
    ∙ ap (λ (k : ℕ). bit_xor k (value_of t * 2 ^ 16)) back in
    ap₂ bit_xor start message
    ∙ sym (xor_assoc (r * 2 ^ (8 * length s) * 2 ^ (8 * length t)) (value_of s * 2 ^ 16 * 2 ^ (8 * length t)) (value_of t * 2 ^ 16))
    ∙ ap (λ (k : ℕ). bit_xor k (value_of t * 2 ^ 16)) (shl_xor (r * 2 ^ (8 * length s)) (value_of s * 2 ^ 16) (8 * length t))

pub crc_append : (r : ℕ) (s t : List ℕ) → r < 65536 → Bytes s → Bytes t → crc_from r (s ++ t) ≡ crc_from (crc_from r s) t
unfolding crc_from
crc_append r s t hr hs ht =
    let p : 8 * (length s + length t) ≡ 8 * length s + 8 * length t = omega arith in
    ap (λ (n : ℕ). rem 16 0x5935 n (bit_xor (r * 2 ^ n) (value_of (s ++ t) * 2 ^ 16))) (ap (λ (n : ℕ). 8 * n) (length-append s t) ∙ p)
    ∙ ap (rem 16 0x5935 (8 * length s + 8 * length t)) (dividend-append r s t ht)
    ∙ rem_shift 16 0x5935 poly_lt (8 * length s) (8 * length t) (dividend r s) (value_of t * 2 ^ 16) (dividend-lt r s hr hs) (message_lt t ht)

-- one byte: the table's entry at the top byte, and the low byte moved up
pub crc_byte : (r x : ℕ) → r < 65536 → x < 256 → crc_from r (x ∷ []) ≡ bit_xor (r % 256 * 256) (byte_remainder (bit_xor (r / 256) x))
unfolding crc_from value_of byte_remainder
crc_byte r x hr hx =
    let whole : r * 2 ^ 8 ≡ r / 256 * 2 ^ 16 + r % 256 * 256 = omega arith in
    let only : (x * 2 ^ 0 + 0) * 2 ^ 16 ≡ x * 2 ^ 16 + 0 = omega arith in
    let high : bit_xor (r / 256) x < 256 = xor_lt 8 (r / 256) x (omega arith) hx in
    let split : bit_xor (r * 2 ^ 8) ((x * 2 ^ 0 + 0) * 2 ^ 16) ≡ bit_xor (bit_xor (r / 256) x * 2 ^ 16) (r % 256 * 256) =
    ap₂ bit_xor whole only ∙ xor_block 16 (r / 256) x (r % 256 * 256) 0 (omega arith) (lit< tt)
    ∙ ap (λ (n : ℕ). bit_xor (r / 256) x * 2 ^ 16 + n) (xor_zero_r (r % 256 * 256))
    ∙ sym (xor_shifted (bit_xor (r / 256) x) 16 (r % 256 * 256) (omega arith)) in
    ap (rem 16 0x5935 8) split
    ∙ rem-xor 16 0x5935 poly_lt 8 (bit_xor (r / 256) x * 2 ^ 16) (r % 256 * 256) (omega arith) (omega arith)
    ∙ ap (bit_xor (rem 16 0x5935 8 (bit_xor (r / 256) x * 2 ^ 16))) (rem_small 16 0x5935 poly_lt 8 (r % 256 * 256) (omega arith))
    ∙ xor_comm (rem 16 0x5935 8 (bit_xor (r / 256) x * 2 ^ 16)) (r % 256 * 256)

-- one byte more of a list
pub crc_more : (r : ℕ) (s : List ℕ) (i : ℕ) → r < 65536 → Bytes s → i < length s
    → crc_from r (take (i + 1) s) ≡ bit_xor (crc_from r (take i s) % 256 * 256) (byte_remainder (bit_xor (crc_from r (take i s) / 256) (get_or s i 0)))
crc_more r s i hr h l =
    ap (λ (n : ℕ). crc_from r (take n s)) (add-one i) ∙ ap (crc_from r) (take-suc s i 0 l)
    ∙ crc_append r (take i s) (get_or s i 0 ∷ []) hr (bytes_take i s h) (bytes_one (get_or s i 0) (h i))
    ∙ crc_byte (crc_from r (take i s)) (get_or s i 0) (crc_from_lt r (take i s) hr (bytes_take i s h)) (h i)

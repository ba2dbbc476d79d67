-- The coded bytes of a body: what masks them is undone. Assumes nothing.
use mathlib.Core.Path.{◌≡◌, sym, ap, ◌∙◌}
use mathlib.Core.Bool.{Bool}
use mathlib.Core.List.{List}
use Prim.Native.Nat.{ℕ, ◌*◌, ◌%◌, ◌<◌}
use native.Mathlib.Decide.{dec_lt}
use native.Mathlib.Omega.{arith}
use lib.Bits.{xor_lt}
use lib.Dec.{ltb, ltb→lt}
use lib.ListN.{length, get_or, get_or-eq_default}
use borrow.Author.Tests.{eq-eqb}
use Rattle.std.specs.Prelude.{Result, Ok}
use Rattle.laws.specs.Value.{Bytes}
use Rattle.laws.proofs.Every.{every_at}
use Rattle.refusal.specs.declared.Refusal.{Refusal}
use Rattle.bits.specs.Bits.{bits_of, bytes_of}
use Rattle.bits.proofs.Back.{length_bits, length_bytes, bytes_bits, bits_bytes, bytes_are}
use Rattle.random.specs.Random.{random_seq, xored}
use Rattle.random.proofs.Twice.{length-xored, xored_at, xored_twice}
use Rattle.interleave.specs.Interleave.{interleaved, interleaved_of}
use Rattle.interleave.proofs.Twice.{length-interleaved, interleaved_twice, right}
use Rattle.encode.specs.Bodies.{masked}
use Rattle.decode.specs.Bodies.{unmasked, unmasked_of}

pub length-unmasked : (b : List ℕ) → length (unmasked b) ≡ 46
unfolding unmasked
length-unmasked b = length_bytes 46 (interleaved (bits_of (xored b)))

pub unmasked_bytes : (b : List ℕ) → Bytes (unmasked b)
unfolding unmasked
unmasked_bytes b = bytes_are 46 (interleaved (bits_of (xored b)))

pub length-masked : (c : List ℕ) → length (masked c) ≡ 46
unfolding masked
length-masked c = length-xored (bytes_of 46 (interleaved (bits_of c))) ∙ length_bytes 46 (interleaved (bits_of c))

sequence_bytes : (k : ℕ) → get_or random_seq (k % 46) 0 < 256
unfolding random_seq
sequence_bytes k = ltb→lt (get_or random_seq (k % 46) 0) 256 (every_at (λ j. ltb (get_or random_seq j 0) 256) 46 (k % 46) (omega arith) tt)

xored_bytes : (s : List ℕ) → Bytes s → Bytes (xored s)
xored_bytes s h k = elim (dec_lt k (length s)) [
  | yes l ↦ rw (xored_at s k l) (xor_lt 8 (get_or s k 0) (get_or random_seq (k % 46) 0) (h k) (sequence_bytes k))
  | no n ↦ omega (arith, get_or-eq_default (xored s) 0 {n = k} (omega (arith, length-xored s)))
]

pub masked_bytes : (c : List ℕ) → Bytes (masked c)
unfolding masked
masked_bytes c = xored_bytes (bytes_of 46 (interleaved (bits_of c))) (bytes_are 46 (interleaved (bits_of c)))

-- a copy of the body, xored, interleaved
pub unmasks : (b raw : List ℕ) → length b ≡ 46 → raw ≡ xored b → interleaved_of raw ≡ unmasked_of b
unfolding unmasked
unmasks b raw long of-raw =
    right raw (ap length of-raw ∙ length-xored b ∙ long)
    ∙ ap {B = Result (List ℕ) Refusal} (λ (s : List ℕ). Ok (bytes_of 46 (interleaved (bits_of s)))) of-raw ∙ sym (simp (eq-eqb (length b) 46 long))

-- what is written is read
pub unmasked-masked : (c : List ℕ) → Bytes c → length c ≡ 46 → unmasked (masked c) ≡ c
unfolding unmasked masked
unmasked-masked c h long =
    let once : bits_of (bytes_of 46 (interleaved (bits_of c))) ≡ interleaved (bits_of c) = bits_bytes 46 (interleaved (bits_of c)) (length-interleaved (bits_of c)) in
    ap (λ (s : List ℕ). bytes_of 46 (interleaved (bits_of s))) (xored_twice (bytes_of 46 (interleaved (bits_of c))))
    ∙ ap (λ (l : List Bool). bytes_of 46 (interleaved l)) once
    ∙ ap (bytes_of 46) (interleaved_twice (bits_of c) (length_bits c ∙ ap (λ (n : ℕ). 8 * n) long))
    ∙ ap (λ (n : ℕ). bytes_of n (bits_of c)) (sym long) ∙ bytes_bits c h

-- The xored bytes: how many, what each is, and that xoring twice changes nothing. Assumes nothing.
use mathlib.Core.Path.{◌≡◌, ap, ◌∙◌}
use mathlib.Core.List.{List}
use Prim.Native.Nat.{ℕ, ◌%◌, ◌<◌}
use native.Mathlib.Omega.{arith}
use lib.Bits.{bit_xor}
use lib.ListN.{length, get_or}
use lib.Seq.{ext_get_or}
use Rattle.laws.proofs.Values.{length-tabled, tabled_at}
use Rattle.laws.proofs.Xor.{xor_back}
use Rattle.random.specs.Random.{random_seq, xored}

pub length-xored : (s : List ℕ) → length (xored s) ≡ length s
unfolding xored
length-xored s = length-tabled (λ i. bit_xor (get_or s i 0) (get_or random_seq (i % 46) 0)) (length s)

pub xored_at : (s : List ℕ) (k : ℕ) → k < length s → get_or (xored s) k 0 ≡ bit_xor (get_or s k 0) (get_or random_seq (k % 46) 0)
unfolding xored
xored_at s k h = tabled_at (λ i. bit_xor (get_or s i 0) (get_or random_seq (i % 46) 0)) (length s) k 0 h

pub xored_twice : (s : List ℕ) → xored (xored s) ≡ s
xored_twice s =
    ext_get_or 0 (xored (xored s)) s (length-xored (xored s) ∙ length-xored s)
    (λ k h.
    let one : k < length (xored s) = omega (arith, length-xored (xored s)) in
    let two : k < length s = omega (arith, length-xored s) in
    xored_at (xored s) k one ∙ ap (λ (x : ℕ). bit_xor x (get_or random_seq (k % 46) 0)) (xored_at s k two)
    ∙ xor_back (get_or s k 0) (get_or random_seq (k % 46) 0))

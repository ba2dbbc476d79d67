-- `random::random_xor` meets its contract: after i turns the first i bytes are xored. Assumes nothing.
use mathlib.Core.Path.{◌≡◌, sym, ap, ◌∙◌}
use mathlib.Core.List.{List}
use Prim.Native.Nat.{ℕ, ◌+◌, ◌%◌, ◌<◌}
use native.Mathlib.Omega.{arith}
use lib.Bits.{bit_xor}
use lib.ListN.{length, get_or, set}
use Rattle.laws.proofs.InPlace.{done, done_at, done_more, done_all}
use Rattle.random.specs.Random.{random_seq, xored}
use Rattle.random.proofs.Twice.{length-xored, xored_at}
use Rattle.random.proofs.random_xor.Goals as goal

-- one turn: byte i is xored
turn : (s₀ s : List ℕ) (i : ℕ) → i < length s₀ → s ≡ done (xored s₀) s₀ i
    → set s i (bit_xor (get_or s i 0) (get_or random_seq (i % 46) 0)) ≡ done (xored s₀) s₀ (i + 1)
turn s₀ s i h e =
    let same = length-xored s₀ in
    let v : bit_xor (get_or s i 0) (get_or random_seq (i % 46) 0) ≡ get_or (xored s₀) i 0 =
    ap (λ (b : ℕ). bit_xor b (get_or random_seq (i % 46) 0)) (ap (λ (l : List ℕ). get_or l i 0) e ∙ done_at (xored s₀) s₀ same i h)
    ∙ sym (xored_at s₀ i h) in
    ap (set s i) v ∙ ap (λ (l : List ℕ). set l i (get_or (xored s₀) i 0)) e ∙ done_more (xored s₀) s₀ same i h

pub loop-i-preserved : goal.loop-i-preserved
loop-i-preserved c =
    let l = c.loop-i in
    ap (λ (t : List ℕ). set l.bytes l.i (bit_xor (get_or l.bytes l.i 0) (get_or t (l.i % 46) 0))) c.sequence-seq.ensures
    ∙ turn c.args.bytes.now l.bytes l.i (omega arith) l.invariant

pub returns : goal.returns
returns c =
    let s₀ = c.args.bytes.now in
    c.loop-i.invariant ∙ done_all (xored s₀) s₀ (length-xored s₀) c.loop-i.i (omega arith)

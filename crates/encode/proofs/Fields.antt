-- The fields of a packet frame, as the code puts them together. Assumes nothing.
use mathlib.Core.Path.{◌≡◌, sym, ap, ap₂, ◌∙◌}
use mathlib.Core.List.{List, [], ◌∷◌, ◌++◌, append-nil, append_assoc}
use Prim.Native.Nat.{ℕ, ◌-◌, ◌≤◌}
use native.Mathlib.Omega.{arith}
use lib.ListN.{length, take, drop, replicate}
use lib.Seq.{take_all, drop-append-le}
use Rattle.std.proofs.lemmas.List.{drop-replicate}

-- n bytes, zeros up to 25, and one byte more
pub fields_packet : (n x : ℕ) (s l : List ℕ) → n ≤ 25 → l ≡ take n s
    → l ++ drop n (replicate 25 0 ++ (x ∷ [])) ≡ take n s ++ replicate (25 - n) 0 ++ (x ∷ [])
fields_packet n x s l h e =
    ap₂ (λ (t u : List ℕ). t ++ u) e
    (drop-append-le n (replicate 25 0) (x ∷ []) (omega arith) ∙ ap (λ (t : List ℕ). t ++ (x ∷ [])) (drop-replicate n 25 0))
    ∙ sym (append_assoc (take n s) (replicate (25 - n) 0) (x ∷ []))

-- all 25
pub fields_whole : (s t : List ℕ) → length s ≡ 25 → take 25 s ++ replicate (25 - 25) 0 ++ t ≡ s ++ t
fields_whole s t e = ap (λ (l : List ℕ). l ++ t) (append-nil (take 25 s) ∙ take_all 25 s (omega arith))

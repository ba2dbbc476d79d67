-- Two words of the code differ in at least eight places: the code is linear, and one test over the 4096 words, which are
-- walked as a tree, a bit of the data a level, so that each costs one xor. Assumes nothing.
use mathlib.Core.Path.{◌≡◌, refl, sym, ap, ap₂, ◌∙◌, subst}
use mathlib.Core.Bool.{Bool, true, false, cond}
use mathlib.Core.List.{List, [], ◌∷◌}
use mathlib.Core.Logic.{⊎_elim}
use Prim.Native.Nat.{ℕ, suc, ◌*◌, ◌/◌, ◌%◌, ◌^◌, ◌≤◌, ◌<◌}
use native.Mathlib.Nat.{mod-lt, mul-one}
use native.Mathlib.Omega.{arith}
use lib.Dec.{T, eqb, leb, leb→le, eqb→eq, lit<}
use lib.Bits.{bit_xor, xor_lt, xor_zero_r}
use lib.Count.{ones_in}
use Rattle.golay.specs.Golay.{golay, apart}
use Rattle.laws.proofs.Every.{both, both_left, both_right}
use Rattle.laws.proofs.Xor.{xor_assoc, xor_back}
use Rattle.laws.specs.Division.{reduce, rem}
use Rattle.laws.proofs.Divide.{bit_cases}
use Rattle.golay.proofs.Linear.{golay-xor, golay_data}
use Rattle.golay.proofs.Flips.{even, odd, odd_sum}

-- the words of the data words of one bit
rows : List ℕ
rows = 0x18EB ∷ 0x293E ∷ 0x4A97 ∷ 0x8DC6 ∷ 0x10367 ∷ 0x206CD ∷ 0x40D99 ∷ 0x803DA ∷ 0x1007B4 ∷ 0x200F68 ∷ 0x40063B ∷ 0x800C75 ∷ []

-- the rows where d's bits are set, xored
comb : List ℕ → ℕ → ℕ
comb [] d = 0
comb (r ∷ rs) d = bit_xor (cond (eqb (d % 2) 1) r 0) (comb rs (d / 2))

comb_0 : (r : ℕ) (rs : List ℕ) (d : ℕ) → d % 2 ≡ 0 → comb (r ∷ rs) d ≡ comb rs (d / 2)
unfolding comb
comb_0 r rs d z = ap (λ (t : ℕ). bit_xor (cond (eqb t 1) r 0) (comb rs (d / 2))) z

comb_1 : (r : ℕ) (rs : List ℕ) (d : ℕ) → d % 2 ≡ 1 → comb (r ∷ rs) d ≡ bit_xor r (comb rs (d / 2))
unfolding comb
comb_1 r rs d z = ap (λ (t : ℕ). bit_xor (cond (eqb t 1) r 0) (comb rs (d / 2))) z

abbrev Rows : ℕ → List ℕ → Type 0
Rows j [] = j ≡ 12
Rows j (r ∷ rs) = (golay (2 ^ j) ≡ r) × Rows (suc j) rs

zero_of : (d j : ℕ) → j ≡ 12 → d * 2 ^ j < 4096 → d ≡ 0
zero_of d j e h = let k : d * 4096 < 4096 = subst (λ (n : ℕ). d * 2 ^ n < 4096) e h in omega arith

golay_0 : golay 0 ≡ 0
unfolding golay rem reduce ones_in
golay_0 = refl

comb_is : (rs : List ℕ) (j d : ℕ) → Rows j rs → d * 2 ^ j < 4096 → golay (d * 2 ^ j) ≡ comb rs d
unfolding comb
comb_is [] j d w h = ap (λ (n : ℕ). golay (n * 2 ^ j)) (zero_of d j w h) ∙ ap golay (zero_times j) ∙ golay_0
  where
    zero_times : (j : ℕ) → 0 * 2 ^ j ≡ 0
    zero_times j = omega arith
comb_is (r ∷ rs) j d w h =
    ⊎_elim
    (λ z. ap golay (sym (even d j z)) ∙ comb_is rs (suc j) (d / 2) w.1 (rw (even d j z) h) ∙ sym (comb_0 r rs d z))
    (λ z.
    let lo : 2 ^ j < 4096 = omega (arith, odd_sum d j z) in
    let hi : d / 2 * 2 ^ suc j < 4096 = omega (arith, odd_sum d j z) in
    ap golay (odd d j z) ∙ golay-xor (2 ^ j) (d / 2 * 2 ^ suc j) lo hi
    ∙ ap₂ bit_xor w.0 (comb_is rs (suc j) (d / 2) w.1 hi) ∙ sym (comb_1 r rs d z))
    (bit_cases (d % 2) (mod-lt d (lit< tt)))

rows_are : Rows 0 rows
unfolding rows golay rem reduce ones_in
rows_are = (refl, (refl, (refl, (refl, (refl, (refl, (refl, (refl, (refl, (refl, (refl, (refl, refl))))))))))))

abbrev either : Bool → Bool → Bool
either true b = true
either false b = b

heavy : ℕ → Bool
heavy w = either (eqb w 0) (leb 8 (ones_in 24 w))

tree : List ℕ → ℕ → Bool
tree [] a = heavy a
tree (r ∷ rs) a = both (tree rs a) (tree rs (bit_xor a r))

all_heavy : T (tree rows 0)
unfolding rows tree heavy ones_in
all_heavy = tt

tree_at : (rs : List ℕ) (a d : ℕ) → T (tree rs a) → T (heavy (bit_xor a (comb rs d)))
unfolding tree comb
tree_at [] a d t = subst (λ (w : ℕ). T (heavy w)) (sym (xor_zero_r a)) t
tree_at (r ∷ rs) a d t =
    ⊎_elim
    (λ z. subst (λ (w : ℕ). T (heavy (bit_xor a w))) (sym (comb_0 r rs d z)) (tree_at rs a (d / 2) (both_left (tree rs a) (tree rs (bit_xor a r)) t)))
    (λ z.
    subst (λ (w : ℕ). T (heavy w)) (xor_assoc a r (comb rs (d / 2)) ∙ ap (bit_xor a) (sym (comb_1 r rs d z)))
    (tree_at rs (bit_xor a r) (d / 2) (both_right (tree rs a) (tree rs (bit_xor a r)) t)))
    (bit_cases (d % 2) (mod-lt d (lit< tt)))

heavy_at : (w : ℕ) → (w ≡ 0 → ⊥) → T (heavy w) → 8 ≤ ones_in 24 w
unfolding heavy
heavy_at w n t = go (eqb w 0) refl t
  where
    go : (b : Bool) → eqb w 0 ≡ b → T (either b (leb 8 (ones_in 24 w))) → 8 ≤ ones_in 24 w
    go true e u = absurd (n (eqb→eq w 0 (subst T (sym e) tt)))
    go false e u = leb→le 8 (ones_in 24 w) u

heavy_word : (d : ℕ) → d < 4096 → T (heavy (golay d))
heavy_word d h =
    subst (λ (w : ℕ). T (heavy w)) (sym (ap golay (sym (mul-one d)) ∙ comb_is rows 0 d rows_are (subst (λ (n : ℕ). n < 4096) (sym (mul-one d)) h)))
    (tree_at rows 0 d all_heavy)

pub eight_apart : (d e : ℕ) → d < 4096 → e < 4096 → (d ≡ e → ⊥) → 8 ≤ apart (golay d) (golay e)
eight_apart d e hd he n =
    let x : bit_xor d e < 4096 = xor_lt 12 d e hd he in
    subst (λ (w : ℕ). 8 ≤ ones_in 24 w) (golay-xor d e hd he)
    (heavy_at (golay (bit_xor d e))
    (λ z. n (sym (xor_back d e) ∙ ap (λ (m : ℕ). bit_xor m e) (sym (golay_data (bit_xor d e) x) ∙ ap (λ (m : ℕ). m / 4096) z)))
    (heavy_word (bit_xor d e) x))

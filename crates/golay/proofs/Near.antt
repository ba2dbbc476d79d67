-- From what the search found, or did not find, to the reading: the only codeword within three flips, or none. Assumes nothing.
use mathlib.Core.Path.{◌≡◌, refl, sym, ap, ◌∙◌, subst}
use mathlib.Core.Bool.{Bool, true, false, cond}
use mathlib.Core.Logic.{⊎_elim}
use Prim.Native.Nat.{ℕ, zero, suc, ◌+◌, ◌/◌, ◌^◌, ◌≤◌, ◌<◌}
use native.Mathlib.Nat.{mul-one, one-mul}
use native.Mathlib.Decide.{ℕ_discrete}
use native.Mathlib.Omega.{arith}
use lib.Dec.{T, leb, leb→le, lit<, lit≤}
use lib.Pow.{shl_exact, pow-lt}
use lib.Arith.{lt_of_le-ne}
use lib.Bits.{bit_xor, xor_comm, xor_self, xor_zero_r, xor_lt}
use lib.Count.{ones_in}
use borrow.Author.Tests.{eqb-true, eq-eqb, lt-leb, leb-true, leb-false}
use Rattle.laws.proofs.Every.{every_at}
use Rattle.laws.proofs.Xor.{xor_assoc, xor_swap, xor_back, ones_xor}
use Rattle.std.specs.Prelude.{Result, Ok, Err}
use Rattle.refusal.specs.declared.Refusal.{Refusal}
use Rattle.refusal.specs.declared.Refusal.TheVariants.{BadGolay}
use Rattle.golay.specs.Golay.{golay, apart, is_word, near_below}
use Rattle.golay.proofs.Clear.{flip, Clear1}
use Rattle.golay.proofs.Linear.{golay_data, golay-lt}
use Rattle.golay.proofs.Flips.{Flips, flips}
use Rattle.golay.proofs.Least.{eight_apart}

-- ---- one flip

pub flip_is : (a i : ℕ) → i < 24 → flip a i ≡ bit_xor a (2 ^ i)
flip_is a i h = ap (bit_xor a) (shl_exact 1 i 32 (lit< tt) (omega arith) ∙ one-mul (2 ^ i))

pub flip-lt : (a i : ℕ) → a < 2 ^ 24 → i < 24 → flip a i < 2 ^ 24
flip-lt a i ha h = subst (λ (n : ℕ). n < 2 ^ 24) (sym (flip_is a i h)) (xor_lt 24 a (2 ^ i) ha (pow-lt h))

one_bit : (i : ℕ) → i < 24 → ones_in 24 (2 ^ i) ≤ 1
unfolding ones_in
one_bit i h = leb→le (ones_in 24 (2 ^ i)) 1 (every_at (λ j. leb (ones_in 24 (2 ^ j)) 1) 24 i h tt)

pub apart_self : (w : ℕ) → apart w w ≡ 0
unfolding ones_in
apart_self w = ap (ones_in 24) (xor_self w)

pub flip-apart : (a i w n : ℕ) → i < 24 → apart a w ≤ n → apart (flip a i) w ≤ n + 1
flip-apart a i w n h l =
    let e : bit_xor (flip a i) w ≡ bit_xor (bit_xor a w) (2 ^ i) =
    ap (λ (x : ℕ). bit_xor x w) (flip_is a i h) ∙ xor_assoc a (2 ^ i) w ∙ ap (bit_xor a) (xor_comm (2 ^ i) w) ∙ sym (xor_assoc a w (2 ^ i)) in
    rw e (omega (arith, ones_xor 24 (bit_xor a w) (2 ^ i), one_bit i h))

-- ---- the words

pub is_word_lem : (x : ℕ) → is_word x ≡ true → golay (x / 4096) ≡ x
unfolding is_word
is_word_lem x e = eqb-true (golay (x / 4096)) x e

word_is : (d : ℕ) → d < 4096 → is_word (golay d) ≡ true
unfolding is_word
word_is d h = eq-eqb (golay (golay d / 4096)) (golay d) (ap golay (golay_data d h))

-- ---- at most one word is near

apart_both : (x y w : ℕ) → apart x y ≤ apart x w + apart y w
apart_both x y w =
    let e : bit_xor x y ≡ bit_xor (bit_xor x w) (bit_xor y w) = sym (xor_swap x w y w ∙ ap (bit_xor (bit_xor x y)) (xor_self w) ∙ xor_zero_r (bit_xor x y)) in
    rw e (ones_xor 24 (bit_xor x w) (bit_xor y w))

pub only_one : (d e w : ℕ) → d < 4096 → e < 4096 → apart (golay d) w ≤ 3 → apart (golay e) w ≤ 3 → d ≡ e
only_one d e w hd he ld le = go (ℕ_discrete d e)
  where
    go : Dec (d ≡ e) → d ≡ e
    go (yes p) = p
    go (no n) = absurd (omega (arith, eight_apart d e hd he n, apart_both (golay d) (golay e) w))

-- ---- not found

stop : (x a f : ℕ) → x ≡ bit_xor a f → f ≡ 0 → is_word x ≡ true → is_word a ≡ false → ⊥
stop x a f p z e c =
    let q : is_word a ≡ true = ap is_word (sym (p ∙ ap (bit_xor a) z ∙ xor_zero_r a)) ∙ e in
    let t : true ≡ false = sym q ∙ c in
    subst T t tt

step : (x a f i g : ℕ) → x ≡ bit_xor a f → f ≡ bit_xor (2 ^ i) g → i < 24 → x ≡ bit_xor (flip a i) g
step x a f i g p q h = p ∙ ap (bit_xor a) q ∙ sym (xor_assoc a (2 ^ i) g) ∙ ap (λ (n : ℕ). bit_xor n g) (sym (flip_is a i h))

pub no_word : (w x : ℕ) → w < 2 ^ 24 → x < 2 ^ 24 → is_word x ≡ true → is_word w ≡ false → Clear1 w 24 → apart x w ≤ 3 → ⊥
no_word w x hw hx e cw c1 l =
    ⊎_elim (λ z. stop x w f p z e cw)
    (λ q1.
    let i = q1.0 in
    let a = flip w i in
    let pa : x ≡ bit_xor a q1.1 = step x w f i q1.1 p q1.4 q1.3 in
    let ci = c1 i q1.3 in
    ⊎_elim (λ z. stop x a q1.1 pa z e ci.0)
    (λ q2.
    let j = q2.0 in
    let b = flip a j in
    let pb : x ≡ bit_xor b q2.1 = step x a q1.1 j q2.1 pa q2.4 q2.3 in
    let cj = ci.1 j q2.3 q2.2 in
    ⊎_elim (λ z. stop x b q2.1 pb z e cj.0)
    (λ q3.
    let k = q3.0 in
    stop x (flip b k) q3.1 (step x b q2.1 k q3.1 pb q3.4 q3.3) q3.5 e (cj.1 k q3.3 q3.2))
    q2.5)
    q1.5)
    all
  where
    f : ℕ
    f = bit_xor w x

    p : x ≡ bit_xor w (bit_xor w x)
    p = sym (xor_comm w (bit_xor w x) ∙ ap (λ (n : ℕ). bit_xor n w) (xor_comm w x) ∙ xor_back x w)

    all : Flips 24 0 3 (bit_xor w x)
    all = subst (Flips 24 0 3) (mul-one (bit_xor w x)) (flips 24 0 3 (bit_xor w x) (xor_lt 24 w x hw hx) (rw (xor_comm w x) l))

-- ---- the reading

-- a word that is near is the one that is found
pub near_found : (n w d : ℕ) → n ≤ 4096 → d < n → apart (golay d) w ≤ 3 → near_below n w ≡ Ok d
unfolding near_below
near_found zero w d m h l = absurd (omega arith)
near_found (suc n) w d m h l = go (leb (apart (golay n) w) 3) refl (λ k. near_found n w d (omega arith) k l)
  where
    go : (t : Bool) → leb (apart (golay n) w) 3 ≡ t → (d < n → near_below n w ≡ Ok d) → cond (leb (apart (golay n) w) 3) (Ok n) (near_below n w) ≡ Ok d
    go true e r =
        ap (λ (t : Bool). cond t (Ok n) (near_below n w)) e
        ∙ ap {B = Result ℕ Refusal} (λ (x : ℕ). Ok x) (only_one n d w (omega arith) (omega arith) (leb-true (apart (golay n) w) 3 e) l)
    go false e r =
        let other : (d ≡ n → ⊥) = λ p. let q : apart (golay n) w ≤ 3 = subst (λ (x : ℕ). apart (golay x) w ≤ 3) p l in omega (arith, leb-false (apart (golay n) w) 3 e) in
        ap (λ (t : Bool). cond t (Ok n) (near_below n w)) e ∙ r (lt_of_le-ne (omega arith) other)

-- and where none is near, none is found
pub near_none : (n w : ℕ) → ((d : ℕ) → d < n → apart (golay d) w ≤ 3 → ⊥) → near_below n w ≡ Err BadGolay
unfolding near_below
near_none zero w f = refl
near_none (suc n) w f =
    let far : 3 < apart (golay n) w = leb-false (apart (golay n) w) 3 (no (leb (apart (golay n) w) 3) refl) in
    ap (λ (t : Bool). cond t (Ok n) (near_below n w)) (lt-leb (apart (golay n) w) 3 far) ∙ near_none n w (λ d h l. f d (omega arith) l)
  where
    no : (t : Bool) → leb (apart (golay n) w) 3 ≡ t → leb (apart (golay n) w) 3 ≡ false
    no true e = absurd (f n (omega arith) (leb-true (apart (golay n) w) 3 e))
    no false e = e

pub found_read : (w x : ℕ) → x < 2 ^ 24 → is_word x ≡ true → apart x w ≤ 3 → near_below 4096 w ≡ Ok (x / 4096)
found_read w x h e l =
    let near : apart (golay (x / 4096)) w ≤ 3 = rw (is_word_lem x e) l in
    near_found 4096 w (x / 4096) (lit≤ tt) (omega arith) near

pub none_read : (w : ℕ) → w < 2 ^ 24 → is_word w ≡ false → Clear1 w 24 → near_below 4096 w ≡ Err BadGolay
none_read w hw cw c1 = near_none 4096 w (λ d hd ld. no_word w (golay d) hw (golay-lt d hd) (word_is d hd) cw c1 ld)

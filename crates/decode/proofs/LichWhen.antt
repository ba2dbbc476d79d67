-- When a LICH is answered, and when it is refused: each of its four words is within three flips of a codeword, or one is not. Assumes nothing.
use mathlib.Core.Path.{◌≡◌, refl, sym, ap, ◌∙◌, subst}
use mathlib.Core.Logic.{inl, inr}
use mathlib.Core.List.{List, [], ◌∷◌}
use Prim.Native.Nat.{ℕ, zero, suc, ◌+◌, ◌*◌, ◌^◌, ◌<◌}
use native.Mathlib.Decide.{ℕ_discrete}
use native.Mathlib.Omega.{arith}
use lib.ListN.{length}
use Rattle.std.specs.Prelude.{Result, Ok, Err}
use Rattle.laws.specs.Value.{Bytes}
use Rattle.refusal.specs.Number.{said_of}
use Rattle.refusal.specs.declared.Refusal.{Refusal}
use Rattle.refusal.specs.declared.Refusal.TheVariants.{WrongLength, BadGolay}
use Rattle.golay.specs.Golay.{decoded_of as golayReadOf}
use Rattle.golay.proofs.Only.{reads, three_flips}
use Rattle.decode.specs.When.{OneOf, Words, Lost, LichWhen}
use Rattle.decode.specs.declared.LichPart.{LichPart}
use Rattle.decode.specs.Lich.{lich_from, word_at, lich_read_of}
use Rattle.decode.proofs.ByLength.{lich_short, first_refused, second_refused, third_refused, fourth_refused, all_read}
use Rattle.decode.proofs.LichBack.{word_lt}

module _ (s : List ℕ) where
  module _ (bytes : Bytes s) (long : length s ≡ 12) where
    lost : (j : ℕ) (why : Refusal) → j < 4 → golayReadOf (word_at s j) ≡ Err why → Lost s
    lost j why h e =
        record {
          place = j;
          within = h;
          none = λ d b c. let r = three_flips (word_at s j) d (word_lt s j long bytes h) b c in let z : ◌≡◌ {A = ℕ} 0 1 = cc in omega arith;
        }

    words : (x y z w : ℕ) → golayReadOf (word_at s 0) ≡ Ok x → golayReadOf (word_at s 1) ≡ Ok y → golayReadOf (word_at s 2) ≡ Ok z
        → golayReadOf (word_at s 3) ≡ Ok w → Words s (x * 2 ^ 36 + y * 2 ^ 24 + z * 2 ^ 12 + w)
    words x y z w ex ey ez ew =
        record {
          value = at;
          small = λ j h. ((reads (word_at s j) (word_lt s j long bytes h)).answered (at j) (is j h)).0;
          close = λ j h. ((reads (word_at s j) (word_lt s j long bytes h)).answered (at j) (is j h)).1;
          joined = refl;
        }
      where
        at : ℕ → ℕ
        at zero = x
        at (suc zero) = y
        at (suc (suc zero)) = z
        at (suc (suc (suc j))) = w

        is : (j : ℕ) → j < 4 → golayReadOf (word_at s j) ≡ Ok (at j)
        is zero h = ex
        is (suc zero) h = ey
        is (suc (suc zero)) h = ez
        is (suc (suc (suc zero))) h = ew
        is (suc (suc (suc (suc j)))) h = absurd (omega arith)

    -- twelve bytes: the four words are read, or one of them is lost
    pub read_or_lost : (P : Result LichPart Refusal → Type 0) → ((v : ℕ) → Words s v → P (Ok (lich_from v))) → (Lost s → P (Err BadGolay)) → P (lich_read_of s)
    read_or_lost P good bad = first (golayReadOf (word_at s 0)) refl
      where
        fourth : (x y z : ℕ) → golayReadOf (word_at s 0) ≡ Ok x → golayReadOf (word_at s 1) ≡ Ok y → golayReadOf (word_at s 2) ≡ Ok z
            → (r : Result ℕ Refusal) → golayReadOf (word_at s 3) ≡ r → P (lich_read_of s)
        fourth x y z ex ey ez (Ok w) e = subst P (sym (all_read s long x ex y ey z ez w e)) (good _ (words x y z w ex ey ez e))
        fourth x y z ex ey ez (Err why) e = subst P (sym (fourth_refused s long x ex y ey z ez why e)) (bad (lost 3 why (omega arith) e))

        third : (x y : ℕ) → golayReadOf (word_at s 0) ≡ Ok x → golayReadOf (word_at s 1) ≡ Ok y → (r : Result ℕ Refusal) → golayReadOf (word_at s 2) ≡ r → P (lich_read_of s)
        third x y ex ey (Ok z) e = fourth x y z ex ey e (golayReadOf (word_at s 3)) refl
        third x y ex ey (Err why) e = subst P (sym (third_refused s long x ex y ey why e)) (bad (lost 2 why (omega arith) e))

        second : (x : ℕ) → golayReadOf (word_at s 0) ≡ Ok x → (r : Result ℕ Refusal) → golayReadOf (word_at s 1) ≡ r → P (lich_read_of s)
        second x ex (Ok y) e = third x y ex e (golayReadOf (word_at s 2)) refl
        second x ex (Err why) e = subst P (sym (second_refused s long x ex why e)) (bad (lost 1 why (omega arith) e))

        first : (r : Result ℕ Refusal) → golayReadOf (word_at s 0) ≡ r → P (lich_read_of s)
        first (Ok x) e = second x e (golayReadOf (word_at s 1)) refl
        first (Err why) e = subst P (sym (first_refused s long why e)) (bad (lost 0 why (omega arith) e))

    -- four words that are near are answered
    pub lich_read : (v : ℕ) → Words s v → lich_read_of s ≡ Ok (lich_from v)
    lich_read v a =
        let is : (j : ℕ) → j < 4 → golayReadOf (word_at s j) ≡ Ok (a.value j) =
        λ j h. three_flips (word_at s j) (a.value j) (word_lt s j long bytes h) (a.small j h) (a.close j h) in
        all_read s long (a.value 0) (is 0 (omega arith)) (a.value 1) (is 1 (omega arith)) (a.value 2) (is 2 (omega arith)) (a.value 3) (is 3 (omega arith))
        ∙ ap {B = Result LichPart Refusal} (λ (n : ℕ). Ok (lich_from n)) a.joined

    -- and 4 where one is not
    pub lich_lost : Lost s → lich_read_of s ≡ Err BadGolay
    lich_lost a =
        read_or_lost (λ r. r ≡ Err BadGolay) (λ v g. absurd (a.none (g.value a.place) (g.small a.place a.within) (g.close a.place a.within)))
        (λ b. refl)

    pub lich_lost_only : said_of (lich_read_of s) ≡ 4 → Lost s
    lich_lost_only = read_or_lost (λ r. said_of r ≡ 4 → Lost s) (λ v g e. absurd (omega arith)) (λ b e. b)

module _ (s : List ℕ) (bytes : Bytes s) where
  lich_cases : (P : Result LichPart Refusal → Type 0) → ((length s ≡ 12 → ⊥) → P (Err WrongLength)) → (length s ≡ 12 → (v : ℕ) → Words s v → P (Ok (lich_from v)))
      → (length s ≡ 12 → Lost s → P (Err BadGolay)) → P (lich_read_of s)
  lich_cases P short near lost = elim (ℕ_discrete (length s) 12) [
    | yes l ↦ read_or_lost s bytes l P (near l) (lost l)
    | no n ↦ rw (lich_short s n) (short n)
  ]

  pub lich_when : LichWhen s
  lich_when =
      record {
        answered =
            lich_cases (λ r. said_of r ≡ 0 → (v : ℕ) × (length s ≡ 12) × Words s v × (r ≡ Ok (lich_from v))) (λ n e. absurd (omega arith))
            (λ l v w e. (v, l, w, refl)) (λ l b e. absurd (omega arith));
        near = λ v l w. lich_read s bytes l v w;
        refused =
            lich_cases (λ r. said_of r ≡ 4 → (length s ≡ 12) × Lost s) (λ n e. absurd (omega arith)) (λ l v w e. absurd (omega arith))
            (λ l b e. (l, b));
        lost = λ l b. lich_lost s bytes l b;
        wrong = lich_cases (λ r. said_of r ≡ 1 → length s ≡ 12 → ⊥) (λ n e. n) (λ l v w e. absurd (omega arith)) (λ l b e. absurd (omega arith));
        short = lich_short s;
        only =
            lich_cases (λ r. OneOf (said_of r) (0 ∷ 1 ∷ 4 ∷ [])) (λ n. inr (inl refl)) (λ l v w. inl refl)
            (λ l b. inr (inr (inl refl)));
      }

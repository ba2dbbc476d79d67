-- A LICH that is written reads back, with up to three flips in each of its four words. Assumes nothing.
use mathlib.Core.Path.{◌≡◌, refl, sym, ap, ap₂, ◌∙◌, subst}
use mathlib.Core.List.{List, [], ◌∷◌, ◌++◌}
use Prim.Native.Nat.{ℕ, zero, suc, ◌+◌, ◌*◌, ◌/◌, ◌%◌, ◌^◌, ◌≤◌, ◌<◌}
use native.Mathlib.Omega.{arith}
use lib.Pow.{recompose, mod-pow-add}
use lib.ListN.{length, take, length-append}
use lib.Seq.{take_at}
use Rattle.laws.specs.Value.{value_of, in_bytes, Bytes}
use Rattle.laws.proofs.Number.{value_lt, bytes_of_value, value_of_bytes, value_append}
use Rattle.std.specs.Prelude.{Result, Ok}
use Rattle.refusal.specs.declared.Refusal.{Refusal}
use Rattle.golay.specs.Golay.{golay, apart, decoded_of}
use Rattle.golay.proofs.Linear.{golay-lt}
use Rattle.golay.proofs.Near.{apart_self}
use Rattle.golay.proofs.Only.{three_flips}
use Rattle.encode.specs.Lich.{lich_value, golay_bytes, lich_words, lich_bytes}
use Rattle.decode.specs.declared.LichPart.{LichPart}
use Rattle.decode.specs.Lich.{lich_from, word_at, lich_read_of}
use Rattle.decode.proofs.Words.{value_three}
use Rattle.laws.proofs.Bytes.{bytes_in_bytes, bytes_append, bytes_one}
use Rattle.decode.proofs.ByLength.{all_read}

-- value j of the four
abbrev twelve : ℕ → ℕ → ℕ
twelve v zero = v / 2 ^ 36 % 4096
twelve v (suc zero) = v / 2 ^ 24 % 4096
twelve v (suc (suc zero)) = v / 2 ^ 12 % 4096
twelve v (suc (suc (suc j))) = v % 4096

twelve-lt : (v j : ℕ) → twelve v j < 4096
twelve-lt v zero = omega arith
twelve-lt v (suc zero) = omega arith
twelve-lt v (suc (suc zero)) = omega arith
twelve-lt v (suc (suc (suc j))) = omega arith

golay_bytes_lem : (d : ℕ) → d < 4096 → Bytes (golay_bytes d)
golay_bytes_lem d h = bytes_in_bytes 3 (golay d) (golay-lt d h)

-- ---- the twelve bytes and their words

pub length_lich : (v : ℕ) → length (lich_words v) ≡ 12
unfolding lich_words in_bytes
length_lich v = refl

pub lich_bytes_lem : (v : ℕ) → Bytes (lich_words v)
unfolding lich_words
lich_bytes_lem v =
    let a = golay_bytes_lem (twelve v 0) (twelve-lt v 0) in
    let b = golay_bytes_lem (twelve v 1) (twelve-lt v 1) in
    let c = golay_bytes_lem (twelve v 2) (twelve-lt v 2) in
    let d = golay_bytes_lem (twelve v 3) (twelve-lt v 3) in
    let w : ℕ → List ℕ = λ j. golay_bytes (twelve v j) in
    bytes_append (w 0 ++ w 1 ++ w 2) (w 3) (bytes_append (w 0 ++ w 1) (w 2) (bytes_append (w 0) (w 1) a b) c) d

word_is : (v j : ℕ) → j < 4 → word_at (lich_words v) j ≡ golay (twelve v j)
unfolding lich_words in_bytes
word_is v zero h = value_of_bytes 3 (golay (twelve v 0)) (golay-lt (twelve v 0) (twelve-lt v 0))
word_is v (suc zero) h = value_of_bytes 3 (golay (twelve v 1)) (golay-lt (twelve v 1) (twelve-lt v 1))
word_is v (suc (suc zero)) h = value_of_bytes 3 (golay (twelve v 2)) (golay-lt (twelve v 2) (twelve-lt v 2))
word_is v (suc (suc (suc zero))) h = value_of_bytes 3 (golay (twelve v 3)) (golay-lt (twelve v 3) (twelve-lt v 3))
word_is v (suc (suc (suc (suc j)))) h = absurd (omega arith)

pub word_lt : (s : List ℕ) (j : ℕ) → length s ≡ 12 → Bytes s → j < 4 → word_at s j < 2 ^ 24
word_lt s j long bytes h =
    omega (arith, value_three s (3 * j) (omega arith), bytes (3 * j), bytes (3 * j + 1), bytes (3 * j + 2))

-- ---- the four values make the number again

sum_of : (a b c d v p q : ℕ) → a + p ≡ v → p ≡ b + q → q ≡ c + d → a + b + c + d ≡ v
sum_of a b c d v p q e f g = omega arith

joined : (v : ℕ) → v < 2 ^ 48 → twelve v 0 * 2 ^ 36 + twelve v 1 * 2 ^ 24 + twelve v 2 * 2 ^ 12 + twelve v 3 ≡ v
joined v h = sum_of (twelve v 0 * 2 ^ 36) (twelve v 1 * 2 ^ 24) (twelve v 2 * 2 ^ 12) (twelve v 3) v (v % 2 ^ 36) (v % 2 ^ 24) (recompose 12 36 h) (mod-pow-add v 12 24) (mod-pow-add v 12 12)

counter_of : (v p c : ℕ) → v ≡ p * 256 + c * 32 → c < 8 → v % 256 / 32 ≡ c
counter_of v p c e h = omega arith

module _ (counter : ℕ) (part : List ℕ) (long : length part ≡ 5) (bytes : Bytes part) (small : counter < 8) where
  six : List ℕ
  six = part ++ (counter * 32 ∷ [])

  length-six : length six ≡ 6
  unfolding six
  length-six = length-append part (counter * 32 ∷ []) ∙ ap (λ (n : ℕ). n + 1) long

  six_bytes : Bytes six
  unfolding six
  six_bytes = bytes_append part (counter * 32 ∷ []) bytes (bytes_one (counter * 32) (omega arith))

  value_small : value_of six < 2 ^ 48
  value_small = subst (λ (n : ℕ). value_of six < 256 ^ n) length-six (value_lt six six_bytes)

  from_value : lich_from (value_of six) ≡ record { counter = counter; part = part }
  unfolding six value_of
  from_value =
      ap₂ {C = LichPart} (λ (c : ℕ) (p : List ℕ). record { counter = c; part = p })
      (counter_of (value_of six) (value_of part) counter (value_append part (counter * 32 ∷ []) ∙ omega arith) small)
      (ap (take 5) (ap (λ (n : ℕ). in_bytes n (value_of six)) (sym length-six) ∙ bytes_of_value six six_bytes) ∙ take_at part (counter * 32 ∷ []) 5 long)

  -- up to three flips in each word leave the reading as it was
  pub lich_flips : (s : List ℕ) → length s ≡ 12 → Bytes s → ((j : ℕ) → j < 4 → apart (word_at (lich_bytes counter part) j) (word_at s j) ≤ 3)
      → lich_read_of s ≡ Ok (record { counter = counter; part = part })
  unfolding six
  lich_flips s twelve-long are near =
      let v = lich_value counter part in
      let read : (j : ℕ) → j < 4 → decoded_of (word_at s j) ≡ Ok (twelve v j) =
      λ j h.
      three_flips (word_at s j) (twelve v j) (word_lt s j twelve-long are h) (twelve-lt v j)
      (subst (λ (w : ℕ). apart w (word_at s j) ≤ 3) (word_is v j h) (near j h)) in
      all_read s twelve-long (twelve v 0) (read 0 (omega arith)) (twelve v 1) (read 1 (omega arith)) (twelve v 2) (read 2 (omega arith)) (twelve v 3) (read 3 (omega arith))
      ∙ ap {B = Result LichPart Refusal} Ok (ap lich_from (joined v value_small) ∙ from_value)

  -- what is written reads back
  pub lich_back : lich_read_of (lich_bytes counter part) ≡ Ok (record { counter = counter; part = part })
  lich_back =
      lich_flips (lich_bytes counter part) (length_lich (lich_value counter part)) (lich_bytes_lem (lich_value counter part))
      (λ j h. omega (arith, apart_self (word_at (lich_bytes counter part) j)))

-- `golay::nearest` meets its contract: it leaves at a codeword within three flips, or has passed them all. Assumes nothing.
use mathlib.Core.Path.{sym, ◌∙◌}
use Prim.Native.Nat.{ℕ, ◌^◌, ◌<◌, ◌≤◌}
use native.Mathlib.Omega.{arith}
use native.Mathlib.Nat.{le_trans, le_of_eq}
use lib.Dec.{lit≤}
use Rattle.golay.specs.Golay.{apart}
use Rattle.golay.proofs.Clear.{flip, Clear1}
use Rattle.golay.proofs.Near.{flip-lt, flip-apart, apart_self, found_read, none_read}
use Rattle.golay.proofs.nearest.Goals as goal

-- one, two and three flips of w: a word of 24 bits, and how far it is off
module _ (w : ℕ) (small : w < 2 ^ 24) (i : ℕ) (hi : i < 24) where
  one-lt : flip w i < 2 ^ 24
  one-lt = flip-lt w i small hi

  one : apart (flip w i) w ≤ 1
  one = flip-apart w i w 0 hi (le_of_eq (apart_self w))

  module _ (j : ℕ) (hj : j < 24) where
    two-lt : flip (flip w i) j < 2 ^ 24
    two-lt = flip-lt (flip w i) j one-lt hj

    two : apart (flip (flip w i) j) w ≤ 2
    two = flip-apart (flip w i) j w 1 hj one

    module _ (k : ℕ) (hk : k < 24) where
      three-lt : flip (flip (flip w i) j) k < 2 ^ 24
      three-lt = flip-lt (flip (flip w i) j) k two-lt hk

      three : apart (flip (flip (flip w i) j) k) w ≤ 3
      three = flip-apart (flip (flip w i) j) k w 2 hk two

pub returns-then-search : goal.returns-then-search
returns-then-search c =
    let w = c.args.word in
    (c.requires, found_read w w c.requires (sym c.is_word.ensures ∙ c.if-search.true) (le_trans (le_of_eq (apart_self w)) (lit≤ tt)))

pub is_word-requires-in-loop-i : goal.is_word-requires-in-loop-i
is_word-requires-in-loop-i c = one-lt c.args.word c.requires c.loop-i.i (omega arith)

pub returns-then-is_word : goal.returns-then-is_word
returns-then-is_word c =
    let w = c.args.word in
    let i = c.loop-i.i in
    let h : i < 24 = omega arith in
    let l = one-lt w c.requires i h in
    (l, found_read w (flip w i) l (sym c.is_word-in-loop-i.ensures ∙ c.if-is_word.true) (le_trans (one w c.requires i h) (lit≤ tt)))

pub is_word-requires-in-loop-j : goal.is_word-requires-in-loop-j
is_word-requires-in-loop-j c = two-lt c.args.word c.requires c.loop-i.i (omega arith) c.loop-j.j (omega arith)

pub returns-then-is_word-2 : goal.returns-then-is_word-2
returns-then-is_word-2 c =
    let w = c.args.word in
    let i = c.loop-i.i in
    let j = c.loop-j.j in
    let hi : i < 24 = omega arith in
    let hj : j < 24 = omega arith in
    let l = two-lt w c.requires i hi j hj in
    (l, found_read w (flip (flip w i) j) l (sym c.is_word-in-loop-j.ensures ∙ c.if-is_word-2.true) (le_trans (two w c.requires i hi j hj) (lit≤ tt)))

pub is_word-requires-in-loop-k : goal.is_word-requires-in-loop-k
is_word-requires-in-loop-k c = three-lt c.args.word c.requires c.loop-i.i (omega arith) c.loop-j.j (omega arith) c.loop-k.k (omega arith)

pub returns-then-is_word-3 : goal.returns-then-is_word-3
returns-then-is_word-3 c =
    let w = c.args.word in
    let i = c.loop-i.i in
    let j = c.loop-j.j in
    let k = c.loop-k.k in
    let hi : i < 24 = omega arith in
    let hj : j < 24 = omega arith in
    let hk : k < 24 = omega arith in
    let l = three-lt w c.requires i hi j hj k hk in
    (l, found_read w (flip (flip (flip w i) j) k) l (sym c.is_word-in-loop-k.ensures ∙ c.if-is_word-3.true) (three w c.requires i hi j hj k hk))

pub returns-after-loop-i : goal.returns-after-loop-i
returns-after-loop-i c =
    let w = c.args.word in
    let all : Clear1 w 24 = λ i h. c.loop-i.invariant i (omega arith) in
    none_read w c.requires (sym c.is_word.ensures ∙ c.if-search.false) all

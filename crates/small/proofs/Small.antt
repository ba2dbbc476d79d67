-- Small cases: for n of 1 to 3 and each puncturing, what reading finds for many received words, computed from the definition over all
-- words. Each number is 16 times the distance of the nearest word, and the number that the answer's n bits spell. The received words start
-- at 0 and go up by `by`, cut to their length. `docs/small-nearest.txt` has the same answers as text, in the same order. Assumes nothing.
use mathlib.Core.Bool.{Bool, true}
use mathlib.Core.List.{List, [], ◌∷◌}
use Prim.Native.Nat.{ℕ, zero, suc, ◌+◌, ◌*◌, ◌/◌, ◌%◌, ◌^◌}
use lib.Dec.{T, eqb}
use lib.ListN.{take}
use Rattle.laws.proofs.Every.{both}
use Rattle.bits.specs.Bits.{odd, bit}
use Rattle.fec.specs.declared.Puncture.{Puncture}
use Rattle.fec.specs.declared.Puncture.TheVariants.{One, Two, Three}
use Rattle.fec.specs.Code.{sends, coded, code}
use Rattle.fec.specs.Nearest.{differ, distance, nearer, best, nearest}
use Rattle.fec.specs.Search.{sofar}

-- the m lowest bits of x, the top one first
spelled : ℕ → ℕ → List Bool
spelled zero x = []
spelled (suc m) x = odd (x / 2 ^ m) ∷ spelled m x

-- the number that bits spell after those of x
number : ℕ → List Bool → ℕ
number x [] = x
number x (b ∷ l) = number (2 * x + bit b) l

module _ (p : Puncture) (n by : ℕ) where
  -- how many bits are received
  long : ℕ
  long = sofar (sends p) (n + 4)

  answer : List Bool → List Bool → ℕ
  answer rx w = 16 * distance (sends p) rx w + number 0 (take n w)

  -- the answers from the received word x on
  right : ℕ → List ℕ → Bool
  right x [] = true
  right x (y ∷ l) = both (eqb (answer (spelled long x) (nearest (sends p) n (spelled long x))) y) (right ((x + by) % 2 ^ long) l)

first_one : T (right One 1 1 0 (
    0 ∷ 16 ∷ 16 ∷ 0 ∷ 16 ∷ 0 ∷ 0 ∷ 16 ∷ 16 ∷ 32 ∷ 32 ∷ 16 ∷ 32 ∷ 16 ∷ 16 ∷ 32 ∷ 16 ∷ 32 ∷ 32 ∷ 16 ∷ 32 ∷ 16 ∷ 16 ∷ 32 ∷ 0 ∷ 16 ∷ 16 ∷
    0 ∷ 16 ∷ 0 ∷ 0 ∷ 16 ∷ 16 ∷ 32 ∷ 32 ∷ 16 ∷ 32 ∷ 16 ∷ 16 ∷ 32 ∷ 0 ∷ 16 ∷ 16 ∷ 0 ∷ 16 ∷ 0 ∷ 0 ∷ 16 ∷ 0 ∷ 16 ∷ 16 ∷ 0 ∷ 16 ∷ 0 ∷ 0 ∷
    16 ∷ 16 ∷ 32 ∷ 32 ∷ 16 ∷ 32 ∷ 16 ∷ 16 ∷ 32 ∷ 16 ∷ 32 ∷ 32 ∷ 16 ∷ 32 ∷ 17 ∷ 17 ∷ 33 ∷ 32 ∷ 48 ∷ 48 ∷ 33 ∷ 48 ∷ 33 ∷ 32 ∷ 49 ∷ 32 ∷
    48 ∷ 48 ∷ 32 ∷ 48 ∷ 33 ∷ 33 ∷ 49 ∷ 17 ∷ 32 ∷ 33 ∷ 17 ∷ 32 ∷ 16 ∷ 16 ∷ 32 ∷ 32 ∷ 48 ∷ 48 ∷ 33 ∷ 48 ∷ 33 ∷ 32 ∷ 49 ∷ 17 ∷ 33 ∷ 33 ∷
    17 ∷ 32 ∷ 16 ∷ 16 ∷ 33 ∷ 16 ∷ 32 ∷ 33 ∷ 16 ∷ 33 ∷ 17 ∷ 17 ∷ 33 ∷ 33 ∷ 49 ∷ 49 ∷ 33 ∷ 48 ∷ 32 ∷ 32 ∷ 49 ∷ 16 ∷ 32 ∷ 32 ∷ 16 ∷ 32 ∷
    17 ∷ 17 ∷ 33 ∷ 32 ∷ 48 ∷ 48 ∷ 33 ∷ 48 ∷ 33 ∷ 32 ∷ 49 ∷ 32 ∷ 48 ∷ 48 ∷ 32 ∷ 48 ∷ 33 ∷ 33 ∷ 49 ∷ 17 ∷ 32 ∷ 33 ∷ 17 ∷ 32 ∷ 16 ∷ 16 ∷
    32 ∷ 32 ∷ 48 ∷ 48 ∷ 33 ∷ 48 ∷ 33 ∷ 32 ∷ 49 ∷ 17 ∷ 33 ∷ 33 ∷ 17 ∷ 32 ∷ 16 ∷ 16 ∷ 33 ∷ 16 ∷ 32 ∷ 33 ∷ 16 ∷ 33 ∷ 17 ∷ 17 ∷ 33 ∷ 33 ∷
    49 ∷ 49 ∷ 33 ∷ 48 ∷ 32 ∷ 32 ∷ 49 ∷ 1 ∷ 17 ∷ 17 ∷ 1 ∷ 17 ∷ 1 ∷ 1 ∷ 17 ∷ 17 ∷ 33 ∷ 33 ∷ 17 ∷ 33 ∷ 17 ∷ 17 ∷ 33 ∷ 17 ∷ 33 ∷ 33 ∷
    17 ∷ 33 ∷ 17 ∷ 17 ∷ 33 ∷ 1 ∷ 17 ∷ 17 ∷ 1 ∷ 17 ∷ 1 ∷ 1 ∷ 17 ∷ 17 ∷ 33 ∷ 33 ∷ 17 ∷ 33 ∷ 17 ∷ 17 ∷ 33 ∷ 1 ∷ 17 ∷ 17 ∷ 1 ∷ 17 ∷ 1 ∷
    1 ∷ 17 ∷ 1 ∷ 17 ∷ 17 ∷ 1 ∷ 17 ∷ 1 ∷ 1 ∷ 17 ∷ 17 ∷ 33 ∷ 33 ∷ 17 ∷ 33 ∷ 17 ∷ 17 ∷ 33 ∷ []))
unfolding spelled number long answer right sofar sends coded code differ distance nearer best nearest
first_one = tt

first_two : T (right One 2 9 0 (
    0 ∷ 16 ∷ 32 ∷ 16 ∷ 32 ∷ 16 ∷ 0 ∷ 16 ∷ 32 ∷ 1 ∷ 1 ∷ 17 ∷ 1 ∷ 33 ∷ 32 ∷ 16 ∷ 32 ∷ 51 ∷ 48 ∷ 35 ∷ 35 ∷ 16 ∷ 34 ∷ 51 ∷ 33 ∷ 17 ∷ 18 ∷
    51 ∷ 34 ∷ 32 ∷ 35 ∷ 32 ∷ 32 ∷ 51 ∷ 32 ∷ 16 ∷ 50 ∷ 33 ∷ 18 ∷ 33 ∷ 34 ∷ 35 ∷ 32 ∷ 19 ∷ 3 ∷ 35 ∷ 34 ∷ 18 ∷ 3 ∷ 19 ∷ 34 ∷ 19 ∷ 18 ∷
    2 ∷ 2 ∷ 18 ∷ 34 ∷ 0 ∷ 0 ∷ 32 ∷ 16 ∷ 33 ∷ 32 ∷ 0 ∷ []))
unfolding spelled number long answer right sofar sends coded code differ distance nearer best nearest
first_two = tt

first_three : T (right One 3 65 0 (
    0 ∷ 18 ∷ 19 ∷ 1 ∷ 18 ∷ 18 ∷ 19 ∷ 18 ∷ 32 ∷ 55 ∷ 54 ∷ 33 ∷ 54 ∷ 36 ∷ 37 ∷ 55 ∷ 32 ∷ 54 ∷ 54 ∷ 33 ∷ 50 ∷ 36 ∷ 37 ∷ 55 ∷ 22 ∷ 23 ∷
    23 ∷ 23 ∷ 22 ∷ 4 ∷ 5 ∷ 23 ∷ []))
unfolding spelled number long answer right sofar sends coded code differ distance nearer best nearest
first_three = tt

second_one : T (right Two 1 9 0 (
    0 ∷ 16 ∷ 32 ∷ 16 ∷ 32 ∷ 16 ∷ 0 ∷ 16 ∷ 32 ∷ 32 ∷ 32 ∷ 16 ∷ 32 ∷ 16 ∷ 32 ∷ 32 ∷ 32 ∷ 32 ∷ 32 ∷ 32 ∷ 32 ∷ 32 ∷ 16 ∷ 32 ∷ 0 ∷ 16 ∷
    16 ∷ 16 ∷ 32 ∷ 32 ∷ 16 ∷ 48 ∷ 32 ∷ 48 ∷ 32 ∷ 16 ∷ 48 ∷ 32 ∷ 17 ∷ 33 ∷ 33 ∷ 48 ∷ 49 ∷ 17 ∷ 33 ∷ 33 ∷ 33 ∷ 48 ∷ 33 ∷ 33 ∷ 48 ∷ 32 ∷
    32 ∷ 32 ∷ 32 ∷ 32 ∷ 33 ∷ 32 ∷ 32 ∷ 32 ∷ 48 ∷ 32 ∷ 33 ∷ 32 ∷ 32 ∷ 49 ∷ 33 ∷ 17 ∷ 33 ∷ 17 ∷ 33 ∷ 49 ∷ 33 ∷ 49 ∷ 49 ∷ 32 ∷ 49 ∷ 17 ∷
    33 ∷ 48 ∷ 32 ∷ 32 ∷ 32 ∷ 32 ∷ 48 ∷ 32 ∷ 33 ∷ 33 ∷ 17 ∷ 33 ∷ 33 ∷ 33 ∷ 33 ∷ 17 ∷ 17 ∷ 17 ∷ 1 ∷ 17 ∷ 33 ∷ 17 ∷ 17 ∷ 1 ∷ 17 ∷ 33 ∷
    17 ∷ 17 ∷ 17 ∷ 17 ∷ 33 ∷ 17 ∷ 33 ∷ 33 ∷ 33 ∷ 33 ∷ 16 ∷ 16 ∷ 32 ∷ 16 ∷ 16 ∷ 32 ∷ 0 ∷ 32 ∷ 32 ∷ 32 ∷ 32 ∷ 32 ∷ 16 ∷ 32 ∷ []))
unfolding spelled number long answer right sofar sends coded code differ distance nearer best nearest
second_one = tt

second_two : T (right Two 2 33 0 (
    0 ∷ 16 ∷ 32 ∷ 16 ∷ 32 ∷ 33 ∷ 17 ∷ 32 ∷ 32 ∷ 33 ∷ 33 ∷ 16 ∷ 17 ∷ 1 ∷ 17 ∷ 33 ∷ 32 ∷ 32 ∷ 48 ∷ 32 ∷ 50 ∷ 34 ∷ 34 ∷ 32 ∷ 35 ∷ 51 ∷
    33 ∷ 35 ∷ 33 ∷ 33 ∷ 33 ∷ 49 ∷ 32 ∷ 34 ∷ 32 ∷ 50 ∷ 34 ∷ 34 ∷ 34 ∷ 19 ∷ 51 ∷ 51 ∷ 19 ∷ 33 ∷ 17 ∷ 33 ∷ 49 ∷ 35 ∷ 18 ∷ 34 ∷ 35 ∷ 34 ∷
    18 ∷ 18 ∷ 18 ∷ 19 ∷ 35 ∷ 35 ∷ 19 ∷ 19 ∷ 34 ∷ 18 ∷ 35 ∷ 16 ∷ []))
unfolding spelled number long answer right sofar sends coded code differ distance nearer best nearest
second_two = tt

second_three : T (right Two 3 257 0 (
    0 ∷ 32 ∷ 32 ∷ 35 ∷ 32 ∷ 32 ∷ 35 ∷ 3 ∷ 32 ∷ 48 ∷ 48 ∷ 37 ∷ 38 ∷ 54 ∷ 54 ∷ 35 ∷ 32 ∷ 48 ∷ 52 ∷ 37 ∷ 38 ∷ 55 ∷ 54 ∷ 35 ∷ 37 ∷ 37 ∷
    37 ∷ 5 ∷ 6 ∷ 37 ∷ 38 ∷ 37 ∷ []))
unfolding spelled number long answer right sofar sends coded code differ distance nearer best nearest
second_three = tt

third_one : T (right Three 1 5 0 (
    0 ∷ 0 ∷ 16 ∷ 16 ∷ 16 ∷ 0 ∷ 16 ∷ 16 ∷ 32 ∷ 32 ∷ 32 ∷ 32 ∷ 16 ∷ 32 ∷ 16 ∷ 32 ∷ 16 ∷ 16 ∷ 16 ∷ 16 ∷ 16 ∷ 0 ∷ 16 ∷ 0 ∷ 16 ∷ 16 ∷ 32 ∷
    32 ∷ 32 ∷ 32 ∷ 33 ∷ 32 ∷ 32 ∷ 32 ∷ 17 ∷ 17 ∷ 33 ∷ 32 ∷ 33 ∷ 17 ∷ 33 ∷ 33 ∷ 33 ∷ 33 ∷ 17 ∷ 32 ∷ 32 ∷ 32 ∷ 16 ∷ 16 ∷ 32 ∷ 32 ∷ 32 ∷
    32 ∷ 32 ∷ 33 ∷ 32 ∷ 32 ∷ 33 ∷ 33 ∷ 17 ∷ 33 ∷ 17 ∷ 33 ∷ 17 ∷ 17 ∷ 32 ∷ 32 ∷ 33 ∷ 17 ∷ 33 ∷ 32 ∷ 32 ∷ 32 ∷ 32 ∷ 32 ∷ 33 ∷ 33 ∷ 17 ∷
    33 ∷ 17 ∷ 17 ∷ 17 ∷ 17 ∷ 17 ∷ 1 ∷ 17 ∷ 1 ∷ 17 ∷ 17 ∷ 17 ∷ 17 ∷ 17 ∷ 17 ∷ 17 ∷ 17 ∷ 17 ∷ 17 ∷ 17 ∷ 17 ∷ 33 ∷ 17 ∷ 33 ∷ 0 ∷ 16 ∷
    16 ∷ 16 ∷ 16 ∷ 0 ∷ 32 ∷ 16 ∷ 32 ∷ 16 ∷ 16 ∷ 16 ∷ 16 ∷ 32 ∷ 16 ∷ 32 ∷ 16 ∷ 32 ∷ 32 ∷ 16 ∷ 16 ∷ 0 ∷ 16 ∷ 0 ∷ 16 ∷ []))
unfolding spelled number long answer right sofar sends coded code differ distance nearer best nearest
third_one = tt

third_two : T (right Three 2 33 0 (
    0 ∷ 32 ∷ 32 ∷ 16 ∷ 32 ∷ 17 ∷ 32 ∷ 32 ∷ 32 ∷ 33 ∷ 33 ∷ 16 ∷ 33 ∷ 17 ∷ 1 ∷ 33 ∷ 32 ∷ 34 ∷ 50 ∷ 16 ∷ 34 ∷ 34 ∷ 34 ∷ 34 ∷ 35 ∷ 35 ∷
    35 ∷ 35 ∷ 50 ∷ 17 ∷ 33 ∷ 35 ∷ 32 ∷ 34 ∷ 32 ∷ 32 ∷ 18 ∷ 34 ∷ 32 ∷ 35 ∷ 33 ∷ 35 ∷ 19 ∷ 33 ∷ 33 ∷ 17 ∷ 33 ∷ 19 ∷ 34 ∷ 35 ∷ 19 ∷ 34 ∷
    18 ∷ 18 ∷ 34 ∷ 3 ∷ 35 ∷ 19 ∷ 19 ∷ 35 ∷ 18 ∷ 34 ∷ 35 ∷ 16 ∷ []))
unfolding spelled number long answer right sofar sends coded code differ distance nearer best nearest
third_two = tt

third_three : T (right Three 3 257 0 (
    0 ∷ 32 ∷ 32 ∷ 35 ∷ 32 ∷ 35 ∷ 35 ∷ 19 ∷ 32 ∷ 53 ∷ 54 ∷ 21 ∷ 38 ∷ 48 ∷ 54 ∷ 19 ∷ 32 ∷ 55 ∷ 52 ∷ 37 ∷ 38 ∷ 55 ∷ 50 ∷ 35 ∷ 54 ∷ 55 ∷
    36 ∷ 21 ∷ 22 ∷ 39 ∷ 36 ∷ 39 ∷ []))
unfolding spelled number long answer right sofar sends coded code differ distance nearer best nearest
third_three = tt

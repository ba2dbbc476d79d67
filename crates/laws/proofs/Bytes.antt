-- Lists of bytes: joined, cut, zeros, those of a number and of a table. Assumes nothing.
use mathlib.Core.List.{List, [], ◌∷◌, ◌++◌}
use Prim.Native.Nat.{ℕ, zero, suc, ◌+◌, ◌%◌, ◌^◌, ◌<◌}
use native.Mathlib.Nat.{mod-lt, mul_comm, one-le-pow, pow-suc, div-lt_iff_lt-mul}
use native.Mathlib.Omega.{arith}
use lib.Dec.{lit<}
use lib.ListN.{take, drop, replicate}
use lib.Seq.{get_or-drop}
use Rattle.laws.specs.Tabled.{values_from, tabled}
use Rattle.laws.specs.Value.{in_bytes, Bytes}

pub bytes_one : (x : ℕ) → x < 256 → Bytes (x ∷ [])
bytes_one x h zero = h
bytes_one x h (suc k) = lit< tt

pub bytes_append : (s t : List ℕ) → Bytes s → Bytes t → Bytes (s ++ t)
bytes_append [] t hs ht k = ht k
bytes_append (x ∷ s) t hs ht zero = hs 0
bytes_append (x ∷ s) t hs ht (suc k) = bytes_append s t (λ j. hs (suc j)) ht k

pub bytes_take : (n : ℕ) (s : List ℕ) → Bytes s → Bytes (take n s)
bytes_take zero s h k = lit< tt
bytes_take (suc n) [] h k = lit< tt
bytes_take (suc n) (x ∷ s) h zero = h 0
bytes_take (suc n) (x ∷ s) h (suc k) = bytes_take n s (λ j. h (suc j)) k

pub bytes_drop : (n : ℕ) (s : List ℕ) → Bytes s → Bytes (drop n s)
bytes_drop n s h k = rw (get_or-drop n s k 0) (h (n + k))

pub bytes_zeros : (n : ℕ) → Bytes (replicate n 0)
bytes_zeros zero k = lit< tt
bytes_zeros (suc n) zero = lit< tt
bytes_zeros (suc n) (suc k) = bytes_zeros n k

pub bytes_in_bytes : (n v : ℕ) → v < 256 ^ n → Bytes (in_bytes n v)
unfolding in_bytes
bytes_in_bytes zero v h k = lit< tt
bytes_in_bytes (suc n) v h zero =
    (div-lt_iff_lt-mul (one-le-pow n 256 (lit< tt))).1 (omega (arith, h, pow-suc 256 n, mul_comm (256 ^ n) 256))
bytes_in_bytes (suc n) v h (suc k) = bytes_in_bytes n (v % 256 ^ n) (mod-lt v (one-le-pow n 256 (lit< tt))) k

bytes_from_lem : (f : ℕ → ℕ) → ((k : ℕ) → f k < 256) → (i n : ℕ) → Bytes (values_from f i n)
unfolding values_from
bytes_from_lem f h i zero k = lit< tt
bytes_from_lem f h i (suc n) zero = h i
bytes_from_lem f h i (suc n) (suc k) = bytes_from_lem f h (suc i) n k

pub bytes_tabled : (f : ℕ → ℕ) (n : ℕ) → ((k : ℕ) → f k < 256) → Bytes (tabled f n)
bytes_tabled f n h = bytes_from_lem f h 0 n

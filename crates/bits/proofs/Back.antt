-- Bytes to bits and back, whole bytes of a list of bits, and what stands at each place. Assumes nothing.
use mathlib.Core.Path.{◌≡◌, refl, sym, ap, ap₂, ◌∙◌}
use mathlib.Core.Bool.{Bool, true, false}
use mathlib.Core.List.{List, [], ◌∷◌, ◌++◌}
use Prim.Native.Nat.{ℕ, zero, suc, ◌+◌, ◌-◌, ◌*◌, ◌/◌, ◌%◌, ◌^◌, ◌<◌, ◌≤◌}
use native.Mathlib.Nat.{zero-div}
use native.Mathlib.Omega.{arith}
use lib.Dec.{eqb, eqb→eq}
use lib.ListN.{length, get_or, take, drop, replicate}
use lib.Seq.{drop-drop, ext_get_or, get_or-drop}
use Rattle.laws.specs.Tabled.{tabled}
use Rattle.laws.specs.Value.{Bytes}
use Rattle.laws.proofs.Every.{every_at}
use Rattle.laws.proofs.Values.{tabled_only}
use Rattle.laws.proofs.Padded.{padded_at}
use Rattle.bits.specs.Bits.{odd, bit, eight, bits_of, byte_of, bytes_of}

-- ---- a bit as a number

pub bit-lt : (b : Bool) → bit b < 2
bit-lt true = omega arith
bit-lt false = omega arith

pub bit-odd : (x : ℕ) → bit (odd x) ≡ x % 2
bit-odd x = go (x % 2) (omega arith)
  where
    go : (r : ℕ) → r < 2 → bit (eqb r 1) ≡ r
    go zero h = refl
    go (suc zero) h = refl
    go (suc (suc r)) h = absurd (omega arith)

pub odd-bit : (x : ℕ) (b : Bool) → x % 2 ≡ bit b → odd x ≡ b
odd-bit x true e = ap (λ (m : ℕ). eqb m 1) e
odd-bit x false e = ap (λ (m : ℕ). eqb m 1) e

-- ---- how many

pub length_bits : (s : List ℕ) → length (bits_of s) ≡ 8 * length s
unfolding bits_of
length_bits [] = refl
length_bits (x ∷ s) = omega (arith, length_bits s)

pub length_bytes : (n : ℕ) (l : List Bool) → length (bytes_of n l) ≡ n
unfolding bytes_of
length_bytes zero l = refl
length_bytes (suc n) l = ap suc (length_bytes n (drop 8 l))

-- ---- from bytes to bits and back

byte_test : ℕ → Bool
byte_test x = eqb (byte_of (eight x)) x

pub byte_eight : (x : ℕ) → x < 256 → byte_of (eight x) ≡ x
unfolding byte_test
byte_eight x h = eqb→eq (byte_of (eight x)) x (every_at byte_test 256 x h tt)

pub bytes_bits : (s : List ℕ) → Bytes s → bytes_of (length s) (bits_of s) ≡ s
unfolding bytes_of bits_of
bytes_bits [] h = refl
bytes_bits (x ∷ s) h = ap₂ {C = List ℕ} (λ (a : ℕ) (l : List ℕ). a ∷ l) (byte_eight x (h 0)) (bytes_bits s (λ k. h (suc k)))

module _ (a b c d e f g h : Bool) where
  whole : ℕ
  whole = 128 * bit a + 64 * bit b + 32 * bit c + 16 * bit d + 8 * bit e + 4 * bit f + 2 * bit g + bit h

  eight_byte : eight (byte_of (a ∷ b ∷ c ∷ d ∷ e ∷ f ∷ g ∷ h ∷ [])) ≡ a ∷ b ∷ c ∷ d ∷ e ∷ f ∷ g ∷ h ∷ []
  unfolding whole
  eight_byte =
      let ha = bit-lt a in let hb = bit-lt b in let hc = bit-lt c in let hd = bit-lt d in
      let he = bit-lt e in let hf = bit-lt f in let hg = bit-lt g in let hh = bit-lt h in
      let qa : odd (whole / 128) ≡ a = odd-bit (whole / 128) a (omega arith) in
      let qb : odd (whole / 64) ≡ b = odd-bit (whole / 64) b (omega arith) in
      let qc : odd (whole / 32) ≡ c = odd-bit (whole / 32) c (omega arith) in
      let qd : odd (whole / 16) ≡ d = odd-bit (whole / 16) d (omega arith) in
      let qe : odd (whole / 8) ≡ e = odd-bit (whole / 8) e (omega arith) in
      let qf : odd (whole / 4) ≡ f = odd-bit (whole / 4) f (omega arith) in
      let qg : odd (whole / 2) ≡ g = odd-bit (whole / 2) g (omega arith) in
      let qh : odd whole ≡ h = odd-bit whole h (omega arith) in
      λ i. qa i ∷ qb i ∷ qc i ∷ qd i ∷ qe i ∷ qf i ∷ qg i ∷ qh i ∷ []

pub bits_bytes : (n : ℕ) (l : List Bool) → length l ≡ 8 * n → bits_of (bytes_of n l) ≡ l
unfolding bytes_of bits_of
bits_bytes zero [] k = refl
bits_bytes zero (a ∷ l) k = absurd (omega arith)
bits_bytes (suc n) [] k = absurd (omega arith)
bits_bytes (suc n) (a ∷ []) k = absurd (omega arith)
bits_bytes (suc n) (a ∷ b ∷ []) k = absurd (omega arith)
bits_bytes (suc n) (a ∷ b ∷ c ∷ []) k = absurd (omega arith)
bits_bytes (suc n) (a ∷ b ∷ c ∷ d ∷ []) k = absurd (omega arith)
bits_bytes (suc n) (a ∷ b ∷ c ∷ d ∷ e ∷ []) k = absurd (omega arith)
bits_bytes (suc n) (a ∷ b ∷ c ∷ d ∷ e ∷ f ∷ []) k = absurd (omega arith)
bits_bytes (suc n) (a ∷ b ∷ c ∷ d ∷ e ∷ f ∷ g ∷ []) k = absurd (omega arith)
bits_bytes (suc n) (a ∷ b ∷ c ∷ d ∷ e ∷ f ∷ g ∷ h ∷ l) k =
    ap₂ {C = List Bool} (λ (x y : List Bool). x ++ y) (eight_byte a b c d e f g h) (bits_bytes n l (omega arith))

-- ---- each place

pub next_byte : (i : ℕ) → suc (suc (suc (suc (suc (suc (suc (suc i))))))) / 8 ≡ suc (i / 8)
next_byte i = omega arith

pub next_bit : (i : ℕ) → suc (suc (suc (suc (suc (suc (suc (suc i))))))) % 8 ≡ i % 8
next_bit i = omega arith

-- bit i is bit i % 8 of byte i / 8, the top one first
pub bit_at : (s : List ℕ) (i : ℕ) → get_or (bits_of s) i false ≡ odd (get_or s (i / 8) 0 / 2 ^ (7 - i % 8))
unfolding bits_of
bit_at [] i = sym (ap odd (zero-div (2 ^ (7 - i % 8))))
bit_at (x ∷ s) zero = refl
bit_at (x ∷ s) (suc zero) = refl
bit_at (x ∷ s) (suc (suc zero)) = refl
bit_at (x ∷ s) (suc (suc (suc zero))) = refl
bit_at (x ∷ s) (suc (suc (suc (suc zero)))) = refl
bit_at (x ∷ s) (suc (suc (suc (suc (suc zero))))) = refl
bit_at (x ∷ s) (suc (suc (suc (suc (suc (suc zero)))))) = refl
bit_at (x ∷ s) (suc (suc (suc (suc (suc (suc (suc zero))))))) = let e : x ≡ x / 1 = omega arith in ap odd e
bit_at (x ∷ s) (suc (suc (suc (suc (suc (suc (suc (suc i)))))))) =
    bit_at s i ∙ sym (ap₂ (λ (a b : ℕ). odd (get_or (x ∷ s) a 0 / 2 ^ (7 - b))) (next_byte i) (next_bit i))

-- byte i is made of the bits from 8 i on
pub byte_at : (n : ℕ) (l : List Bool) (i : ℕ) → i < n → get_or (bytes_of n l) i 0 ≡ byte_of (drop (8 * i) l)
unfolding bytes_of
byte_at zero l i h = absurd (omega arith)
byte_at (suc n) l zero h = refl
byte_at (suc n) l (suc i) h =
    let e : 8 + 8 * i ≡ 8 * suc i = omega arith in
    byte_at n (drop 8 l) i (omega arith) ∙ ap byte_of (drop-drop (8 * i) 8 l ∙ ap (λ (m : ℕ). drop m l) e)

-- so a loop that packs a byte a turn makes them
pub bytes_tabled : (n : ℕ) (l : List Bool) → bytes_of n l ≡ tabled (λ k. byte_of (drop (8 * k) l)) n
bytes_tabled n l = tabled_only (λ k. byte_of (drop (8 * k) l)) n (bytes_of n l) 0 (length_bytes n l) (λ k h. byte_at n l k h)

-- n bytes are made of the first 8 n bits, a missing bit being 0
pub bytes_alike : (n : ℕ) (l m : List Bool) → ((k : ℕ) → k < 8 * n → get_or l k false ≡ get_or m k false) → bytes_of n l ≡ bytes_of n m
bytes_alike n l m same =
    ext_get_or 0 (bytes_of n l) (bytes_of n m) (length_bytes n l ∙ sym (length_bytes n m))
    (λ i h.
    let b : i < n = omega (arith, length_bytes n l) in
    byte_at n l i b ∙ one i b ∙ sym (byte_at n m i b))
  where
    one : (i : ℕ) → i < n → byte_of (drop (8 * i) l) ≡ byte_of (drop (8 * i) m)
    one i b =
        let at : (c : ℕ) → c < 8 → bit (get_or (drop (8 * i) l) c false) ≡ bit (get_or (drop (8 * i) m) c false) =
        λ c q. ap bit (get_or-drop (8 * i) l c false ∙ same (8 * i + c) (omega arith) ∙ sym (get_or-drop (8 * i) m c false)) in
        omega (arith, at 0 (omega arith), at 1 (omega arith), at 2 (omega arith), at 3 (omega arith), at 4 (omega arith), at 5 (omega arith), at 6 (omega arith), at 7 (omega arith))

-- the first bytes of more
pub take_bytes : (n m : ℕ) (l : List Bool) → n ≤ m → take n (bytes_of m l) ≡ bytes_of n l
unfolding bytes_of
take_bytes zero m l h = refl
take_bytes (suc n) zero l h = absurd (omega arith)
take_bytes (suc n) (suc m) l h = ap (λ (s : List ℕ). byte_of l ∷ s) (take_bytes n m (drop 8 l) (omega arith))

byte_lt : (l : List Bool) → byte_of l < 256
byte_lt l =
    omega (
      arith,
      bit-lt (get_or l 0 false),
      bit-lt (get_or l 1 false),
      bit-lt (get_or l 2 false),
      bit-lt (get_or l 3 false),
      bit-lt (get_or l 4 false),
      bit-lt (get_or l 5 false),
      bit-lt (get_or l 6 false),
      bit-lt (get_or l 7 false),
    )

-- what is packed is bytes
pub bytes_are : (n : ℕ) (l : List Bool) → Bytes (bytes_of n l)
unfolding bytes_of
bytes_are zero l k = omega arith
bytes_are (suc n) l zero = byte_lt l
bytes_are (suc n) l (suc k) = bytes_are n (drop 8 l) k

-- ---- whole bytes

pub bits_append : (s t : List ℕ) → bits_of (s ++ t) ≡ bits_of s ++ bits_of t
unfolding bits_of
bits_append [] t = refl
bits_append (x ∷ s) t = ap (λ (l : List Bool). eight x ++ l) (bits_append s t)

-- 8 n, so that it computes on n
abbrev octuple : ℕ → ℕ
octuple zero = 0
octuple (suc n) = suc (suc (suc (suc (suc (suc (suc (suc (octuple n))))))))

octuple_is : (n : ℕ) → octuple n ≡ 8 * n
octuple_is zero = refl
octuple_is (suc n) = omega (arith, octuple_is n)

drop-octuple : (n : ℕ) (s : List ℕ) → drop (octuple n) (bits_of s) ≡ bits_of (drop n s)
unfolding bits_of
drop-octuple zero s = refl
drop-octuple (suc n) [] = refl
drop-octuple (suc n) (x ∷ s) = drop-octuple n s

pub drop_bits : (n : ℕ) (s : List ℕ) → drop (8 * n) (bits_of s) ≡ bits_of (drop n s)
drop_bits n s = ap (λ (m : ℕ). drop m (bits_of s)) (sym (octuple_is n)) ∙ drop-octuple n s

-- ---- fewer bits than the bytes hold

-- bytes of zeros past the end add no bit that is set
pub padded_bit : (s : List ℕ) (n k : ℕ) → get_or (bits_of (s ++ replicate n 0)) k false ≡ get_or (bits_of s) k false
padded_bit s n k =
    bit_at (s ++ replicate n 0) k ∙ ap (λ (x : ℕ). odd (x / 2 ^ (7 - k % 8))) (padded_at 0 s n (k / 8)) ∙ sym (bit_at s k)

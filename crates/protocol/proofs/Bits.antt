-- A number's bits at a place: put and read again, what else is kept, and two places that are apart. Assumes nothing.
use mathlib.Core.Path.{◌≡◌, sym, ap, ap₂, ◌∙◌, subst}
use mathlib.Core.Logic.{◌⊎◌, ⊎_elim}
use Prim.Native.Nat.{ℕ, ◌+◌, ◌-◌, ◌*◌, ◌/◌, ◌%◌, ◌^◌, ◌<◌, ◌≤◌}
use native.Mathlib.Nat.{add-mul, mul_assoc, mod-lt}
use native.Mathlib.Omega.{arith}
use lib.Arith.{digits_lt}
use lib.Pow.{pow_pos, pow-add, shr-shr, shr_lt, split, high, low, mod-pow-add, mod-mod-pow}
use lib.Pow as pow
use Rattle.protocol.specs.Fields.{Place, bits_at, with_bits}

abbrev place : ℕ → ℕ → Place
place l w = record { low = l; width = w }

times_pow : (x i j : ℕ) → x * 2 ^ (i + j) ≡ x * 2 ^ i * 2 ^ j
times_pow x i j = ap (λ (y : ℕ). x * y) (pow-add 2 i j) ∙ sym (mul_assoc x (2 ^ i) (2 ^ j))

times_pow' : (x i j : ℕ) → x * 2 ^ (j + i) ≡ x * 2 ^ i * 2 ^ j
times_pow' x i j = let e : j + i ≡ i + j = omega arith in ap (λ (y : ℕ). x * 2 ^ y) e ∙ times_pow x i j

-- ---- a place in the upper or in the lower part of a number, split at bit k

read_high : (k l w n : ℕ) → bits_at (place (k + l) w) n ≡ bits_at (place l w) (n / 2 ^ k)
unfolding bits_at
read_high k l w n = ap (λ (m : ℕ). m % 2 ^ w) (sym (shr-shr n k l))

put_high : (k l w v n : ℕ) → with_bits (place (k + l) w) v n ≡ with_bits (place l w) v (n / 2 ^ k) * 2 ^ k + n % 2 ^ k
unfolding with_bits
put_high k l w v n =
    let q = n / 2 ^ k / 2 ^ (l + w) in
    let e : k + l + w ≡ k + (l + w) = omega arith in
    let c : k + l ≡ l + k = omega arith in
    let above : n / 2 ^ (k + l + w) * 2 ^ (k + l + w) ≡ q * 2 ^ (l + w) * 2 ^ k =
    ap (λ (j : ℕ). n / 2 ^ j * 2 ^ j) e ∙ ap (λ (m : ℕ). m * 2 ^ (k + (l + w))) (sym (shr-shr n k (l + w))) ∙ times_pow' q (l + w) k in
    let at : v * 2 ^ (k + l) ≡ v * 2 ^ l * 2 ^ k = times_pow' v l k in
    let below : n % 2 ^ (k + l) ≡ (n / 2 ^ k % 2 ^ l) * 2 ^ k + n % 2 ^ k = ap (λ (j : ℕ). n % 2 ^ j) c ∙ mod-pow-add n l k in
    ap₂ (λ (a b : ℕ). a + b) (ap₂ (λ (a b : ℕ). a + b) above at) below
    ∙ regroup (q * 2 ^ (l + w)) (v * 2 ^ l) (n / 2 ^ k % 2 ^ l) (n % 2 ^ k) (2 ^ k)
  where
    regroup : (a b c d k : ℕ) → a * k + b * k + (c * k + d) ≡ (a + b + c) * k + d
    regroup a b c d k = omega (arith, add-mul (a + b) c k, add-mul a b k)

read_low : (k l w n : ℕ) → l + w ≤ k → bits_at (place l w) n ≡ bits_at (place l w) (n % 2 ^ k)
unfolding bits_at
read_low k l w n h =
    let m = k - (l + w) in
    let e : (m + w) + l ≡ k = omega arith in
    sym (ap (λ (j : ℕ). n % 2 ^ j / 2 ^ l % 2 ^ w) (sym e) ∙ ap (λ (x : ℕ). x % 2 ^ w) (pow.field n (m + w) l) ∙ mod-mod-pow (n / 2 ^ l) m w)

put_low : (k l w v n : ℕ) → l + w ≤ k → with_bits (place l w) v n ≡ n / 2 ^ k * 2 ^ k + with_bits (place l w) v (n % 2 ^ k)
unfolding with_bits
put_low k l w v n h =
    let m = k - (l + w) in
    let e : m + (l + w) ≡ k = omega arith in
    let f : (w + m) + l ≡ k = omega arith in
    let c : (l + w) + m ≡ k = omega arith in
    let upper : n / 2 ^ (l + w) / 2 ^ m ≡ n / 2 ^ k = shr-shr n (l + w) m ∙ ap (λ (j : ℕ). n / 2 ^ j) c in
    let lower : n / 2 ^ (l + w) % 2 ^ m ≡ n % 2 ^ k / 2 ^ (l + w) = sym (ap (λ (j : ℕ). n % 2 ^ j / 2 ^ (l + w)) (sym e) ∙ pow.field n m (l + w)) in
    let whole : n / 2 ^ (l + w) ≡ n / 2 ^ k * 2 ^ m + n % 2 ^ k / 2 ^ (l + w) =
    sym (split (n / 2 ^ (l + w)) m) ∙ ap₂ (λ (a b : ℕ). a * 2 ^ m + b) upper lower in
    let times : n / 2 ^ k * 2 ^ m * 2 ^ (l + w) ≡ n / 2 ^ k * 2 ^ k =
    sym (times_pow (n / 2 ^ k) m (l + w)) ∙ ap (λ (j : ℕ). n / 2 ^ k * 2 ^ j) e in
    let above : n / 2 ^ (l + w) * 2 ^ (l + w) ≡ n / 2 ^ k * 2 ^ k + n % 2 ^ k / 2 ^ (l + w) * 2 ^ (l + w) =
    ap (λ (x : ℕ). x * 2 ^ (l + w)) whole ∙ add-mul (n / 2 ^ k * 2 ^ m) (n % 2 ^ k / 2 ^ (l + w)) (2 ^ (l + w))
    ∙ ap (λ (x : ℕ). x + n % 2 ^ k / 2 ^ (l + w) * 2 ^ (l + w)) times in
    let below : n % 2 ^ l ≡ n % 2 ^ k % 2 ^ l = sym (ap (λ (j : ℕ). n % 2 ^ j % 2 ^ l) (sym f) ∙ mod-mod-pow n (w + m) l) in
    ap₂ (λ (a b : ℕ). a + v * 2 ^ l + b) above below
    ∙ regroup (n / 2 ^ k * 2 ^ k) (n % 2 ^ k / 2 ^ (l + w) * 2 ^ (l + w)) (v * 2 ^ l) (n % 2 ^ k % 2 ^ l)
  where
    regroup : (a b c d : ℕ) → a + b + c + d ≡ a + (b + c + d)
    regroup a b c d = omega arith

-- ---- a place within a place, counted from the latter's lowest bit

-- what is put stands above the lower bits, and below the upper ones
joined : (l w v n : ℕ) → with_bits (place l w) v n ≡ (n / 2 ^ l / 2 ^ w * 2 ^ w + v) * 2 ^ l + n % 2 ^ l
unfolding with_bits
joined l w v n =
    let above : n / 2 ^ (l + w) * 2 ^ (l + w) ≡ n / 2 ^ l / 2 ^ w * 2 ^ w * 2 ^ l =
    ap (λ (m : ℕ). m * 2 ^ (l + w)) (sym (shr-shr n l w)) ∙ times_pow' (n / 2 ^ l / 2 ^ w) w l in
    ap (λ (m : ℕ). m + v * 2 ^ l + n % 2 ^ l) above
    ∙ ap (λ (m : ℕ). m + n % 2 ^ l) (sym (add-mul (n / 2 ^ l / 2 ^ w * 2 ^ w) v (2 ^ l)))

pub read_within : (k j l w n : ℕ) → l + w ≤ j → bits_at (place (k + l) w) n ≡ bits_at (place l w) (bits_at (place k j) n)
unfolding bits_at
read_within k j l w n h = read_high k l w n ∙ read_low j l w (n / 2 ^ k) h

pub put_within : (k j l w v n : ℕ) → l + w ≤ j → with_bits (place (k + l) w) v n ≡ with_bits (place k j) (with_bits (place l w) v (bits_at (place k j) n)) n
unfolding bits_at
put_within k j l w v n h =
    put_high k l w v n ∙ ap (λ (x : ℕ). x * 2 ^ k + n % 2 ^ k) (put_low j l w v (n / 2 ^ k) h)
    ∙ sym (joined k j (with_bits (place l w) v (n / 2 ^ k % 2 ^ j)) n)

-- ---- what is put at a place

upper : (l w v n : ℕ) → with_bits (place l w) v n ≡ n / 2 ^ (l + w) * 2 ^ (l + w) + (v * 2 ^ l + n % 2 ^ l)
unfolding with_bits
upper l w v n = regroup (n / 2 ^ (l + w) * 2 ^ (l + w)) (v * 2 ^ l) (n % 2 ^ l)
  where
    regroup : (a b c : ℕ) → a + b + c ≡ a + (b + c)
    regroup a b c = omega arith

module _ (l w v n : ℕ) (fits : v < 2 ^ w) where
  low_lt : v * 2 ^ l + n % 2 ^ l < 2 ^ (l + w)
  low_lt =
      let c : w + l ≡ l + w = omega arith in
      subst (λ (m : ℕ). v * 2 ^ l + n % 2 ^ l < m) (sym (pow-add 2 w l) ∙ ap (λ (j : ℕ). 2 ^ j) c) (digits_lt fits (mod-lt n (pow_pos l)))

  -- the bits above it, those up to it, and those below it
  above : with_bits (place l w) v n / 2 ^ (l + w) ≡ n / 2 ^ (l + w)
  above = ap (λ (m : ℕ). m / 2 ^ (l + w)) (upper l w v n) ∙ high (n / 2 ^ (l + w)) (l + w) low_lt

  up_to : with_bits (place l w) v n % 2 ^ (l + w) ≡ v * 2 ^ l + n % 2 ^ l
  up_to = ap (λ (m : ℕ). m % 2 ^ (l + w)) (upper l w v n) ∙ low (n / 2 ^ (l + w)) (l + w) low_lt

  below : with_bits (place l w) v n % 2 ^ l ≡ n % 2 ^ l
  below = ap (λ (m : ℕ). m % 2 ^ l) (joined l w v n) ∙ low (n / 2 ^ l / 2 ^ w * 2 ^ w + v) l (mod-lt n (pow_pos l))

  -- it stands there
  pub put_there : bits_at (place l w) (with_bits (place l w) v n) ≡ v
  unfolding bits_at
  put_there =
      ap (λ (m : ℕ). m / 2 ^ l % 2 ^ w) (joined l w v n)
      ∙ ap (λ (m : ℕ). m % 2 ^ w) (high (n / 2 ^ l / 2 ^ w * 2 ^ w + v) l (mod-lt n (pow_pos l)))
      ∙ low (n / 2 ^ l / 2 ^ w) w fits

  -- any place above it, and any below, is kept
  kept_above : (j x : ℕ) → l + w ≤ j → bits_at (place j x) (with_bits (place l w) v n) ≡ bits_at (place j x) n
  kept_above j x h =
      let e : (l + w) + (j - (l + w)) ≡ j = omega arith in
      subst (λ (i : ℕ). bits_at (place i x) (with_bits (place l w) v n) ≡ bits_at (place i x) n) e
      (read_high (l + w) (j - (l + w)) x (with_bits (place l w) v n) ∙ ap (bits_at (place (j - (l + w)) x)) above
      ∙ sym (read_high (l + w) (j - (l + w)) x n))

  kept_below : (j x : ℕ) → j + x ≤ l → bits_at (place j x) (with_bits (place l w) v n) ≡ bits_at (place j x) n
  kept_below j x h = read_low l j x (with_bits (place l w) v n) h ∙ ap (bits_at (place j x)) below ∙ sym (read_low l j x n h)

  -- it is no longer than the number was
  pub put_lt : (k : ℕ) → l + w ≤ k → n < 2 ^ k → with_bits (place l w) v n < 2 ^ k
  put_lt k h b =
      let e : (k - (l + w)) + (l + w) ≡ k = omega arith in
      subst (λ (m : ℕ). m < 2 ^ k) (sym (upper l w v n))
      (subst (λ (m : ℕ). n / 2 ^ (l + w) * 2 ^ (l + w) + (v * 2 ^ l + n % 2 ^ l) < m) (sym (pow-add 2 (k - (l + w)) (l + w)) ∙ ap (λ (j : ℕ). 2 ^ j) e)
      (digits_lt (shr_lt (k - (l + w)) (l + w) (subst (λ (j : ℕ). n < 2 ^ j) (sym e) b)) low_lt))

  -- put again there, the last stays
  pub put_twice : (u : ℕ) → with_bits (place l w) u (with_bits (place l w) v n) ≡ with_bits (place l w) u n
  unfolding with_bits
  put_twice u = ap₂ (λ (a b : ℕ). a * 2 ^ (l + w) + u * 2 ^ l + b) above below

  -- a place above it may be put before or after
  swap_above : (j x u : ℕ) → l + w ≤ j
      → with_bits (place j x) u (with_bits (place l w) v n) ≡ with_bits (place l w) v (with_bits (place j x) u n)
  swap_above j x u h =
      let k = l + w in
      let i = j - k in
      let e : k + i ≡ j = omega arith in
      let n' = with_bits (place i x) u (n / 2 ^ k) in
      let m = with_bits (place (k + i) x) u n in
      let split-m : m ≡ n' * 2 ^ k + n % 2 ^ k = put_high k i x u n in
      let m-high : m / 2 ^ k ≡ n' = ap (λ (y : ℕ). y / 2 ^ k) split-m ∙ high n' k (mod-lt n (pow_pos k)) in
      let m-low : m % 2 ^ k ≡ n % 2 ^ k = ap (λ (y : ℕ). y % 2 ^ k) split-m ∙ low n' k (mod-lt n (pow_pos k)) in
      subst (λ (y : ℕ). with_bits (place y x) u (with_bits (place l w) v n) ≡ with_bits (place l w) v (with_bits (place y x) u n)) e
      (put_high k i x u (with_bits (place l w) v n) ∙ ap₂ (λ (a b : ℕ). with_bits (place i x) u a * 2 ^ k + b) above up_to
      ∙ sym (upper l w v m ∙ ap₂ (λ (a b : ℕ). a * 2 ^ k + (v * 2 ^ l + b)) m-high (lower m ∙ ap (λ (y : ℕ). y % 2 ^ l) m-low ∙ sym (lower n))))
    where
      lower : (y : ℕ) → y % 2 ^ l ≡ y % 2 ^ (l + w) % 2 ^ l
      lower y = let c : w + l ≡ l + w = omega arith in sym (ap (λ (z : ℕ). y % 2 ^ z % 2 ^ l) (sym c) ∙ mod-mod-pow y w l)

-- ---- a number in three parts, the place the middle one

module _ (l w a b c : ℕ) (middle : b < 2 ^ w) (last : c < 2 ^ l) where
  parts_high : ((a * 2 ^ w + b) * 2 ^ l + c) / 2 ^ l ≡ a * 2 ^ w + b
  parts_high = high (a * 2 ^ w + b) l last

  pub read_parts : bits_at (place l w) ((a * 2 ^ w + b) * 2 ^ l + c) ≡ b
  unfolding bits_at
  read_parts = ap (λ (m : ℕ). m % 2 ^ w) parts_high ∙ low a w middle

  pub put_parts : (v : ℕ) → with_bits (place l w) v ((a * 2 ^ w + b) * 2 ^ l + c) ≡ (a * 2 ^ w + v) * 2 ^ l + c
  put_parts v =
      joined l w v ((a * 2 ^ w + b) * 2 ^ l + c)
      ∙ ap₂ (λ (x y : ℕ). (x * 2 ^ w + v) * 2 ^ l + y) (ap (λ (m : ℕ). m / 2 ^ w) parts_high ∙ high a w middle) (low (a * 2 ^ w + b) l last)

-- ---- two places that are apart

-- no bit is in both
abbrev pub Apart : Place → Place → Type 0
Apart p q = (p.low + p.width ≤ q.low) ⊎ (q.low + q.width ≤ p.low)

module _ (p q : Place) (apart : Apart p q) (v n : ℕ) (fits : v < 2 ^ p.width) where
  pub put_kept : bits_at q (with_bits p v n) ≡ bits_at q n
  put_kept = ⊎_elim (λ h. kept_above p.low p.width v n fits q.low q.width h) (λ h. kept_below p.low p.width v n fits q.low q.width h) apart

  pub put_swap : (u : ℕ) → u < 2 ^ q.width → with_bits q u (with_bits p v n) ≡ with_bits p v (with_bits q u n)
  put_swap u small =
      ⊎_elim (λ h. swap_above p.low p.width v n fits q.low q.width u h)
      (λ h. sym (swap_above q.low q.width u n small p.low p.width v h)) apart

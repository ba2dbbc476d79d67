-- When reading answers and when it refuses, over all words; and that what is written is read. Assumes nothing.
use mathlib.Core.Path.{◌≡◌, refl, sym, ap, ap₂, ◌∙◌, subst}
use mathlib.Core.Bool.{Bool, true, false}
use mathlib.Core.List.{List, [], ◌∷◌, reverse}
use Rattle.std.specs.Prelude.{Option, Some, None}
use Prim.Native.Nat.{ℕ, ◌+◌, ◌≤◌, ◌<◌}
use native.Mathlib.Omega.{arith}
use lib.Dec.{T, leb}
use lib.ListN.{length, take, replicate, length-append}
use lib.Seq.{take_at}
use borrow.Author.Tests.{le-leb, lt-leb, leb-true, leb-false}
use Rattle.bits.specs.Bits.{bit}
use Rattle.fec.specs.declared.Sends.{Sends}
use Rattle.fec.specs.Code.{◌⊕◌, code, flushed}
use Rattle.fec.specs.Nearest.{differ, distance, ahead, Nearest, nearest, read_of}
use Rattle.fec.specs.Search.{sofar}
use Rattle.fec.proofs.Order.{comes_self}
use Rattle.fec.proofs.Unique.{nearest_is, only_nearest}
use Rattle.fec.proofs.Codes.{length-code, same_code}

-- ---- at distance zero
alike : (x y : Bool) → bit (x ⊕ y) ≡ 0 → x ≡ y
alike true true e = refl
alike false false e = refl
alike true false e = absurd (omega arith)
alike false true e = absurd (omega arith)

differ_none : (xs ys : List Bool) → length xs ≤ length ys → differ xs ys ≡ 0 → xs ≡ take (length xs) ys
unfolding differ
differ_none [] ys h e = refl
differ_none (x ∷ xs) [] h e = absurd (omega arith)
differ_none (x ∷ xs) (y ∷ ys) h e =
    ap₂ {C = List Bool} (λ (b : Bool) (l : List Bool). b ∷ l) (alike x y (omega arith)) (differ_none xs ys (omega arith) (omega arith))

differ_self : (xs : List Bool) → differ xs xs ≡ 0
unfolding differ
differ_self [] = refl
differ_self (true ∷ xs) = omega (arith, differ_self xs)
differ_self (false ∷ xs) = omega (arith, differ_self xs)

module _ (p : ℕ → Sends) (n : ℕ) where
  -- the word at distance zero is the only one
  pub zero_only : (rx w v : List Bool) → length w ≡ n + 4 → length v ≡ n + 4 → sofar p (n + 4) ≤ length rx
      → distance p rx w ≡ 0 → distance p rx v ≡ 0 → w ≡ v
  unfolding distance
  zero_only rx w v lw lv h zw zv = same_code p w v (lw ∙ sym lv) (heard w lw zw ∙ sym (heard v lv zv))
    where
      heard : (v : List Bool) → length v ≡ n + 4 → differ (code p v) rx ≡ 0 → code p v ≡ take (sofar p (n + 4)) rx
      heard v e d =
          let k : length (code p v) ≡ sofar p (n + 4) = length-code p v ∙ ap (sofar p) e in
          differ_none (code p v) rx (omega arith) d ∙ ap (λ (m : ℕ). take m rx) k

  own_distance : (w : List Bool) → distance p (code p w) w ≡ 0
  unfolding distance
  own_distance w = differ_self (code p w)

  -- the nearest word to what a word is coded to is that word
  pub own_nearest : (w : List Bool) → length w ≡ n + 4 → nearest p n (code p w) ≡ w
  own_nearest w l =
      let k : length (code p w) ≡ sofar p (n + 4) = length-code p w ∙ ap (sofar p) l in
      only_nearest p n (code p w) w (
      record {
        long = l;
        least = λ v e. omega (arith, own_distance w);
        earliest = λ v e q.
            subst (λ (u : List Bool). T (ahead w u)) (zero_only (code p w) w v l e (omega arith) (own_distance w) (q ∙ own_distance w))
            (comes_self 5 (reverse w));
      }
      )

  -- what n bits are written as reads as those bits, whatever the limit
  pub own_read : (limit : ℕ) (d : List Bool) → length d ≡ n → read_of p n limit (code p (flushed d)) ≡ Some d
  unfolding read_of
  own_read limit d l =
      let w = flushed d in
      let long : length w ≡ n + 4 = length-append d (replicate 4 false) ∙ omega arith in
      let e : nearest p n (code p w) ≡ w = own_nearest w long in
      let z : distance p (code p w) (nearest p n (code p w)) ≡ 0 = ap (distance p (code p w)) e ∙ own_distance w in
      rw (le-leb (distance p (code p w) (nearest p n (code p w))) limit (omega arith))
      (ap {B = Option (List Bool)} (λ (v : List Bool). Some (take n v)) e ∙ ap {B = Option (List Bool)} Some (take_at d (replicate 4 false) n l))

  -- ---- exactly when
  module _ (limit : ℕ) (rx : List Bool) where
    pub near : distance p rx (nearest p n rx) ≤ limit → read_of p n limit rx ≡ Some (take n (nearest p n rx))
    unfolding read_of
    near h = rw (le-leb (distance p rx (nearest p n rx)) limit h)

    pub far : limit < distance p rx (nearest p n rx) → read_of p n limit rx ≡ None
    unfolding read_of
    far h = rw (lt-leb (distance p rx (nearest p n rx)) limit h)

    either : (b : Bool) → leb (distance p rx (nearest p n rx)) limit ≡ b → (Q : Option (List Bool) → Type 0)
        → (distance p rx (nearest p n rx) ≤ limit → Q (Some (take n (nearest p n rx)))) → (limit < distance p rx (nearest p n rx) → Q None)
        → Q (read_of p n limit rx)
    either true e Q a b = let h = leb-true _ _ e in subst Q (sym (near h)) (a h)
    either false e Q a b = let h = leb-false _ _ e in subst Q (sym (far h)) (b h)

    -- reading answers bits exactly where they are the first n of the nearest word and its distance is within the limit
    pub answered_when : (d : List Bool) → ((read_of p n limit rx ≡ Some d) → (w : List Bool) × Nearest p n rx w × (distance p rx w ≤ limit) × (d ≡ take n w))
        × (((w : List Bool) × Nearest p n rx w × (distance p rx w ≤ limit) × (d ≡ take n w)) → read_of p n limit rx ≡ Some d)
    answered_when d = (
      either (leb (distance p rx (nearest p n rx)) limit) refl
          (λ o. o ≡ Some d → (w : List Bool) × Nearest p n rx w × (distance p rx w ≤ limit) × (d ≡ take n w))
          (λ h e. (nearest p n rx, nearest_is p n rx, h, (cc)))
          (λ h e. absurd (let z : ◌≡◌ {A = ℕ} 0 1 = cc in omega arith)),
      λ a.
          let e : nearest p n rx ≡ a.0 = only_nearest p n rx a.0 a.1 in
          near (omega (arith, a.2, ap (distance p rx) e)) ∙ ap {B = Option (List Bool)} Some (ap (take n) e ∙ sym a.3),
    )

    -- and refuses exactly where every word is farther
    pub refused_when : (read_of p n limit rx ≡ None → (v : List Bool) → length v ≡ n + 4 → limit < distance p rx v)
        × (((v : List Bool) → length v ≡ n + 4 → limit < distance p rx v) → read_of p n limit rx ≡ None)
    refused_when = (
      either (leb (distance p rx (nearest p n rx)) limit) refl
          (λ o. o ≡ None → (v : List Bool) → length v ≡ n + 4 → limit < distance p rx v)
          (λ h e. absurd (let z : ◌≡◌ {A = ℕ} 0 1 = cc in omega arith))
          (λ h e v l. omega (arith, (nearest_is p n rx).least v l)),
      λ f. far (f (nearest p n rx) (nearest_is p n rx).long),
    )

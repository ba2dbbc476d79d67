-- The coded bits of a word: how many there are, and that different words never code alike, whatever the puncturing. Assumes nothing.
use mathlib.Core.Path.{◌≡◌, refl, sym, ap, ap₂, ◌∙◌}
use mathlib.Core.Logic.{◌⊎◌, inl, inr, ⊎_elim}
use mathlib.Core.Bool.{Bool, true, false}
use mathlib.Core.List.{List, [], ◌∷◌, ◌++◌}
use Prim.Native.Nat.{ℕ, zero, suc, ◌+◌, ◌-◌, ◌≤◌, ◌<◌}
use native.Mathlib.Nat.{zero-add, add-zero}
use native.Mathlib.Numerals.{add-one}
use native.Mathlib.Omega.{arith}
use lib.ListN.{length, length-append}
use Rattle.fec.specs.declared.Sends.{Sends}
use Rattle.fec.specs.declared.Sends.TheVariants.{Both, First, Second}
use Rattle.fec.specs.Code.{◌⊕◌, sent, coded, code}
use Rattle.fec.specs.Search.{count, sofar}

pub length-sent : (s : Sends) (x y : Bool) → length (sent s x y) ≡ count s
length-sent Both x y = refl
length-sent First x y = refl
length-sent Second x y = refl

cancel : (a b x : Bool) → a ⊕ x ≡ b ⊕ x → a ≡ b
cancel true true x e = refl
cancel false false x e = refl
cancel true false true e = sym e
cancel true false false e = e
cancel false true true e = sym e
cancel false true false e = e

-- what is sent shows one of the two bits at least
shown : (s : Sends) (g₁ g₂ h₁ h₂ : Bool) (l m : List Bool) → sent s g₁ g₂ ++ l ≡ sent s h₁ h₂ ++ m → ((g₁ ≡ h₁) ⊎ (g₂ ≡ h₂)) × (l ≡ m)
shown Both g₁ g₂ h₁ h₂ l m e = (inl (cc), (cc))
shown First g₁ g₂ h₁ h₂ l m e = (inl (cc), (cc))
shown Second g₁ g₂ h₁ h₂ l m e = (inr (cc), (cc))

module _ (p : ℕ → Sends) where
  -- ---- how many bits are sent

  pub sofar_suc : (t : ℕ) → sofar p (t + 1) ≡ sofar p t + count (p t)
  unfolding sofar
  sofar_suc t = rw add-one

  sofar_more : (t d : ℕ) → sofar p t ≤ sofar p (t + d)
  sofar_more t zero = omega (arith, ap (sofar p) (add-zero t))
  sofar_more t (suc d) =
      let e : t + suc d ≡ t + d + 1 = omega arith in
      omega (arith, sofar_more t d, sofar_suc (t + d), ap (sofar p) e)

  -- what step t sends ends before what is sent in all
  pub sofar_fits : (steps t : ℕ) → t < steps → sofar p t + count (p t) ≤ sofar p steps
  sofar_fits steps t h =
      let d : t + 1 + (steps - (t + 1)) ≡ steps = omega arith in
      omega (arith, sofar_suc t, sofar_more (t + 1) (steps - (t + 1)), ap (sofar p) d)

  length-coded : (w : List Bool) (t : ℕ) (b₁ b₂ b₃ b₄ : Bool) → length (coded p t b₁ b₂ b₃ b₄ w) + sofar p t ≡ sofar p (t + length w)
  unfolding coded sofar
  length-coded [] t b₁ b₂ b₃ b₄ = omega (arith, ap (sofar p) (add-zero t))
  length-coded (b ∷ w) t b₁ b₂ b₃ b₄ =
      let e : suc t + length w ≡ t + suc (length w) = omega arith in
      omega (
        arith,
        length-coded w (suc t) b b₁ b₂ b₃,
        ap (sofar p) e,
        length-append (sent (p t) (b ⊕ b₃ ⊕ b₄) (b ⊕ b₁ ⊕ b₂ ⊕ b₄)) (coded p (suc t) b b₁ b₂ b₃ w),
        length-sent (p t) (b ⊕ b₃ ⊕ b₄) (b ⊕ b₁ ⊕ b₂ ⊕ b₄),
      )

  pub length-code : (w : List Bool) → length (code p w) ≡ sofar p (length w)
  unfolding code sofar
  length-code w = omega (arith, length-coded w 0 false false false false, ap (sofar p) (zero-add (length w)))

  -- ---- no two words code alike

  same_coded : (u v : List Bool) (t : ℕ) (b₁ b₂ b₃ b₄ : Bool) → length u ≡ length v → coded p t b₁ b₂ b₃ b₄ u ≡ coded p t b₁ b₂ b₃ b₄ v → u ≡ v
  unfolding coded
  same_coded [] [] t b₁ b₂ b₃ b₄ l e = refl
  same_coded [] (y ∷ v) t b₁ b₂ b₃ b₄ l e = absurd (omega arith)
  same_coded (x ∷ u) [] t b₁ b₂ b₃ b₄ l e = absurd (omega arith)
  same_coded (x ∷ u) (y ∷ v) t b₁ b₂ b₃ b₄ l e =
      let s = shown (p t) (x ⊕ b₃ ⊕ b₄) (x ⊕ b₁ ⊕ b₂ ⊕ b₄) (y ⊕ b₃ ⊕ b₄) (y ⊕ b₁ ⊕ b₂ ⊕ b₄) _ _ e in
      let q : x ≡ y =
      ⊎_elim (λ h. cancel x y b₃ (cancel (x ⊕ b₃) (y ⊕ b₃) b₄ h))
      (λ h. cancel x y b₁ (cancel (x ⊕ b₁) (y ⊕ b₁) b₂ (cancel (x ⊕ b₁ ⊕ b₂) (y ⊕ b₁ ⊕ b₂) b₄ h))) s.0 in
      ap₂ {C = List Bool} (λ (b : Bool) (w : List Bool). b ∷ w) q
      (same_coded u v (suc t) x b₁ b₂ b₃ (omega arith) (s.1 ∙ ap (λ (b : Bool). coded p (suc t) b b₁ b₂ b₃ v) (sym q)))

  -- two words of one length with the same coded bits are one
  pub same_code : (u v : List Bool) → length u ≡ length v → code p u ≡ code p v → u ≡ v
  unfolding code
  same_code u v l e = same_coded u v 0 false false false false l e

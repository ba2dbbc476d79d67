-- The encoder's loop: what is written so far, and then the coded bits of what is left, are the coded bits of the word. Assumes nothing.
use mathlib.Core.Path.{◌≡◌, refl, sym, ap, ◌∙◌}
use mathlib.Core.Bool.{Bool, false}
use mathlib.Core.List.{List, ◌∷◌, ◌++◌, append_assoc, append-nil}
use Prim.Native.Nat.{ℕ, suc, ◌+◌, ◌≤◌, ◌<◌}
use native.Mathlib.Nat.{le_antisymm}
use native.Mathlib.Numerals.{add-one}
use native.Mathlib.Decide.{dec_lt}
use native.Mathlib.Omega.{arith}
use lib.ListN.{length, take, drop, get_or, replicate, length-append, drop_of_length-le, get_or-eq_default}
use lib.Seq.{drop-cons, length-take-le, get_or-take}
use Rattle.laws.proofs.Padded.{replicate_at, padded_at}
use Rattle.fec.specs.declared.Sends.{Sends}
use Rattle.fec.specs.Code.{◌⊕◌, sent, coded, code, flushed}
use Rattle.fec.specs.Search.{count, sofar, Stored}
use Rattle.fec.proofs.Codes.{length-code, sofar_suc}
use Rattle.fec.proofs.Packed.{kept_past}

-- ---- the word that is written

module _ (n : ℕ) (l : List Bool) (fits : n ≤ length l) where
  pub length-flushed : length (flushed (take n l)) ≡ n + 4
  length-flushed = length-append (take n l) (replicate 4 false) ∙ ap (λ (m : ℕ). m + 4) (length-take-le n l fits)

  pub flushed_in : (t : ℕ) → t < n → get_or (flushed (take n l)) t false ≡ get_or l t false
  flushed_in t h = padded_at false (take n l) 4 t ∙ get_or-take n l t false h

  pub flushed_past : (t : ℕ) → n ≤ t → get_or (flushed (take n l)) t false ≡ false
  flushed_past t h = padded_at false (take n l) 4 t ∙ kept_past l n t h

-- ---- the loop
pub record Encoding (p : ℕ → Sends) (word out : List Bool) (at : ℕ) (b₁ b₂ b₃ b₄ : Bool) (t : ℕ) : Type 0 where
  pub within : t ≤ length word
  pub place : at ≡ sofar p t
  pub long : length out ≡ 368
  pub written : take at out ++ coded p t b₁ b₂ b₃ b₄ (drop t word) ≡ code p word
  pub clear : (k : ℕ) → at ≤ k → get_or out k false ≡ false

module _ (p : ℕ → Sends) (word : List Bool) where
  pub encoding_start : Encoding p word (replicate 368 false) 0 false false false false 0
  unfolding code sofar
  encoding_start = record { within = omega arith; place = refl; long = refl; written = refl; clear = λ k h. replicate_at false 368 k }

  module _ (out : List Bool) (at : ℕ) (b₁ b₂ b₃ b₄ : Bool) (t : ℕ) (so : Encoding p word out at b₁ b₂ b₃ b₄ t) where
    pub encoding_step : t < length word → (e : Sends) → e ≡ p t → (b g₁ g₂ : Bool) → b ≡ get_or word t false → g₁ ≡ b ⊕ b₃ ⊕ b₄ → g₂ ≡ b ⊕ b₁ ⊕ b₂ ⊕ b₄
        → (out' : List Bool) (at' : ℕ) → length out' ≡ length out → at' ≡ at + count e → Stored out out' at at' (sent e g₁ g₂)
        → Encoding p word out' at' b b₁ b₂ b₃ (t + 1)
    encoding_step h e of-e b g₁ g₂ of-b of-g₁ of-g₂ out' at' l a put =
        record {
          within = omega arith;
          place = omega (arith, a, so.place, ap count of-e, sofar_suc p t);
          long = l ∙ so.long;
          written = rw (add-one t) moved;
          clear = λ k q. put.rest k q ∙ so.clear k (omega (arith, a));
        }
      where
        left : List Bool
        left = coded p (suc t) b b₁ b₂ b₃ (drop (suc t) word)

        one_more : sent e g₁ g₂ ++ left ≡ coded p t b₁ b₂ b₃ b₄ (drop t word)
        one_more =
            (λ i. sent (of-e i) (of-g₁ i) (of-g₂ i) ++ left)
            ∙ unfold coded in ap (λ (l : List Bool). coded p t b₁ b₂ b₃ b₄ l) (ap (λ (x : Bool). x ∷ drop (suc t) word) of-b ∙ sym (drop-cons word t false h))

        moved : take at' out' ++ left ≡ code p word
        moved =
            ap (λ (x : List Bool). x ++ left) put.front ∙ append_assoc (take at out) (sent e g₁ g₂) left ∙ ap (λ (x : List Bool). take at out ++ x) one_more
            ∙ so.written

    pub encoding_end : length word ≤ t → (k : ℕ) → get_or out k false ≡ get_or (code p word) k false
    unfolding coded
    encoding_end h k = elim (dec_lt k at) [ yes l ↦ inside l | no n ↦ so.clear k (omega arith) ∙ sym (outside (omega arith)) ]
      where
        whole : take at out ≡ code p word
        whole =
            sym (append-nil (take at out))
            ∙ ap (λ (l : List Bool). take at out ++ coded p t b₁ b₂ b₃ b₄ l) (sym (drop_of_length-le word h)) ∙ so.written

        inside : k < at → get_or out k false ≡ get_or (code p word) k false
        inside l = sym (get_or-take at out k false l) ∙ ap (λ (x : List Bool). get_or x k false) whole

        outside : at ≤ k → get_or (code p word) k false ≡ false
        outside l =
            let e : sofar p (length word) ≡ at = ap (sofar p) (le_antisymm h so.within) ∙ sym so.place in
            get_or-eq_default (code p word) false {n = k} (omega (arith, length-code p word))

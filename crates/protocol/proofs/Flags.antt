-- Flags counted one at a time, and that those that are set are those that a filter keeps. Assumes nothing.
use mathlib.Core.Path.{◌≡◌, refl, sym, ap, ◌∙◌}
use mathlib.Core.Bool.{Bool, true, false}
use mathlib.Core.List.{List, [], ◌∷◌}
use Prim.Native.Nat.{ℕ, suc, ◌+◌, ◌<◌, ◌≤◌}
use native.Mathlib.Numerals.{add-one}
use native.Mathlib.Omega.{arith}
use lib.ListN.{length, get_or, drop, drop_of_length-le}
use lib.Seq.{drop-cons}
use mir.Val.{bool_byte}
use Rattle.std.specs.List.{filter}
use Rattle.protocol.specs.Lich.{flags_set}

pub flags_filter : (l : List Bool) → length (filter (λ b. b) l) ≡ flags_set l
unfolding flags_set
flags_filter [] = refl
flags_filter (true ∷ l) = ap suc (flags_filter l)
flags_filter (false ∷ l) = flags_filter l

pub none_left : (l : List Bool) (i : ℕ) → length l ≤ i → flags_set (drop i l) ≡ 0
unfolding flags_set
none_left l i h = ap flags_set (drop_of_length-le l h)

module _ (l : List Bool) (i : ℕ) (inside : i < length l) where
  next : (b : Bool) → get_or l i false ≡ b → flags_set (drop i l) ≡ flags_set (b ∷ drop (i + 1) l)
  next b e =
      ap flags_set (drop-cons l i false inside) ∙ ap (λ (n : ℕ). flags_set (get_or l i false ∷ drop n l)) (sym (add-one i))
      ∙ ap (λ (x : Bool). flags_set (x ∷ drop (i + 1) l)) e

  pub next_set : get_or l i false ≡ true → flags_set (drop i l) ≡ suc (flags_set (drop (i + 1) l))
  unfolding flags_set
  next_set e = next true e

  pub next_clear : get_or l i false ≡ false → flags_set (drop i l) ≡ flags_set (drop (i + 1) l)
  unfolding flags_set
  next_clear e = next false e

  -- a turn of a count
  pub next_counted : (b : Bool) → get_or l i false ≡ b → flags_set (drop i l) ≡ bool_byte b + flags_set (drop (i + 1) l)
  next_counted true e = omega (arith, next_set e)
  next_counted false e = omega (arith, next_clear e)

pub flag_small : (b : Bool) → bool_byte b ≤ 1
flag_small true = omega arith
flag_small false = omega arith

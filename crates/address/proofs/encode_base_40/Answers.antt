-- `address::encode_base_40` meets its contract. Assumes nothing.
use Rattle.std.proofs.Common.{◌≡◌, ℕ, ◌+◌, ◌-◌, ◌*◌, ◌^◌, ◌≤◌, ◌<◌, true, false, Bool, cond, ltb, List, [], ◌∷◌, ◌++◌, Option, Some, None, length, map, reverse, get_or, refl, sym, ap, ◌∙◌, arith, rules}
use Rattle.std.proofs.lemmas.List.{map-append, reverse-append, reverse-reverse, length-reverse, length-map, get_or-reverse}
use Rattle.std.proofs.lemmas.Grind.{get_or_default_zero}
use Rattle.std.proofs.lemmas.Iterator.Adapters.{YieldsList-from_rev_slice}
use Rattle.std.proofs.lemmas.Iterator.Consumers.{YieldsList-turn, YieldsList-end}
use borrow.Author.Tests.{ltb-true, ltb-false}
use denote.Ref.{Bor}
use Rattle.address.specs.Callsign.{digit_of, known, callsign_value}
use Rattle.address.proofs.Number.{known_more, unknown_at, number_lt}
use Rattle.address.proofs.EachKind.{callsign_good, callsign_spaces, callsign_foreign}
use Rattle.address.proofs.encode_base_40.Goals as goal

-- a digit or none
some_digit : (d n : ℕ) → ◌≡◌ {A = Option ℕ} (Some d) (cond (ltb n 40) (Some n) None) → (d ≡ n) × (n < 40)
some_digit d n = go (ltb n 40) refl
  where
    go : (b : Bool) → ltb n 40 ≡ b → ◌≡◌ {A = Option ℕ} (Some d) (cond b (Some n) None) → (d ≡ n) × (n < 40)
    go true h e = let is : d ≡ n = cc in (is, ltb-true n 40 h)
    go false h e = cc

no_digit : (n : ℕ) → ◌≡◌ {A = Option ℕ} None (cond (ltb n 40) (Some n) None) → 40 ≤ n
no_digit n = go (ltb n 40) refl
  where
    go : (b : Bool) → ltb n 40 ≡ b → ◌≡◌ {A = Option ℕ} None (cond b (Some n) None) → 40 ≤ n
    go true h e = cc
    go false h e = ltb-false n 40 h

-- the characters so far, the last one first
abbrev so_far : List (Bor ℕ) → List ℕ
so_far xs = reverse (map (λ (y : Bor ℕ). y.now) xs)

one_more : (xs : List (Bor ℕ)) (x : Bor ℕ) → so_far (xs ++ x ∷ []) ≡ x.now ∷ so_far xs
one_more xs x = ap reverse (map-append (λ (y : Bor ℕ). y.now) xs (x ∷ [])) ∙ reverse-append (map (λ (y : Bor ℕ). y.now) xs) (x.now ∷ [])

small : (xs : List (Bor ℕ)) (n value : ℕ) → length xs ≤ n → known (so_far xs) ≡ true → value ≡ callsign_value (so_far xs) → value < 40 ^ n
small xs n value h k e =
    let long : length (so_far xs) ≡ length xs = length-reverse (map (λ (y : Bor ℕ). y.now) xs) ∙ length-map xs (λ (y : Bor ℕ). y.now) in
    omega (arith, number_lt n (so_far xs) (omega arith) k)

turn : (xs : List (Bor ℕ)) (x : Bor ℕ) (digit value : ℕ) → (digit ≡ digit_of x.now) × (digit_of x.now < 40)
    → (known (so_far xs) ≡ true) × (value ≡ callsign_value (so_far xs))
    → (known (so_far (xs ++ x ∷ [])) ≡ true) × (value * 40 + digit ≡ callsign_value (so_far (xs ++ x ∷ [])))
unfolding callsign_value
turn xs x digit value d h =
    let n : value * 40 + digit ≡ digit_of x.now + 40 * callsign_value (so_far xs) = omega arith in (
      ap known (one_more xs x) ∙ known_more x.now (so_far xs) d.1 h.0,
      n ∙ sym (ap callsign_value (one_more xs x)),
    )

foreign : (s : List ℕ) (k c : ℕ) → (k < length (reverse s)) × (c ≡ get_or (reverse s) k c) → 40 ≤ digit_of c → known s ≡ false
foreign s k c t h =
    let long : length (reverse s) ≡ length s = length-reverse s in
    let in_reverse : k < length s = omega arith in
    let in_list : length s - 1 - k < length s = omega arith in
    let is : c ≡ get_or s (length s - 1 - k) 0 = t.1 ∙ get_or-reverse s k c in_reverse ∙ get_or_default_zero s (length s - 1 - k) c in_list in
    unknown_at s (length s - 1 - k) in_list (omega (arith, ap digit_of is))

-- the end: all characters are taken
all : (s : List ℕ) (xs : List (Bor ℕ)) → map (λ (y : Bor ℕ). y.now) xs ≡ reverse s → so_far xs ≡ s
all s xs e = ap reverse e ∙ reverse-reverse s

pub loop-c-init : goal.loop-c-init
unfolding known callsign_value
loop-c-init c = (refl, refl)

pub overflow_mul-number : goal.overflow_mul-number
overflow_mul-number c =
    let t = YieldsList-turn (YieldsList-from_rev_slice c.args.callsign.now (search rules)) c.loop-c.yielded _ c.loop-c.yielded_by _ _ c.in-Some.c c.in-Some.is c.next.ensures.steps in
    let long = length-reverse c.args.callsign.now in
    omega (arith, small c.loop-c.yielded 8 c.loop-c.number (omega arith) c.loop-c.invariant.0 c.loop-c.invariant.1)

pub overflow_add-number : goal.overflow_add-number
overflow_add-number c =
    let t = YieldsList-turn (YieldsList-from_rev_slice c.args.callsign.now (search rules)) c.loop-c.yielded _ c.loop-c.yielded_by _ _ c.in-Some.c c.in-Some.is c.next.ensures.steps in
    let long = length-reverse c.args.callsign.now in
    omega (arith, some_digit _ _ c.in-Some-digit_of.ensures, small c.loop-c.yielded 8 c.loop-c.number (omega arith) c.loop-c.invariant.0 c.loop-c.invariant.1)

pub loop-c-preserved : goal.loop-c-preserved
loop-c-preserved c = turn c.loop-c.yielded c.in-Some.c c.in-Some-digit_of.digit c.loop-c.number (some_digit _ _ c.in-Some-digit_of.ensures) c.loop-c.invariant

pub returns-in_default-clause-value : goal.returns-in_default-clause-value
returns-in_default-clause-value c =
    let t = YieldsList-turn (YieldsList-from_rev_slice c.args.callsign.now (search rules)) c.loop-c.yielded _ c.loop-c.yielded_by _ _ c.in-Some.c c.in-Some.is c.next.ensures.steps in
    let s = c.args.callsign.now in
    sym (ap (λ (b : Bool). cond {A = Option ℕ} b (Some (callsign_value s)) None) (callsign_foreign s (foreign s _ _ t (no_digit _ c.in_default.ensures))))

pub returns-then-number-eq0-clause-value : goal.returns-then-number-eq0-clause-value
returns-then-number-eq0-clause-value c =
    let s = c.args.callsign.now in
    let t = YieldsList-end (YieldsList-from_rev_slice s (search rules)) c.loop-c.yielded _ c.loop-c.yielded_by _ _ c.in-None.is c.next.ensures.steps in
    let is = all s c.loop-c.yielded t.0 in
    let n : c.loop-c.number ≡ callsign_value s = c.loop-c.invariant.1 ∙ ap callsign_value is in
    let k : known s ≡ true = ap known (sym is) ∙ c.loop-c.invariant.0 in
    sym (ap (λ (b : Bool). cond {A = Option ℕ} b (Some (callsign_value s)) None) (callsign_spaces s k (omega arith)))

pub returns-clause-value : goal.returns-clause-value
returns-clause-value c =
    let s = c.args.callsign.now in
    let t = YieldsList-end (YieldsList-from_rev_slice s (search rules)) c.loop-c.yielded _ c.loop-c.yielded_by _ _ c.in-None.is c.next.ensures.steps in
    let is = all s c.loop-c.yielded t.0 in
    let n : c.loop-c.number ≡ callsign_value s = c.loop-c.invariant.1 ∙ ap callsign_value is in
    let k : known s ≡ true = ap known (sym is) ∙ c.loop-c.invariant.0 in
    ap {B = Option ℕ} Some n ∙ sym (ap (λ (b : Bool). cond {A = Option ℕ} b (Some (callsign_value s)) None) (callsign_good s k (λ e. omega arith)))

pub returns-clause-bound : goal.returns-clause-bound
returns-clause-bound c =
    let s = c.args.callsign.now in
    let t = YieldsList-end (YieldsList-from_rev_slice s (search rules)) c.loop-c.yielded _ c.loop-c.yielded_by _ _ c.in-None.is c.next.ensures.steps in
    let long = length-reverse s in
    omega (arith, small c.loop-c.yielded 9 c.loop-c.number (omega arith) c.loop-c.invariant.0 c.loop-c.invariant.1)

-- What is read is written back as it was, and what is written reads back as itself. Assumes nothing.
use mathlib.Core.Path.{◌≡◌, refl, sym, ap, ◌∙◌, subst}
use mathlib.Core.Bool.{Bool, true, false, cond, not}
use mathlib.Core.List.{List, map}
use Prim.Native.Nat.{ℕ, ◌^◌, ◌≤◌, ◌<◌}
use native.Mathlib.Omega.{arith}
use lib.Dec.{eqb, leb}
use lib.ListN.{length, replicate}
use Rattle.std.proofs.Common.{Result, Ok, Err}
use borrow.Author.Tests.{eqb-true, eqb-false, leb-true, leb-false, not-true}
use Rattle.refusal.specs.declared.Refusal.{Refusal}
use Rattle.refusal.specs.declared.Refusal.TheVariants.{WrongLength, BadAddress}
use Rattle.address.specs.declared.Address.{Address}
use Rattle.address.specs.declared.Address.TheVariants.{Invalid, Callsign, Reserved, Broadcast}
use Rattle.address.specs.declared.Reading.{Reading}
use Rattle.laws.specs.Value.{value_of, in_bytes, Bytes}
use Rattle.address.specs.Callsign.{upper, callsign_of, known, blank, callsign_value}
use Rattle.address.specs.Address.{without_callsign, address_of, decoded_of, address_value, writable, encoded_of}
use Rattle.address.proofs.Number.{both_true, length_callsign, callsign_known, number_of_callsign, number_blank, number_lt, number_zero, callsign_of_number}
use Rattle.laws.proofs.Number.{value_lt, length_in_bytes, bytes_of_value, value_of_bytes}
use Rattle.address.proofs.EachKind.{read_six, invalid_at, callsign_at, reserved_at, broadcast_at, write_good, reserved_good}

-- ---- read, then written
-- an answer r that is an address, and the bytes s that it is written back as
pub record Back (r : Result Reading Refusal) (s : List ℕ) : Type 0 where
  pub reading : Reading
  pub reads : r ≡ Ok reading
  pub writes : encoded_of reading.address reading.callsign ≡ Ok s

callsign_writable : (v : ℕ) → (v ≡ 0 → ⊥) → v < 40 ^ 9 → writable Callsign (callsign_of 9 v) ≡ true
callsign_writable v n h = simp (callsign_known 9 v) (go (blank (callsign_of 9 v)) refl)
  where
    go : (b : Bool) → blank (callsign_of 9 v) ≡ b → not b ≡ true
    go true e = absurd (n (sym (number_of_callsign 9 v h) ∙ number_blank (callsign_of 9 v) e))
    go false e = refl

-- every value has its address, which is written as the value
value_back : (v : ℕ) → v ≤ 0xFFFFFFFFFFFF → encoded_of (address_of v).address (address_of v).callsign ≡ Ok (in_bytes 6 v)
value_back v h = go (eqb v 0) (leb v 0xEE6B27FFFFFF) (leb v 0xFFFFFFFFFFFE) refl refl refl
  where
    read_as : (r : Reading) → address_of v ≡ r → encoded_of r.address r.callsign ≡ Ok (in_bytes 6 v)
        → encoded_of (address_of v).address (address_of v).callsign ≡ Ok (in_bytes 6 v)
    read_as r e w = ap (λ (x : Reading). encoded_of x.address x.callsign) e ∙ w

    go : (a b c : Bool) → eqb v 0 ≡ a → leb v 0xEE6B27FFFFFF ≡ b → leb v 0xFFFFFFFFFFFE ≡ c
        → encoded_of (address_of v).address (address_of v).callsign ≡ Ok (in_bytes 6 v)
    go true b c p q r =
        let e = eqb-true v 0 p in
        read_as (without_callsign Invalid) (invalid_at v e) (write_good Invalid (replicate 9 0) refl refl ∙ ap (λ (n : ℕ). Ok (in_bytes 6 n)) (sym e))
    go false true c p q r =
        let n = eqb-false v 0 p in
        let l = leb-true v 0xEE6B27FFFFFF q in
        read_as (record { address = Callsign; callsign = callsign_of 9 v }) (callsign_at v n l)
        (write_good Callsign (callsign_of 9 v) (length_callsign 9 v) (callsign_writable v n (omega arith))
        ∙ ap (λ (n : ℕ). Ok (in_bytes 6 n)) (number_of_callsign 9 v (omega arith)))
    go false false true p q r =
        let l = leb-false v 0xEE6B27FFFFFF q in
        let u = leb-true v 0xFFFFFFFFFFFE r in
        read_as (without_callsign (Reserved v)) (reserved_at v l u)
        (write_good (Reserved v) (replicate 9 0) refl (reserved_good v (replicate 9 0) (omega arith) u))
    go false false false p q r =
        let l = leb-false v 0xFFFFFFFFFFFE r in
        let e : 0xFFFFFFFFFFFF ≡ v = omega arith in
        read_as (without_callsign Broadcast) (broadcast_at v l) (write_good Broadcast (replicate 9 0) refl refl ∙ ap (λ (n : ℕ). Ok (in_bytes 6 n)) e)

-- ---- written, then read
-- what an address that was written reads back as: a callsign in upper case, any other as itself
abbrev pub read_back : Address → List ℕ → Reading
read_back Invalid s = without_callsign Invalid
read_back Callsign s = record { address = Callsign; callsign = map upper s }
read_back (Reserved v) s = without_callsign (Reserved v)
read_back Broadcast s = without_callsign Broadcast

-- what is answered with bytes was judged good
pub accepted : (a : Address) (s b : List ℕ) → encoded_of a s ≡ Ok b → (length s ≡ 9) × (writable a s ≡ true)
unfolding encoded_of
accepted a s b = go (eqb (length s) 9) (writable a s) refl
  where
    go : (t w : Bool) → eqb (length s) 9 ≡ t → cond t (cond w (Ok (in_bytes 6 (address_value a s))) (Err BadAddress)) (Err WrongLength) ≡ Ok b
        → (length s ≡ 9) × (w ≡ true)
    go true true h e = (eqb-true (length s) 9 h, refl)
    go true false h e = cc
    go false w h e = cc

-- and those are the bytes of its value
pub accepted_bytes : (a : Address) (s b : List ℕ) → encoded_of a s ≡ Ok b → b ≡ in_bytes 6 (address_value a s)
accepted_bytes a s b e =
    let ok = accepted a s b e in
    let same : ◌≡◌ {A = Result (List ℕ) Refusal} (Ok b) (Ok (in_bytes 6 (address_value a s))) = sym e ∙ write_good a s ok.0 ok.1 in
    cc

-- bytes of a value read as the value does
value_kept : (v : ℕ) → v ≤ 0xFFFFFFFFFFFF → decoded_of (in_bytes 6 v) ≡ Ok (address_of v)
value_kept v h = read_six (in_bytes 6 v) (length_in_bytes 6 v) ∙ ap (λ (n : ℕ). Ok (address_of n)) (value_of_bytes 6 v (omega arith))

value_read : (a : Address) (s : List ℕ) → length s ≡ 9 → writable a s ≡ true → decoded_of (in_bytes 6 (address_value a s)) ≡ Ok (read_back a s)
value_read Invalid s h w = value_kept 0 (omega arith) ∙ ap Ok (invalid_at 0 refl)
value_read Callsign s h w =
    let k = (both_true (known s) (not (blank s)) w).0 in
    let small : callsign_value s < 40 ^ 9 = number_lt 9 s (omega arith) k in
    let some : callsign_value s ≡ 0 → ⊥ =
    λ e.
    let z : true ≡ false = sym (number_zero s k e) ∙ not-true (blank s) (both_true (known s) (not (blank s)) w).1 in
    let y : ◌≡◌ {A = ℕ} 0 1 = cc in omega arith in
    value_kept (callsign_value s) (omega arith) ∙ ap Ok (callsign_at (callsign_value s) some (omega arith))
    ∙ ap (λ (l : List ℕ). Ok (record { address = Callsign; callsign = l }))
    (ap (λ (n : ℕ). callsign_of n (callsign_value s)) (sym h) ∙ callsign_of_number s k)
value_read (Reserved v) s h w =
    let range = both_true (leb 0xEE6B28000000 v) (leb v 0xFFFFFFFFFFFE) w in
    let low = leb-true 0xEE6B28000000 v range.0 in
    let high = leb-true v 0xFFFFFFFFFFFE range.1 in
    value_kept v (omega arith) ∙ ap Ok (reserved_at v (omega arith) high)
value_read Broadcast s h w = value_kept 0xFFFFFFFFFFFF (omega arith) ∙ ap Ok (broadcast_at 0xFFFFFFFFFFFF (omega arith))

-- ---- the two ways round
-- six bytes read, and what was read written: the same six bytes
pub read_then_written : (s : List ℕ) → length s ≡ 6 → Bytes s → Back (decoded_of s) s
read_then_written s h b =
    let top : value_of s < 256 ^ 6 = subst (λ (n : ℕ). value_of s < 256 ^ n) h (value_lt s b) in
    let same : in_bytes 6 (value_of s) ≡ s = ap (λ (n : ℕ). in_bytes n (value_of s)) (sym h) ∙ bytes_of_value s b in
    record { reading = address_of (value_of s); reads = read_six s h; writes = value_back (value_of s) (omega arith) ∙ ap Ok same }

-- whatever is accepted for writing reads back, a callsign in upper case
pub written_then_read : (a : Address) (s b : List ℕ) → encoded_of a s ≡ Ok b → decoded_of b ≡ Ok (read_back a s)
written_then_read a s b e =
    let ok = accepted a s b e in
    ap decoded_of (accepted_bytes a s b e) ∙ value_read a s ok.0 ok.1

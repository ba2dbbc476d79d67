-- An address that is accepted: the six bytes that it is written as are its value. Assumes nothing.
use mathlib.Core.Path.{◌≡◌, sym, ap, ◌∙◌}
use mathlib.Core.Bool.{true, not}
use mathlib.Core.List.{List}
use Prim.Native.Nat.{ℕ, ◌^◌, ◌<◌}
use native.Mathlib.Omega.{arith}
use lib.Dec.{leb, lit<}
use lib.ListN.{length}
use Rattle.std.proofs.Common.{Result, Ok}
use borrow.Author.Tests.{leb-true}
use Rattle.refusal.specs.declared.Refusal.{Refusal}
use Rattle.laws.specs.Value.{value_of}
use Rattle.laws.proofs.Number.{length_in_bytes, value_of_bytes}
use Rattle.address.specs.declared.Address.{Address}
use Rattle.address.specs.declared.Address.TheVariants.{Invalid, Callsign, Reserved, Broadcast}
use Rattle.address.specs.Callsign.{known, blank, callsign_value}
use Rattle.address.specs.Address.{address_value, writable, encoded_of}
use Rattle.address.proofs.Number.{both_true, number_lt}
use Rattle.address.proofs.RoundTrip.{accepted, accepted_bytes}
use Rattle.protocol.specs.Fields.{Place, set_field}
use Rattle.protocol.specs.Header.{header, answered, address_set_of}

value_small : (a : Address) (s : List ℕ) → length s ≡ 9 → writable a s ≡ true → address_value a s < 2 ^ 48
value_small Invalid s h w = lit< tt
value_small Callsign s h w =
    let small : callsign_value s < 40 ^ 9 = number_lt 9 s (omega arith) (both_true (known s) (not (blank s)) w).0 in
    omega arith
value_small (Reserved v) s h w = omega (arith, leb-true v 0xFFFFFFFFFFFE (both_true (leb 0xEE6B28000000 v) (leb v 0xFFFFFFFFFFFE) w).1)
value_small Broadcast s h w = lit< tt

-- a value that is written, and the value of its bytes
module _ (a : Address) (s b : List ℕ) (good : encoded_of a s ≡ Ok b) where
  pub accepted_small : address_value a s < 2 ^ 48
  accepted_small = let ok = accepted a s b good in value_small a s ok.0 ok.1

  pub accepted_value : value_of b ≡ address_value a s
  accepted_value = ap value_of (accepted_bytes a s b good) ∙ value_of_bytes 6 (address_value a s) accepted_small

  pub accepted_long : length b ≡ 6
  accepted_long = ap length (accepted_bytes a s b good) ∙ length_in_bytes 6 (address_value a s)

-- setting an address that is written
pub set_done : (p : Place) (a : Address) (cs s six : List ℕ) → Ok six ≡ encoded_of a cs → Ok (header (set_field p (value_of six) s)) ≡ address_set_of p a cs s
set_done p a cs s six e =
    ap (λ (v : ℕ). Ok (header (set_field p v s))) (accepted_value a cs six (sym e))
    ∙ ap (λ (r : Result (List ℕ) Refusal). answered r (set_field p (address_value a cs) s)) e

-- `address::encode_address` meets its contract. Assumes nothing.
use Rattle.std.proofs.Common.{◌≡◌, Bool, true, false, ℕ, List, cond, Ok, Err, refl, sym, ap, ◌∙◌, length}
use Rattle.std.proofs.lemmas.Result.{err_from_is_err_and}
use Rattle.refusal.specs.declared.Refusal.{Refusal}
use Rattle.refusal.specs.declared.Refusal.TheVariants.{BadAddress}
use Rattle.address.specs.declared.Address.{Address}
use Rattle.address.specs.Address.{address_value, writable, encoded_of}
use Rattle.address.proofs.EachKind.{write_short, write_good, write_bad}
use Rattle.laws.specs.Value.{in_bytes}
use Rattle.address.proofs.encode_address.Goals as goal

-- the value to write or the refusal, as the bytes
module _ (a : Address) (s : List ℕ) (nine : length s ≡ 9) where
  refused : (why : Refusal) → Err why ≡ cond (writable a s) (Ok (address_value a s)) (Err BadAddress) → encoded_of a s ≡ Err why
  refused why = go (writable a s) refl
    where
      go : (b : Bool) → writable a s ≡ b → Err why ≡ cond b (Ok (address_value a s)) (Err BadAddress) → encoded_of a s ≡ Err why
      go true w e = cc
      go false w e = let is : BadAddress ≡ why = cc in write_bad a s nine w ∙ ap Err is

  written : (value : ℕ) → Ok value ≡ cond (writable a s) (Ok (address_value a s)) (Err BadAddress) → encoded_of a s ≡ Ok (in_bytes 6 value)
  written value = go (writable a s) refl
    where
      go : (b : Bool) → writable a s ≡ b → Ok value ≡ cond b (Ok (address_value a s)) (Err BadAddress) → encoded_of a s ≡ Ok (in_bytes 6 value)
      go true w e = let is : address_value a s ≡ value = cc in write_good a s nine w ∙ ap (λ (v : ℕ). Ok (in_bytes 6 v)) is
      go false w e = cc

pub returns-then-station-ne9 : goal.returns-then-station-ne9
returns-then-station-ne9 c = sym (write_short c.args.station.address c.args.station.callsign.now c.if-station-ne9.true)

pub returns-in_err-value_to_write : goal.returns-in_err-value_to_write
returns-in_err-value_to_write c =
    let p = err_from_is_err_and c.from_residual.result c.from_residual.ensures.1 in
    p.1 ∙ ap Err p.2
    ∙ sym (refused c.args.station.address c.args.station.callsign.now c.if-station-ne9.false c.in_err-value_to_write.field-0.0 c.in_err-value_to_write.ensures.value)

pub returns : goal.returns
returns c =
    ap Ok c.bytes_of.ensures
    ∙ sym (written c.args.station.address c.args.station.callsign.now c.if-station-ne9.false c.in_ok-value_to_write.field-0 c.in_ok-value_to_write.ensures.value)

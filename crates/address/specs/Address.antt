-- What reading and writing an address answer. Assumes nothing.
use Rattle.std.specs.Prelude.{Bool, true, cond, not, ◌&&◌, List, ℕ, eqb, leb, length, replicate, Result, Ok, Err}
use Rattle.refusal.specs.declared.Refusal.{Refusal}
use Rattle.refusal.specs.declared.Refusal.TheVariants.{WrongLength, BadAddress}
use Rattle.address.specs.declared.Address.{Address}
use Rattle.address.specs.declared.Address.TheVariants.{Invalid, Callsign, Reserved, Broadcast}
use Rattle.address.specs.declared.Reading.{Reading}
use Rattle.laws.specs.Value.{value_of, in_bytes}
use Rattle.address.specs.Callsign.{callsign_of, known, blank, callsign_value}

-- the paper's value of an address, with a callsign's characters beside it
abbrev pub address_value : Address → List ℕ → ℕ
address_value Invalid s = 0
address_value Callsign s = callsign_value s
address_value (Reserved v) s = v
address_value Broadcast s = 0xFFFFFFFFFFFF

-- an address with no callsign beside it
abbrev pub without_callsign : Address → Reading
without_callsign a = record { address = a; callsign = replicate 9 0 }

-- the address of a value below 2^48
unfoldable pub address_of : ℕ → Reading
address_of v =
    cond (eqb v 0) (without_callsign Invalid)
    (cond (leb v 0xEE6B27FFFFFF) (record { address = Callsign; callsign = callsign_of 9 v })
    (cond (leb v 0xFFFFFFFFFFFE) (without_callsign (Reserved v))
    (without_callsign Broadcast)))

-- reading: 1 where there are not six bytes
unfoldable pub decoded_of : List ℕ → Result Reading Refusal
decoded_of s = cond (eqb (length s) 6) (Ok (address_of (value_of s))) (Err WrongLength)

-- what can be written: a callsign in the alphabet that is not all spaces, a reserved value in its range
abbrev pub writable : Address → List ℕ → Bool
writable Invalid s = true
writable Callsign s = known s && not (blank s)
writable (Reserved v) s = leb 0xEE6B28000000 v && leb v 0xFFFFFFFFFFFE
writable Broadcast s = true

-- writing: 1 where there are not nine characters, then 6 where the address cannot be written
unfoldable pub encoded_of : Address → List ℕ → Result (List ℕ) Refusal
encoded_of a s = cond (eqb (length s) 9) (cond (writable a s) (Ok (in_bytes 6 (address_value a s))) (Err BadAddress)) (Err WrongLength)

-- What the functions of a header answer. Assumes nothing.
use Rattle.std.specs.Prelude.{cond, ◌&&◌, List, ℕ, eqb, leb, length, replicate, Result, Ok, Err}
use Rattle.std.specs.Result.{result_and}
use Rattle.refusal.specs.Number.{made_of}
use Rattle.refusal.specs.declared.Refusal.{Refusal}
use Rattle.refusal.specs.declared.Refusal.TheVariants.{WrongLength, OutOfRange}
use Rattle.address.specs.declared.Address.{Address}
use Rattle.address.specs.Address.{address_value, encoded_of}
use Rattle.protocol.specs.declared.Mode.{Mode}
use Rattle.protocol.specs.declared.DataType.{DataType}
use Rattle.protocol.specs.declared.LsfFrame.{LsfFrame}
use Rattle.protocol.specs.Numbers.{mode_number, data_number}
use Rattle.protocol.specs.Fields.{Place, destination_bytes, source_bytes, mode_bits, data_bits, encryption_bits, channel_bits, set_field}

-- the header of 30 bytes
abbrev pub header : List ℕ → LsfFrame
header s = record { bytes = s }

-- from plain bytes: 1 where there are not thirty
abbrev pub from_of : List ℕ → Result LsfFrame Refusal
from_of s = cond (eqb (length s) 30) (Ok (header s)) (Err WrongLength)

-- where nothing was refused, the header; else the refusal
abbrev pub answered : Result (List ℕ) Refusal → List ℕ → Result LsfFrame Refusal
answered r s = made_of (λ _. header s) r

-- an address set: 1 and 6 as for writing it
abbrev pub address_set_of : Place → Address → List ℕ → List ℕ → Result LsfFrame Refusal
address_set_of p a cs s = answered (encoded_of a cs) (set_field p (address_value a cs) s)

-- a channel access number set: 2 where it is over 15
abbrev pub channel_set_of : ℕ → List ℕ → Result LsfFrame Refusal
channel_set_of n s = cond (leb n 15) (Ok (header (set_field channel_bits n s))) (Err OutOfRange)

-- a header from nothing: 1 before 6, the source before the destination
abbrev pub new_said : Address → List ℕ → Address → List ℕ → Result (List ℕ) Refusal
new_said a s b t = cond (eqb (length s) 9 && eqb (length t) 9) (result_and (encoded_of a s) (encoded_of b t)) (Err WrongLength)

-- all zero but for the addresses, the mode and the data type
unfoldable pub new_bytes : Mode → DataType → Address → List ℕ → Address → List ℕ → List ℕ
new_bytes m d a s b t =
    set_field encryption_bits 0
    (set_field data_bits (data_number d)
    (set_field mode_bits (mode_number m)
    (set_field destination_bytes (address_value b t) (set_field source_bytes (address_value a s) (replicate 30 0)))))

abbrev pub new_of : Mode → DataType → Address → List ℕ → Address → List ℕ → Result LsfFrame Refusal
new_of m d a s b t = answered (new_said a s b t) (new_bytes m d a s b t)

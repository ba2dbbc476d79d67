-- A header for C: a buffer of 30 bytes, its type fields and addresses as numbers. Assumes nothing.
use Rattle.std.specs.Prelude.{cond, List, ℕ, ltb, take, drop, Result, Ok, Err}
use Rattle.std.specs.Borrow.{Bor}
use Rattle.laws.specs.Value.{value_of}
use Rattle.refusal.specs.declared.Refusal.{Refusal}
use Rattle.refusal.specs.declared.Refusal.TheVariants.{OutOfRange}
use Rattle.refusal.specs.Number.{made_of}
use Rattle.address.specs.declared.Reading.{Reading}
use Rattle.address.specs.declared.Station.{Station}
use Rattle.address.specs.Address.{address_of}
use Rattle.protocol.specs.declared.LsfFrame.{LsfFrame}
use Rattle.protocol.specs.declared.Mode.{Mode}
use Rattle.protocol.specs.declared.DataType.{DataType}
use Rattle.protocol.specs.Fields.{Place, set_field}
use Rattle.protocol.specs.Header.{address_set_of, new_of}
use Rattle.m17.specs.Given.{of_length, and_then}
use Rattle.m17.specs.Addresses.{address_for, with_station}

-- what is read of a header: 1 where there are not thirty bytes
abbrev pub of_header : {A : Type 0} → List ℕ → A → Result A Refusal
of_header s x = of_length 30 s (Ok x)

-- the address in the six bytes from byte a on
abbrev pub address_at : ℕ → List ℕ → Result Reading Refusal
address_at a s = of_header s (address_of (value_of (take 6 (drop a s))))

-- the bytes of a header that is answered
abbrev pub header_bytes : Result LsfFrame Refusal → Result (List ℕ) Refusal
header_bytes r = made_of (λ frame. frame.bytes) r

-- ---- thirty bytes with one field written

-- a number n: 2 where it is over m
abbrev pub with_number : ℕ → Place → ℕ → List ℕ → Result (List ℕ) Refusal
with_number m p n s = cond (ltb m n) (Err OutOfRange) (Ok (set_field p n s))

-- the address of a kind and its value
abbrev pub with_address : Place → ℕ → ℕ → List ℕ → List ℕ → Result (List ℕ) Refusal
with_address p k v cs s = with_station k v cs (λ a. header_bytes (address_set_of p a cs s))

-- ---- a header from nothing: the source's kind, value and characters, then the destination's

-- 1 where either has not nine characters, then 2 where either kind is over 3
abbrev pub stations_for : ℕ → ℕ → Bor (List ℕ) → ℕ → ℕ → Bor (List ℕ) → Result (Station × Station) Refusal
stations_for j u s k v t =
    of_length 9 s.now (of_length 9 t.now (and_then (address_for j u) (λ a. and_then (address_for k v) (λ b. Ok (record { address = a; callsign = s }, record { address = b; callsign = t })))))

-- the same, then as writing both has it
unfoldable pub new_for : Mode → DataType → ℕ → ℕ → List ℕ → ℕ → ℕ → List ℕ → Result (List ℕ) Refusal
new_for m d j u s k v t =
    of_length 9 s (of_length 9 t
    (and_then (address_for j u) (λ a. and_then (address_for k v) (λ b. header_bytes (new_of m d a s b t)))))

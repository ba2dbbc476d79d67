-- An address as numbers: 0 invalid, 1 callsign, 2 reserved with its value, 3 broadcast; a kind over 3 is refused with 2. Assumes nothing.
use Rattle.std.specs.Prelude.{cond, List, ℕ, eqb, Result, Ok, Err}
use Rattle.std.specs.Borrow.{Bor}
use Rattle.refusal.specs.declared.Refusal.{Refusal}
use Rattle.refusal.specs.declared.Refusal.TheVariants.{OutOfRange}
use Rattle.refusal.specs.Number.{made_of}
use Rattle.address.specs.declared.Address.{Address}
use Rattle.address.specs.declared.Address.TheVariants.{Invalid, Callsign, Reserved, Broadcast}
use Rattle.address.specs.declared.Reading.{Reading}
use Rattle.address.specs.declared.Station.{Station}
use Rattle.address.specs.Address.{encoded_of}
use Rattle.m17.specs.Given.{of_length, and_then, Lent}

abbrev pub address_kind : Address → ℕ
address_kind Invalid = 0
address_kind Callsign = 1
address_kind (Reserved v) = 2
address_kind Broadcast = 3

-- the value of a reserved address, else 0
abbrev pub reserved_of : Address → ℕ
reserved_of Invalid = 0
reserved_of Callsign = 0
reserved_of (Reserved v) = v
reserved_of Broadcast = 0

abbrev pub address_for : ℕ → ℕ → Result Address Refusal
address_for k v =
    cond (eqb k 0) (Ok Invalid) (cond (eqb k 1) (Ok Callsign) (cond (eqb k 2) (Ok (Reserved v)) (cond (eqb k 3) (Ok Broadcast) (Err OutOfRange))))

-- writing: 1 where there are not nine characters, then 2 for a kind over 3, then as f has it
abbrev pub with_station : {A : Type 0} → ℕ → ℕ → List ℕ → (Address → Result A Refusal) → Result A Refusal
with_station k v s f = of_length 9 s (and_then (address_for k v) f)

abbrev pub station_for : ℕ → ℕ → Bor (List ℕ) → Result Station Refusal
station_for k v s = with_station k v s.now (λ a. Ok (record { address = a; callsign = s }))

unfoldable pub address_written_of : ℕ → ℕ → List ℕ → Result (List ℕ) Refusal
address_written_of k v s = with_station k v s (λ a. encoded_of a s)

-- ---- memory lent for an address that is read: its kind, its value, and nine characters. 1 where these have another length, before anything else

pub record AddressMemory : Type 0 where
  pub kind : ℕ
  pub value : ℕ
  pub callsign : List ℕ

abbrev pub address_memory : ℕ → ℕ → List ℕ → AddressMemory
address_memory k v s = record { kind = k; value = v; callsign = s }

abbrev pub reading_memory : Reading → AddressMemory
reading_memory r = address_memory (address_kind r.address) (reserved_of r.address) r.callsign

-- r is what the call says, and n the memory after it
abbrev pub AddressLent : Result Reading Refusal → AddressMemory → ℕ → AddressMemory → Type 0
AddressLent read m r n = Lent (of_length 9 m.callsign (made_of reading_memory read)) m r n

-- Gathered LICH parts for C: 30 bytes, and a byte for each of six flags. Assumes nothing.
use Rattle.std.specs.Prelude.{Bool, List, map, ℕ, Option, Result, Ok}
use Rattle.refusal.specs.declared.Refusal.{Refusal}
use Rattle.refusal.specs.Number.{made_of}
use Rattle.bits.specs.Bits.{bit}
use Rattle.bits.specs.Places.{flag}
use Rattle.protocol.specs.declared.LichCollection.{LichCollection}
use Rattle.protocol.specs.Lich.{part_said, with_part, assembled_of}
use Rattle.m17.specs.Given.{of_length, and_then}

-- a flag that is not 0 says that its part is set
abbrev pub flagged : List ℕ → List Bool
flagged s = map flag s

-- each is written: 1 where a part is set, 0 where it is not
abbrev pub flag_bytes : List Bool → List ℕ
flag_bytes l = map bit l

-- 1 where there are not six flags
abbrev pub flags_for : List ℕ → Result (List Bool) Refusal
flags_for flags = of_length 6 flags (Ok (flagged flags))

-- 1 where there are not thirty bytes of parts or not six flags
abbrev pub collection_for : List ℕ → List ℕ → Result LichCollection Refusal
collection_for parts flags = of_length 30 parts (made_of (λ set. record { bytes = parts; set = set }) (flags_for flags))

-- the collection with part c set in it: then as setting it has it
abbrev pub set_for : ℕ → List ℕ → List ℕ → List ℕ → Result LichCollection Refusal
set_for c part parts flags = and_then (collection_for parts flags) (λ l. made_of (λ _. with_part c part l) (part_said c part))

-- the header or "not yet", and 1 where there are not thirty bytes lent for it
abbrev pub assembled_for : List ℕ → List ℕ → List ℕ → Result (Option (List ℕ)) Refusal
assembled_for parts flags out = and_then (collection_for parts flags) (λ l. of_length 30 out (Ok (assembled_of l)))

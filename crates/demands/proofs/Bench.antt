-- The readings on the bench that the document marks with a star, computed from the definitions: one list, held to the values that the
-- document gives, and with them a packet of three bytes and a header whose CRC is zero, so that what is said of those speaks of something.
-- Assumes nothing.
use mathlib.Core.Path.{◌≡◌, refl}
use mathlib.Core.List.{List, [], ◌∷◌, ◌++◌}
use Prim.Native.Nat.{ℕ, ◌-◌, ◌^◌}
use lib.Count.{ones_in}
use lib.ListN.{replicate}
use Rattle.laws.specs.Division.{reduce, rem}
use Rattle.laws.specs.Value.{value_of, in_bytes}
use Rattle.std.specs.Prelude.{Result, Ok, Err}
use Rattle.std.specs.Result.{result_unwrap_or}
use Rattle.refusal.specs.Number.{number_of}
use Rattle.refusal.specs.declared.Refusal.{Refusal}
use Rattle.crc.specs.Crc.{crc_from, crc}
use Rattle.interleave.specs.Interleave.{mapped}
use Rattle.address.specs.declared.Address.TheVariants.{Invalid, Callsign, Reserved, Broadcast}
use Rattle.address.specs.declared.Address.{Address}
use Rattle.address.specs.declared.Reading.{Reading}
use Rattle.address.specs.Callsign.{alphabet, character, callsign_of, upper, place_in, digit_of, known, blank, callsign_value}
use Rattle.address.specs.Address.{encoded_of, decoded_of, address_of}
use Rattle.golay.specs.Golay.{golay}
use Rattle.fec.specs.declared.Kind.TheVariants.{Header, Stream, Packet}
use Rattle.fec.specs.Code.{sends, coded, code}
use Rattle.fec.specs.Kinds as coding
use Rattle.bits.specs.Bits.{bits_of, bytes_of}

-- an address as numbers: 0 invalid, 1 callsign, 2 reserved with its value, 3 broadcast
abbrev kind_and_value : Address → List ℕ
kind_and_value Invalid = 0 ∷ []
kind_and_value Callsign = 1 ∷ []
kind_and_value (Reserved v) = 2 ∷ v ∷ []
kind_and_value Broadcast = 3 ∷ []

-- and 4 with the number of a refusal
abbrev spoken : Result Reading Refusal → List ℕ
spoken (Ok r) = kind_and_value r.address
spoken (Err why) = 4 ∷ number_of why ∷ []

-- the nine characters beside it
abbrev characters : Result Reading Refusal → List ℕ
characters (Ok r) = r.callsign
characters (Err why) = []

-- the bytes of an answer
abbrev bytes_in : Result (List ℕ) Refusal → List ℕ
bytes_in r = result_unwrap_or r []

unfoldable pub computed : List (List ℕ)
computed =
    (crc [] ∷ crc (65 ∷ []) ∷ crc (49 ∷ 50 ∷ 51 ∷ 52 ∷ 53 ∷ 54 ∷ 55 ∷ 56 ∷ 57 ∷ []) ∷ [])
    ∷ bytes_in (encoded_of Callsign (65 ∷ 66 ∷ 49 ∷ 67 ∷ 68 ∷ 32 ∷ 32 ∷ 32 ∷ 32 ∷ []))
    ∷ characters (decoded_of (0x00 ∷ 0x00 ∷ 0x00 ∷ 0x9F ∷ 0xDD ∷ 0x51 ∷ []))
    ∷ spoken (decoded_of (in_bytes 6 (40 ^ 9 - 1)))
    ∷ spoken (decoded_of (in_bytes 6 (40 ^ 9)))
    ∷ (golay 0 ∷ golay 1 ∷ [])
    ∷ (mapped 1 ∷ mapped 137 ∷ [])
    ∷ bytes_in (coding.encoded_of Header (0x80 ∷ replicate 29 0))
    ∷ bytes_in (coding.encoded_of Stream (0x80 ∷ replicate 17 0))
    ∷ bytes_in (coding.encoded_of Packet (0x80 ∷ replicate 25 0))
    ∷ (crc (65 ∷ 0x20 ∷ 0x6E ∷ []) ∷ crc (replicate 28 0 ++ (0x95 ∷ 0xE0 ∷ [])) ∷ [])
    ∷ []

unfoldable pub given : List (List ℕ)
given =
    (0xFFFF ∷ 0x206E ∷ 0x772B ∷ [])
    ∷ (0x00 ∷ 0x00 ∷ 0x00 ∷ 0x9F ∷ 0xDD ∷ 0x51 ∷ [])
    ∷ (65 ∷ 66 ∷ 49 ∷ 67 ∷ 68 ∷ 32 ∷ 32 ∷ 32 ∷ 32 ∷ [])
    ∷ (1 ∷ [])
    ∷ (2 ∷ 0xEE6B28000000 ∷ [])
    ∷ (0 ∷ 0x0018EB ∷ [])
    ∷ (137 ∷ 1 ∷ [])
    ∷ (0xEB ∷ replicate 45 0)
    ∷ (0xD6 ∷ 0xC0 ∷ replicate 44 0)
    ∷ (0xD7 ∷ 0x80 ∷ replicate 44 0)
    ∷ (0 ∷ 0 ∷ [])
    ∷ []

pub bench : computed ≡ given
unfolding computed given crc crc_from rem reduce value_of in_bytes encoded_of decoded_of address_of callsign_of character known blank callsign_value digit_of place_in alphabet upper golay ones_in mapped coding.encoded_of coding.coded_of bits_of bytes_of sends coded code
bench = refl

-- The numbers of the type field, and what each says. Assumes nothing.
use Rattle.std.specs.Prelude.{◌≡◌, [], ◌∷◌, ℕ, ◌<◌, get_or, Result, MatchResult}
use Rattle.refusal.specs.declared.Refusal.{Refusal}
use Rattle.refusal.specs.declared.Refusal.TheVariants.{OutOfRange}
use Rattle.protocol.specs.declared.Mode.{Mode}
use Rattle.protocol.specs.declared.Mode.TheVariants.{Packet, Stream}
use Rattle.protocol.specs.declared.DataType.{DataType}
use Rattle.protocol.specs.declared.DataType.TheVariants.{Reserved, Data, Voice, VoiceAndData}
use Rattle.protocol.specs.declared.EncryptionType.{EncryptionType}
use Rattle.protocol.specs.declared.EncryptionType.TheVariants.{None, Scrambler, Aes, Other}

-- type bit 0: set is stream
abbrev pub mode_number : Mode → ℕ
mode_number Packet = 0
mode_number Stream = 1

abbrev pub mode_of : ℕ → Mode
mode_of n = get_or (Packet ∷ []) n Stream

-- the mode of a number; 2 for a number over 1
abbrev pub ModeOf : ℕ → Result Mode Refusal → Type 0
ModeOf n r = MatchResult r (λ mode. mode_number mode ≡ n) (λ why. (why ≡ OutOfRange) × (1 < n))

-- type bits 1 and 2
abbrev pub data_number : DataType → ℕ
data_number Reserved = 0
data_number Data = 1
data_number Voice = 2
data_number VoiceAndData = 3

abbrev pub data_of : ℕ → DataType
data_of n = get_or (Reserved ∷ Data ∷ Voice ∷ []) n VoiceAndData

-- the data type of a number; 2 for a number over 3
abbrev pub DataOf : ℕ → Result DataType Refusal → Type 0
DataOf n r = MatchResult r (λ data_type. data_number data_type ≡ n) (λ why. (why ≡ OutOfRange) × (3 < n))

-- type bits 3 and 4
abbrev pub encryption_number : EncryptionType → ℕ
encryption_number None = 0
encryption_number Scrambler = 1
encryption_number Aes = 2
encryption_number Other = 3

abbrev pub encryption_of : ℕ → EncryptionType
encryption_of n = get_or (None ∷ Scrambler ∷ Aes ∷ []) n Other

-- the encryption of a number; 2 for a number over 3
abbrev pub EncryptionOf : ℕ → Result EncryptionType Refusal → Type 0
EncryptionOf n r = MatchResult r (λ encryption. encryption_number encryption ≡ n) (λ why. (why ≡ OutOfRange) × (3 < n))

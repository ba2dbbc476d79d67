-- When each body is answered, and when it is refused and with what, over all words. Assumes nothing.
use Rattle.std.specs.Prelude.{◌≡◌, ◌⊎◌, List, [], ◌∷◌, ℕ, ◌+◌, ◌*◌, ◌^◌, ◌≤◌, ◌<◌, length, take, drop, Ok, Err}
use Rattle.refusal.specs.Number.{said_of}
use Rattle.refusal.specs.declared.Refusal.TheVariants.{WrongLength, TooFar, BadGolay}
use Rattle.golay.specs.Golay.{golay, apart}
use Rattle.fec.specs.declared.Kind.TheVariants.{Header, Stream, Packet}
use Rattle.protocol.specs.declared.StreamFrame.{StreamFrame}
use Rattle.fec.specs.When.{Near, Far}
use Rattle.protocol.specs.Header.{header}
use Rattle.decode.specs.Lich.{lich_from, word_at, lich_read_of}
use Rattle.decode.specs.Bodies.{unmasked, lsf_read_of, stream_from, stream_read_of, packet_from, packet_read_of}

-- n is one of these numbers
abbrev pub OneOf : ℕ → List ℕ → Type 0
OneOf n [] = ⊥
OneOf n (x ∷ l) = (n ≡ x) ⊎ OneOf n l

-- ---- the four words of a LICH

module _ (s : List ℕ) where
  -- the four values whose codewords are within three flips of the words
  pub record Words (v : ℕ) : Type 0 where
    pub value : ℕ → ℕ
    pub small : (j : ℕ) → j < 4 → value j < 4096
    pub close : (j : ℕ) → j < 4 → apart (golay (value j)) (word_at s j) ≤ 3
    pub joined : value 0 * 2 ^ 36 + value 1 * 2 ^ 24 + value 2 * 2 ^ 12 + value 3 ≡ v

  -- a word that is within three flips of no codeword
  pub record Lost : Type 0 where
    pub place : ℕ
    pub within : place < 4
    pub none : (d : ℕ) → d < 4096 → apart (golay d) (word_at s place) ≤ 3 → ⊥

  pub record LichWhen : Type 0 where
    -- the counter and the part exactly when each word is within three flips of a codeword
    pub answered : said_of (lich_read_of s) ≡ 0 → (v : ℕ) × (length s ≡ 12) × Words v × (lich_read_of s ≡ Ok (lich_from v))
    pub near : (v : ℕ) → length s ≡ 12 → Words v → lich_read_of s ≡ Ok (lich_from v)
    -- 4 exactly when a word is lost
    pub refused : said_of (lich_read_of s) ≡ 4 → (length s ≡ 12) × Lost
    pub lost : length s ≡ 12 → Lost → lich_read_of s ≡ Err BadGolay
    -- 1 exactly where there are not twelve bytes
    pub wrong : said_of (lich_read_of s) ≡ 1 → length s ≡ 12 → ⊥
    pub short : (length s ≡ 12 → ⊥) → lich_read_of s ≡ Err WrongLength
    pub only : OneOf (said_of (lich_read_of s)) (0 ∷ 1 ∷ 4 ∷ [])

-- ---- header

module _ (body : List ℕ) where
  pub record LsfWhen : Type 0 where
    -- the bytes of the nearest word exactly when it is within the limit
    pub answered : (h : List ℕ) → lsf_read_of body ≡ Ok (header h) → (length body ≡ 46) × Near Header (unmasked body) h
    pub near : (h : List ℕ) → length body ≡ 46 → Near Header (unmasked body) h → lsf_read_of body ≡ Ok (header h)
    -- 3 exactly when every word is farther
    pub refused : said_of (lsf_read_of body) ≡ 3 → (length body ≡ 46) × Far Header (unmasked body)
    pub far : length body ≡ 46 → Far Header (unmasked body) → lsf_read_of body ≡ Err TooFar
    -- 1 exactly where there are not 46 bytes
    pub wrong : said_of (lsf_read_of body) ≡ 1 → length body ≡ 46 → ⊥
    pub short : (length body ≡ 46 → ⊥) → lsf_read_of body ≡ Err WrongLength
    pub only : OneOf (said_of (lsf_read_of body)) (0 ∷ 1 ∷ 3 ∷ [])

-- ---- packet

module _ (body : List ℕ) where
  pub record PacketWhen : Type 0 where
    -- the fields of the nearest word exactly when it is within the limit
    pub answered : said_of (packet_read_of body) ≡ 0 → (b : List ℕ) × (length body ≡ 46) × Near Packet (unmasked body) b × (packet_read_of body ≡ Ok (packet_from b))
    pub near : (b : List ℕ) → length body ≡ 46 → Near Packet (unmasked body) b → packet_read_of body ≡ Ok (packet_from b)
    -- 3 exactly when every word is farther
    pub refused : said_of (packet_read_of body) ≡ 3 → (length body ≡ 46) × Far Packet (unmasked body)
    pub far : length body ≡ 46 → Far Packet (unmasked body) → packet_read_of body ≡ Err TooFar
    -- 1 exactly where there are not 46 bytes
    pub wrong : said_of (packet_read_of body) ≡ 1 → length body ≡ 46 → ⊥
    pub short : (length body ≡ 46 → ⊥) → packet_read_of body ≡ Err WrongLength
    pub only : OneOf (said_of (packet_read_of body)) (0 ∷ 1 ∷ 3 ∷ [])

-- ---- stream

-- what is answered of the four values joined and the bytes of the nearest word
abbrev pub stream_at : ℕ → List ℕ → StreamFrame
stream_at v b = stream_from (lich_from v) b

module _ (body : List ℕ) where
  -- the LICH bytes, and the coded bytes after them
  abbrev pub lich_in : List ℕ
  lich_in = take 12 (unmasked body)

  abbrev pub code_in : List ℕ
  code_in = drop 12 (unmasked body)

  pub record StreamWhen : Type 0 where
    -- the fields exactly when the nearest word is within the limit and each Golay word within three flips
    pub answered : said_of (stream_read_of body) ≡ 0 → (b : List ℕ) × (v : ℕ) × (length body ≡ 46) × Near Stream code_in b × Words lich_in v × (stream_read_of body ≡ Ok (stream_at v b))
    pub near : (b : List ℕ) (v : ℕ) → length body ≡ 46 → Near Stream code_in b → Words lich_in v → stream_read_of body ≡ Ok (stream_at v b)
    -- 3 exactly when every word is farther, whatever the LICH
    pub refused : said_of (stream_read_of body) ≡ 3 → (length body ≡ 46) × Far Stream code_in
    pub far : length body ≡ 46 → Far Stream code_in → stream_read_of body ≡ Err TooFar
    -- 4 exactly when the nearest word is within the limit and a Golay word is lost
    pub unread : said_of (stream_read_of body) ≡ 4 → (b : List ℕ) × (length body ≡ 46) × Near Stream code_in b × Lost lich_in
    pub lost : (b : List ℕ) → length body ≡ 46 → Near Stream code_in b → Lost lich_in → stream_read_of body ≡ Err BadGolay
    -- 1 exactly where there are not 46 bytes
    pub wrong : said_of (stream_read_of body) ≡ 1 → length body ≡ 46 → ⊥
    pub short : (length body ≡ 46 → ⊥) → stream_read_of body ≡ Err WrongLength
    pub only : OneOf (said_of (stream_read_of body)) (0 ∷ 1 ∷ 3 ∷ 4 ∷ [])

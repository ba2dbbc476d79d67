-- Demand 1, the refusals: entry by entry, which numbers are given and exactly when, that a refusal carries no data, and that what was lent is
-- then as it was. The receiver's numbers at a slot are in `EachSlot`. Assumes nothing.
use Rattle.std.specs.Prelude.{◌≡◌, ◌↔◌, Bool, true, false, List, [], ◌∷◌, ℕ, ◌*◌, ◌^◌, ◌≤◌, ◌<◌, Float, length, Result, Ok, Err}
use Rattle.laws.specs.Value.{Bytes}
use Rattle.refusal.specs.Number.{number_of, said_of}
use Rattle.refusal.specs.declared.Refusal.{Refusal}
use Rattle.refusal.specs.declared.Refusal.TheVariants.{WrongLength, OutOfRange, TooFar, BadGolay, BadHeader, BadAddress, UnknownSync, OutOfTurn, BadFinal, TooShort, BadPacket, BadState}
use Rattle.bits.specs.Places as bits
use Rattle.interleave.specs.Interleave.{interleaved_of}
use Rattle.address.specs.declared.Address.{Address}
use Rattle.address.specs.Address as address
use Rattle.address.specs.When.{ReadExactly, WrittenExactly}
use Rattle.golay.specs.Golay as golay
use Rattle.golay.specs.When.{Reads}
use Rattle.fec.specs.declared.Kind.{Kind}
use Rattle.fec.specs.Kinds as fec
use Rattle.fec.specs.Kinds.{data_bytes, coded_bytes}
use Rattle.fec.specs.When.{Near, Far}
use Rattle.protocol.specs.declared.Mode.{Mode}
use Rattle.protocol.specs.declared.DataType.{DataType}
use Rattle.protocol.specs.declared.LichCollection.{LichCollection}
use Rattle.protocol.specs.declared.LsfFrame.{LsfFrame}
use Rattle.protocol.specs.declared.StreamFrame.{StreamFrame}
use Rattle.protocol.specs.declared.PacketFrame.{PacketFrame}
use Rattle.protocol.specs.declared.PacketFrameCounter.{PacketFrameCounter}
use Rattle.protocol.specs.Fields.{Place}
use Rattle.protocol.specs.Header.{from_of, address_set_of, channel_set_of, new_of}
use Rattle.protocol.specs.Lich.{part_said, after_set}
use Rattle.protocol.specs.When.{FromExactly, ChannelExactly, NewExactly, PartExactly}
use Rattle.encode.specs.Lich.{lich_of}
use Rattle.encode.specs.Bodies.{lsf_body_of, stream_body_of, packet_body_of}
use Rattle.encode.specs.Symbols.{body_symbols_of, lsf_symbols_of, stream_symbols_of, packet_symbols_of}
use Rattle.encode.specs.When.{StreamExactly, PacketExactly, BodyExactly}
use Rattle.decode.specs.Bodies.{lsf_read_of, stream_read_of, packet_read_of}
use Rattle.decode.specs.Symbols.{body_from, body_read_of, initial_of, lsf_parsed_of, stream_parsed_of, packet_parsed_of}
use Rattle.decode.specs.When.{OneOf, LichWhen, LsfWhen, StreamWhen, PacketWhen}
use Rattle.automaton.specs.Seen.{unread}
use Rattle.receiver.specs.declared.Receiver.{Receiver}
use Rattle.receiver.specs.See.{see}
use Rattle.receiver.specs.Receiver.{within, fits, received_of, memory_of}

-- n is the number of an answer that asks for nothing but a length
abbrev pub ByLength : ℕ → ℕ → ℕ → Type 0
ByLength long asked n = ((long ≡ asked → ⊥) → n ≡ 1) × (long ≡ asked → n ≡ 0)

-- A refusal carries no data: where the answer is one, it is no answer of anything. The type leaves no room for data beside it.
abbrev pub NoData : {A : Type 0} → Result A Refusal → Type 0
NoData {A} r = (x : A) (why : Refusal) → r ≡ Err why → r ≡ Ok x → ⊥

pub record Demand1 : Type 0 where
  -- document 01's twelve numbers
  pub the_numbers : (number_of WrongLength ≡ 1) × (number_of OutOfRange ≡ 2) × (number_of TooFar ≡ 3) × (number_of BadGolay ≡ 4)
      × (number_of BadHeader ≡ 5) × (number_of BadAddress ≡ 6) × (number_of UnknownSync ≡ 7) × (number_of OutOfTurn ≡ 8)
      × (number_of BadFinal ≡ 9) × (number_of TooShort ≡ 10) × (number_of BadPacket ≡ 11) × (number_of BadState ≡ 12)
  -- no two refusals have one number
  pub numbers_differ : (a b : Refusal) → number_of a ≡ number_of b → a ≡ b
  -- a bit place, read or written: 2 past its bytes, which are then as they were
  pub bit_read_2 : (s : List ℕ) (i : ℕ) → 8 * length s ≤ i → said_of (bits.get_of s i) ≡ 2
  pub bit_read : (s : List ℕ) (i : ℕ) → i < 8 * length s → said_of (bits.get_of s i) ≡ 0
  pub bit_set_2 : (s : List ℕ) (i : ℕ) → 8 * length s ≤ i → said_of (bits.set_of s i) ≡ 2
  pub bit_set : (s : List ℕ) (i : ℕ) → i < 8 * length s → said_of (bits.set_of s i) ≡ 0
  pub bit_untouched : (s : List ℕ) (i v : ℕ) → Bytes s → 8 * length s ≤ i → bits.with_bit s i v ≡ s
  -- interleaving: 1
  pub interleave : (s : List ℕ) → ByLength (length s) 46 (said_of (interleaved_of s))
  pub interleave_none : (s : List ℕ) → NoData (interleaved_of s)
  -- addresses: 1 where one is read, 1 and then 6 where one is written
  pub address_read : (s : List ℕ) → ReadExactly s (said_of (address.decoded_of s))
  pub address_written : (a : Address) (s : List ℕ) → WrittenExactly a s (said_of (address.encoded_of a s))
  pub address_read_none : (s : List ℕ) → NoData (address.decoded_of s)
  pub address_written_none : (a : Address) (s : List ℕ) → NoData (address.encoded_of a s)
  -- a Golay word: 4 where no codeword is within three flips, and for more than 24 bits; writing one, 2 for more than 12
  pub golay_read : (w : ℕ) → w < 2 ^ 24 → Reads w
  pub golay_over : (w : ℕ) → 2 ^ 24 ≤ w → golay.decoded_of w ≡ Err BadGolay
  pub golay_written_2 : (d : ℕ) → 4096 ≤ d → said_of (golay.encoded_of d) ≡ 2
  pub golay_written : (d : ℕ) → d < 4096 → golay.encoded_of d ≡ Ok (golay.golay d)
  -- the code: 1 where bits are coded, 1 and then 3 where they are read
  pub coded : (k : Kind) (d : List ℕ) → ByLength (length d) (data_bytes k) (said_of (fec.encoded_of k d))
  pub coded_none : (k : Kind) (d : List ℕ) → NoData (fec.encoded_of k d)
  pub uncoded_1 : (k : Kind) (rx : List ℕ) → (fec.decoded_of k rx ≡ Err WrongLength) ↔ (length rx ≡ coded_bytes k → ⊥)
  pub uncoded_3 : (k : Kind) (rx : List ℕ) → (fec.decoded_of k rx ≡ Err TooFar) ↔ Far k rx
  pub uncoded : (k : Kind) (rx b : List ℕ) → (fec.decoded_of k rx ≡ Ok b) ↔ Near k rx b
  pub uncoded_only : (k : Kind) (rx : List ℕ) → OneOf (said_of (fec.decoded_of k rx)) (0 ∷ 1 ∷ 3 ∷ [])
  -- a header: 1 from bytes; 2 for a channel access number; 1 and then 6 for its addresses, set or new
  pub header_from : (s : List ℕ) → FromExactly s (said_of (from_of s))
  pub channel_set : (c : ℕ) (s : List ℕ) → ChannelExactly c (said_of (channel_set_of c s))
  pub address_set : (p : Place) (a : Address) (cs s : List ℕ) → WrittenExactly a cs (said_of (address_set_of p a cs s))
  pub header_new : (m : Mode) (d : DataType) (a : Address) (s : List ℕ) (b : Address) (t : List ℕ) → NewExactly a s b t (said_of (new_of m d a s b t))
  pub header_from_none : (s : List ℕ) → NoData (from_of s)
  pub channel_none : (c : ℕ) (s : List ℕ) → NoData (channel_set_of c s)
  pub address_set_none : (p : Place) (a : Address) (cs s : List ℕ) → NoData (address_set_of p a cs s)
  pub header_new_none : (m : Mode) (d : DataType) (a : Address) (s : List ℕ) (b : Address) (t : List ℕ) → NoData (new_of m d a s b t)
  -- a part set in a collection: 1, then 2; the collection is then as it was
  pub part_set : (c : ℕ) (part : List ℕ) → PartExactly c part (said_of (part_said c part))
  pub part_untouched : (c : ℕ) (part : List ℕ) (l : LichCollection) (why : Refusal) → part_said c part ≡ Err why → after_set c part l ≡ l
  -- a LICH and bodies written: 1, then 2
  pub lich_written : (c : ℕ) (part : List ℕ) → PartExactly c part (said_of (lich_of c part))
  pub header_written : (s : List ℕ) → FromExactly s (said_of (lsf_body_of s))
  pub stream_written : (i : ℕ) (part : List ℕ) (f : ℕ) (end : Bool) (s : List ℕ) → StreamExactly i part f s (said_of (stream_body_of i part f end s))
  pub packet_written : (c : PacketFrameCounter) (s : List ℕ) → PacketExactly c s (said_of (packet_body_of c s))
  pub lich_none : (c : ℕ) (part : List ℕ) → NoData (lich_of c part)
  pub header_written_none : (s : List ℕ) → NoData (lsf_body_of s)
  pub stream_written_none : (i : ℕ) (part : List ℕ) (f : ℕ) (end : Bool) (s : List ℕ) → NoData (stream_body_of i part f end s)
  pub packet_written_none : (c : PacketFrameCounter) (s : List ℕ) → NoData (packet_body_of c s)
  -- symbols written: as the body is
  pub body_sent : (k : Kind) (body : List ℕ) → BodyExactly body (said_of (body_symbols_of k body))
  pub header_sent : (f : LsfFrame) → FromExactly f.bytes (said_of (lsf_symbols_of f))
  pub stream_sent : (f : StreamFrame) → StreamExactly f.lich_idx f.lich_part f.frame_number f.stream_data (said_of (stream_symbols_of f))
  pub packet_sent : (f : PacketFrame) → PacketExactly f.counter f.payload (said_of (packet_symbols_of f))
  pub body_sent_none : (k : Kind) (body : List ℕ) → NoData (body_symbols_of k body)
  pub header_sent_none : (f : LsfFrame) → NoData (lsf_symbols_of f)
  pub stream_sent_none : (f : StreamFrame) → NoData (stream_symbols_of f)
  pub packet_sent_none : (f : PacketFrame) → NoData (packet_symbols_of f)
  -- a LICH and bodies read: 1, then 3, then 4
  pub lich_read : (s : List ℕ) → Bytes s → LichWhen s
  pub header_read : (body : List ℕ) → LsfWhen body
  pub stream_read : (body : List ℕ) → StreamWhen body
  pub packet_read : (body : List ℕ) → PacketWhen body
  -- symbols read: 1 for other than 192, then as the body that they say
  pub body_parsed : (xs : List Float) → ByLength (length xs) 192 (said_of (body_read_of xs))
  pub body_parsed_none : (xs : List Float) → NoData (body_read_of xs)
  pub body_initial_none : (xs : List Float) → NoData (initial_of xs)
  pub body_initial : (xs : List Float) → ByLength (length xs) 192 (said_of (initial_of xs))
  pub header_parsed_1 : (xs : List Float) → (length xs ≡ 192 → ⊥) → lsf_parsed_of xs ≡ Err WrongLength
  pub header_parsed : (xs : List Float) → length xs ≡ 192 → lsf_parsed_of xs ≡ lsf_read_of (body_from xs)
  pub stream_parsed_1 : (xs : List Float) → (length xs ≡ 192 → ⊥) → stream_parsed_of xs ≡ Err WrongLength
  pub stream_parsed : (xs : List Float) → length xs ≡ 192 → stream_parsed_of xs ≡ stream_read_of (body_from xs)
  pub packet_parsed_1 : (xs : List Float) → (length xs ≡ 192 → ⊥) → packet_parsed_of xs ≡ Err WrongLength
  pub packet_parsed : (xs : List Float) → length xs ≡ 192 → packet_parsed_of xs ≡ packet_read_of (body_from xs)
  -- what a slot says by itself: 3, 4, 5 or 7 where it does not read
  pub slot_only : (x : List ℕ) (why : Refusal) → length x ≡ 48 → see x ≡ unread why → OneOf (number_of why) (3 ∷ 4 ∷ 5 ∷ 7 ∷ [])
  -- the receiver: 1 for slot and memory, then 12 for the state, and at a slot none but 3, 4, 5 and 7 to 11; memory is then as it was
  pub receiver_1 : (r : Receiver) (x m : List ℕ) → ((received_of r x m).answer ≡ Err WrongLength) ↔ (fits x m ≡ false)
  pub receiver_12 : (r : Receiver) (x m : List ℕ)
      → ((received_of r x m).answer ≡ Err BadState) ↔ ((fits x m ≡ true) × (within r.phase ≡ false))
  pub receiver_only : (r : Receiver) (x m : List ℕ) (why : Refusal) → fits x m ≡ true → within r.phase ≡ true
      → (received_of r x m).answer ≡ Err why → OneOf (number_of why) (3 ∷ 4 ∷ 5 ∷ 7 ∷ 8 ∷ 9 ∷ 10 ∷ 11 ∷ [])
  pub receiver_untouched : (r : Receiver) (x m : List ℕ) (why : Refusal) → (received_of r x m).answer ≡ Err why → memory_of r x m ≡ m

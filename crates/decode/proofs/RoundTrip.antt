-- Every frame in range that is written reads back, through bytes and through symbols. Assumes nothing.
use mathlib.Core.Path.{◌≡◌, refl, sym, ap, ap₂, ◌∙◌}
use mathlib.Core.Bool.{Bool, true, false, cond}
use mathlib.Core.List.{List, [], ◌∷◌, ◌++◌, append-nil}
use Prim.Native.Nat.{ℕ, ◌+◌, ◌-◌, ◌*◌, ◌/◌, ◌%◌, ◌≤◌, ◌<◌}
use native.Mathlib.Decide.{dec_lt, ℕ_discrete}
use native.Mathlib.Omega.{arith}
use lib.Dec.{leb}
use lib.ListN.{length, get_or, take, drop, replicate, length-append, length-replicate}
use lib.Seq.{length-take-le, take_all, take_at, drop_at, get_or_at, take-append-le}
use borrow.Author.Tests.{eq-eqb, le-leb, lt-leb, leb-true}
use Rattle.laws.specs.Value.{value_of, in_bytes, Bytes}
use Rattle.laws.proofs.Number.{value_of_bytes, length_in_bytes}
use Rattle.laws.proofs.Padded.{padded_at}
use Rattle.std.specs.Prelude.{Result, Ok}
use Rattle.refusal.specs.Number.{made_of}
use Rattle.refusal.specs.declared.Refusal.{Refusal}
use Rattle.bits.specs.Bits.{odd, bits_of}
use Rattle.bits.proofs.Back.{length_bytes, bytes_are, bit_at, odd-bit}
use Rattle.bits.proofs.Getting.{missing}
use Rattle.fec.specs.declared.Kind.{Kind}
use Rattle.fec.specs.declared.Kind.TheVariants.{Header, Stream, Packet}
use Rattle.fec.specs.Kinds.{coded_of, decoded_of}
use Rattle.fec.proofs.Round.{same_bytes}
use Rattle.protocol.specs.declared.PacketFrameCounter.{PacketFrameCounter}
use Rattle.protocol.specs.declared.PacketFrameCounter.TheVariants.{Frame, FinalFrame}
use Rattle.encode.specs.Lich.{lich_value, lich_bytes}
use Rattle.encode.specs.Bodies.{masked, lsf_body_of, end_mark, stream_fields, stream_body_of, countable, packet_fields, packet_body_of}
use Rattle.encode.specs.Symbols.{frame_of, sync_of, symbols_from, lsf_symbols_of, stream_symbols_of, packet_symbols_of}
use Rattle.protocol.specs.declared.StreamFrame.{StreamFrame}
use Rattle.protocol.specs.declared.PacketFrame.{PacketFrame}
use Rattle.protocol.specs.Header.{header}
use Rattle.decode.specs.Lich.{lich_read_of}
use Rattle.decode.specs.Bodies.{unmasked, lsf_read_of, stream_from, stream_by, stream_read_of, counter_from, packet_from, payload_back, packet_read_of}
use Rattle.decode.specs.Symbols.{lsf_parsed_of, stream_parsed_of, packet_parsed_of}
use Rattle.laws.proofs.Bytes.{bytes_in_bytes, bytes_append, bytes_zeros, bytes_one, bytes_take}
use Rattle.decode.proofs.Masks.{length-masked, masked_bytes, unmasked-masked}
use Rattle.decode.proofs.ByLength.{lsf_long, stream_long, packet_long}
use Rattle.decode.proofs.SymbolsBack.{length_frame, symbols_back}
use Rattle.decode.proofs.LichBack.{length_lich, lich_bytes_lem, lich_back}

-- it is written, and what is written reads back as y
abbrev Back : {A B : Type 0} → Result A Refusal → (A → Result B Refusal) → B → Type 0
Back {A} written read y = (x : A) × (written ≡ Ok x) × (read x ≡ Ok y)

-- ---- the coded bytes are 46 bytes

module _ (k : Kind) (d : List ℕ) where
  length_coded : length (coded_of k d) ≡ 46
  unfolding coded_of
  length_coded = length_bytes 46 _

  coded_bytes_lem : Bytes (coded_of k d)
  unfolding coded_of
  coded_bytes_lem = bytes_are 46 _

-- ---- header

module _ (h : List ℕ) (long : length h ≡ 30) (bytes : Bytes h) where
  coded_lsf : List ℕ
  coded_lsf = coded_of Header h

  lsf_body : lsf_body_of h ≡ Ok (masked coded_lsf)
  unfolding lsf_body_of coded_lsf
  lsf_body = simp (eq-eqb (length h) 30 long)

  decoded_lsf : decoded_of Header coded_lsf ≡ Ok h
  unfolding coded_lsf
  decoded_lsf =
      ap (decoded_of Header) (sym (take_all 46 coded_lsf (omega (arith, length_coded Header h))))
      ∙ same_bytes Header h long bytes (λ i b. missing h i (omega arith)) ∙ ap {B = Result (List ℕ) Refusal} Ok (append-nil h)

  read_lsf : lsf_read_of (masked coded_lsf) ≡ Ok (header h)
  unfolding coded_lsf
  read_lsf =
      lsf_long (masked coded_lsf) (length-masked coded_lsf)
      ∙ ap (λ (c : List ℕ). made_of header (decoded_of Header c)) (unmasked-masked coded_lsf (coded_bytes_lem Header h) (length_coded Header h))
      ∙ ap (made_of header) decoded_lsf

  pub lsf_back : Back (lsf_body_of h) lsf_read_of (header h)
  lsf_back = (masked coded_lsf, lsf_body, read_lsf)

  pub lsf_symbols_back : Back (lsf_symbols_of (header h)) lsf_parsed_of (header h)
  unfolding lsf_parsed_of lsf_symbols_of
  lsf_symbols_back = (
    frame_of (sync_of Header) (masked coded_lsf),
    ap (symbols_from Header) lsf_body,
    simp (eq-eqb (length (frame_of (sync_of Header) (masked coded_lsf))) 192 (length_frame (sync_of Header) (masked coded_lsf)))
        (ap lsf_read_of (symbols_back (sync_of Header) (masked coded_lsf) (length-masked coded_lsf) (masked_bytes coded_lsf) refl) ∙ read_lsf),
  )

-- ---- stream

module _ (index : ℕ) (part : List ℕ) (n : ℕ) (end : Bool) (s : List ℕ) (index-small : index < 6) (part_long : length part ≡ 5) (part_bytes : Bytes part)
    (n-small : n ≤ 32767) (long : length s ≡ 16) (bytes : Bytes s) where
  -- the frame number with its end mark
  marked : ℕ
  marked = n + end_mark end

  marked_is : (marked < 65536) × (marked % 0x8000 ≡ n) × (leb 0x8000 marked ≡ end)
  unfolding marked
  marked_is = go end
    where
      go : (e : Bool) → (n + end_mark e < 65536) × ((n + end_mark e) % 0x8000 ≡ n) × (leb 0x8000 (n + end_mark e) ≡ e)
      go true = (omega arith, omega arith, le-leb 0x8000 (n + 0x8000) (omega arith))
      go false = (omega arith, omega arith, lt-leb 0x8000 (n + 0) (omega arith))

  plain_stream : List ℕ
  plain_stream = stream_fields n end s

  length_plain : length plain_stream ≡ 18
  unfolding plain_stream
  length_plain = length-append (in_bytes 2 (n + end_mark end)) s ∙ omega (arith, length_in_bytes 2 (n + end_mark end))

  plain_bytes : Bytes plain_stream
  unfolding plain_stream marked
  plain_bytes = bytes_append (in_bytes 2 (n + end_mark end)) s (bytes_in_bytes 2 (n + end_mark end) marked_is.0) bytes

  front : List ℕ
  front = lich_bytes index part

  back : List ℕ
  back = take 34 (coded_of Stream plain_stream)

  length_back : length back ≡ 34
  unfolding back
  length_back = length-take-le 34 (coded_of Stream plain_stream) (omega (arith, length_coded Stream plain_stream))

  length_front : length front ≡ 12
  unfolding front
  length_front = length_lich (lich_value index part)

  coded_stream : List ℕ
  coded_stream = front ++ back

  stream_body_lem : stream_body_of index part n end s ≡ Ok (masked coded_stream)
  unfolding stream_body_of coded_stream front back plain_stream
  stream_body_lem = simp (eq-eqb (length part) 5 part_long, eq-eqb (length s) 16 long, le-leb index 5 (omega arith), le-leb n 32767 n-small)

  unmasked_stream : unmasked (masked coded_stream) ≡ front ++ back
  unfolding coded_stream front back
  unmasked_stream =
      unmasked-masked coded_stream
      (bytes_append front back (lich_bytes_lem (lich_value index part)) (bytes_take 34 (coded_of Stream plain_stream) (coded_bytes_lem Stream plain_stream)))
      (length-append front back ∙ omega (arith, length_front, length_back))

  decoded-back : decoded_of Stream back ≡ Ok (plain_stream ++ replicate 12 0)
  unfolding back
  decoded-back = same_bytes Stream plain_stream length_plain plain_bytes (λ i b. missing plain_stream i (omega (arith, length_plain)))

  fields : ℕ → Bool → List ℕ → StreamFrame
  fields m e l = record { lich_idx = index; lich_part = part; frame_number = m; end_of_stream = e; stream_data = l }

  fields_back : stream_from (record { counter = index; part = part }) (plain_stream ++ replicate 12 0) ≡ fields n end s
  unfolding plain_stream marked fields in_bytes
  fields_back =
      let v : value_of (in_bytes 2 (n + end_mark end)) ≡ n + end_mark end = value_of_bytes 2 (n + end_mark end) marked_is.0 in
      ap (λ (m : ℕ). fields (m % 0x8000) (leb 0x8000 m) (take 16 (s ++ replicate 12 0))) v
      ∙ ap₂ (λ (m : ℕ) (e : Bool). fields m e (take 16 (s ++ replicate 12 0))) marked_is.1 marked_is.2
      ∙ ap (fields n end) (take_at s (replicate 12 0) 16 long)

  read_stream : stream_read_of (masked coded_stream) ≡ Ok (fields n end s)
  unfolding front
  read_stream =
      stream_long (masked coded_stream) (length-masked coded_stream)
      ∙ ap (λ (c : List ℕ). stream_by (decoded_of Stream (drop 12 c)) (lich_read_of (take 12 c))) unmasked_stream
      ∙ ap₂ (λ (b l : List ℕ). stream_by (decoded_of Stream b) (lich_read_of l)) (drop_at front back 12 length_front) (take_at front back 12 length_front)
      ∙ ap₂ stream_by decoded-back (lich_back index part part_long part_bytes (omega arith))
      ∙ ap {B = Result StreamFrame Refusal} Ok fields_back

  pub stream_back : Back (stream_body_of index part n end s) stream_read_of
      (record { lich_idx = index; lich_part = part; frame_number = n; end_of_stream = end; stream_data = s })
  unfolding fields
  stream_back = (masked coded_stream, stream_body_lem, read_stream)

  pub stream_symbols_back : Back
      (stream_symbols_of (record { lich_idx = index; lich_part = part; frame_number = n; end_of_stream = end; stream_data = s })) stream_parsed_of
      (record { lich_idx = index; lich_part = part; frame_number = n; end_of_stream = end; stream_data = s })
  unfolding stream_parsed_of stream_symbols_of fields
  stream_symbols_back = (
    frame_of (sync_of Stream) (masked coded_stream),
    ap (symbols_from Stream) stream_body_lem,
    simp (eq-eqb (length (frame_of (sync_of Stream) (masked coded_stream))) 192 (length_frame (sync_of Stream) (masked coded_stream)))
        (ap stream_read_of (symbols_back (sync_of Stream) (masked coded_stream) (length-masked coded_stream) (masked_bytes coded_stream) refl) ∙ read_stream),
  )

-- ---- packet

-- the last byte
abbrev tag : PacketFrameCounter → ℕ
tag (Frame index) = index * 4
tag (FinalFrame size) = 128 + size * 4

fields_are : (c : PacketFrameCounter) (s : List ℕ) → packet_fields c s ≡ payload_back c s ++ (tag c ∷ [])
fields_are (Frame index) s = refl
fields_are (FinalFrame size) s = refl

length_kept : (c : PacketFrameCounter) (s : List ℕ) → countable c ≡ true → length s ≡ 25 → length (payload_back c s) ≡ 25
length_kept (Frame index) s h long = long
length_kept (FinalFrame size) s h long =
    let b : size ≤ 25 = leb-true size 25 h in
    length-append (take size s) (replicate (25 - size) 0) ∙ omega (arith, length-take-le size s (omega arith), length-replicate {A = ℕ} (25 - size) 0)

kept_bytes : (c : PacketFrameCounter) (s : List ℕ) → Bytes s → Bytes (payload_back c s)
kept_bytes (Frame index) s h = h
kept_bytes (FinalFrame size) s h = bytes_append (take size s) (replicate (25 - size) 0) (bytes_take size s h) (bytes_zeros (25 - size))

tag_is : (c : PacketFrameCounter) → countable c ≡ true → (tag c < 256) × (tag c % 4 ≡ 0) × (counter_from (tag c) ≡ c)
tag_is (Frame index) h =
    let b : index ≤ 31 = leb-true index 31 h in
    let e : index * 4 / 4 % 32 ≡ index = omega arith in
    (omega arith, omega arith, ap (λ (t : Bool). cond t (FinalFrame (index * 4 / 4 % 32)) (Frame (index * 4 / 4 % 32))) (lt-leb 128 (index * 4) (omega arith)) ∙ ap Frame e)
tag_is (FinalFrame size) h =
    let b : size ≤ 25 = leb-true size 25 h in
    let e : (128 + size * 4) / 4 % 32 ≡ size = omega arith in (
      omega arith,
      omega arith,
      ap (λ (t : Bool). cond t (FinalFrame ((128 + size * 4) / 4 % 32)) (Frame ((128 + size * 4) / 4 % 32))) (le-leb 128 (128 + size * 4) (omega arith)) ∙ ap FinalFrame e,
    )

-- the two last bits of 26 bytes are zero where the last byte is a multiple of four
last_zero : (p : List ℕ) (x : ℕ) → length p ≡ 25 → x % 4 ≡ 0 → (i : ℕ) → 206 ≤ i → get_or (bits_of (p ++ (x ∷ []))) i false ≡ false
last_zero p x long e i h = elim (dec_lt i 208) [
  | yes l ↦ within (ℕ_discrete i 206) l
  | no n ↦ missing (p ++ (x ∷ [])) i (omega (arith, length-append p (x ∷ [])))
]
  where
    last : get_or (p ++ (x ∷ [])) 25 0 ≡ x
    last = get_or_at p x [] 0 25 long

    within : Dec (i ≡ 206) → i < 208 → get_or (bits_of (p ++ (x ∷ []))) i false ≡ false
    within (yes q) l =
        ap (λ (k : ℕ). get_or (bits_of (p ++ (x ∷ []))) k false) q ∙ bit_at (p ++ (x ∷ [])) 206 ∙ ap (λ (y : ℕ). odd (y / 2)) last ∙ odd-bit (x / 2) false (omega arith)
    within (no q) l =
        let r : i ≡ 207 = omega arith in
        ap (λ (k : ℕ). get_or (bits_of (p ++ (x ∷ []))) k false) r ∙ bit_at (p ++ (x ∷ [])) 207 ∙ ap (λ (y : ℕ). odd (y / 1)) last ∙ odd-bit (x / 1) false (omega arith)

module _ (counter : PacketFrameCounter) (s : List ℕ) (in_range : countable counter ≡ true) (long : length s ≡ 25) (bytes : Bytes s) where
  plain_packet : List ℕ
  plain_packet = payload_back counter s ++ (tag counter ∷ [])

  length_packet : length plain_packet ≡ 26
  unfolding plain_packet
  length_packet = length-append (payload_back counter s) (tag counter ∷ []) ∙ ap (λ (m : ℕ). m + 1) (length_kept counter s in_range long)

  coded_packet : List ℕ
  coded_packet = coded_of Packet plain_packet

  packet_body_lem : packet_body_of counter s ≡ Ok (masked coded_packet)
  unfolding packet_body_of coded_packet plain_packet
  packet_body_lem = simp (eq-eqb (length s) 25 long, in_range, fields_are counter s)

  decoded_packet : decoded_of Packet coded_packet ≡ Ok (plain_packet ++ replicate 4 0)
  unfolding coded_packet plain_packet
  decoded_packet =
      ap (decoded_of Packet) (sym (take_all 46 coded_packet (omega (arith, length_coded Packet plain_packet))))
      ∙ same_bytes Packet plain_packet length_packet
      (bytes_append (payload_back counter s) (tag counter ∷ []) (kept_bytes counter s bytes) (bytes_one (tag counter) (tag_is counter in_range).0))
      (last_zero (payload_back counter s) (tag counter) (length_kept counter s in_range long) (tag_is counter in_range).1)

  fields_read : packet_from (plain_packet ++ replicate 4 0) ≡ record { payload = payload_back counter s; counter = counter }
  unfolding plain_packet
  fields_read =
      let n = length_kept counter s in_range long in
      ap₂ {C = PacketFrame} (λ (p : List ℕ) (c : PacketFrameCounter). record { payload = p; counter = c })
      (take-append-le 25 plain_packet (replicate 4 0) (omega (arith, length_packet)) ∙ take_at (payload_back counter s) (tag counter ∷ []) 25 n)
      (ap counter_from (padded_at 0 plain_packet 4 25 ∙ get_or_at (payload_back counter s) (tag counter) [] 0 25 n) ∙ (tag_is counter in_range).2)

  read_packet : packet_read_of (masked coded_packet) ≡ Ok (record { payload = payload_back counter s; counter = counter })
  unfolding coded_packet
  read_packet =
      packet_long (masked coded_packet) (length-masked coded_packet)
      ∙ ap (λ (c : List ℕ). made_of packet_from (decoded_of Packet c)) (unmasked-masked coded_packet (coded_bytes_lem Packet plain_packet) (length_coded Packet plain_packet))
      ∙ ap (made_of packet_from) decoded_packet ∙ ap {B = Result PacketFrame Refusal} Ok fields_read

  pub packet_back : Back (packet_body_of counter s) packet_read_of (record { payload = payload_back counter s; counter = counter })
  packet_back = (masked coded_packet, packet_body_lem, read_packet)

  pub packet_symbols_back : Back (packet_symbols_of (record { payload = s; counter = counter })) packet_parsed_of
      (record { payload = payload_back counter s; counter = counter })
  unfolding packet_parsed_of packet_symbols_of
  packet_symbols_back = (
    frame_of (sync_of Packet) (masked coded_packet),
    ap (symbols_from Packet) packet_body_lem,
    simp (eq-eqb (length (frame_of (sync_of Packet) (masked coded_packet))) 192 (length_frame (sync_of Packet) (masked coded_packet)))
        (ap packet_read_of (symbols_back (sync_of Packet) (masked coded_packet) (length-masked coded_packet) (masked_bytes coded_packet) refl) ∙ read_packet),
  )

-- What reading answers is in range. Assumes nothing.
use mathlib.Core.Path.{◌≡◌, refl, sym, ◌∙◌, subst}
use mathlib.Core.Bool.{Bool, true, false, cond}
use mathlib.Core.List.{List}
use Prim.Native.Nat.{ℕ, ◌+◌, ◌*◌, ◌/◌, ◌%◌, ◌^◌, ◌<◌}
use native.Mathlib.Decide.{ℕ_discrete}
use native.Mathlib.Omega.{arith}
use lib.Dec.{leb}
use lib.ListN.{length, get_or, take, drop, length-drop}
use lib.Seq.{length-take-le}
use Rattle.std.specs.Prelude.{Option, Some, None, Result, Ok, Err}
use Rattle.laws.specs.Value.{in_bytes, Bytes}
use Rattle.laws.proofs.Number.{length_in_bytes}
use Rattle.laws.proofs.Bytes.{bytes_in_bytes, bytes_take, bytes_drop}
use Rattle.refusal.specs.Number.{made_of}
use Rattle.refusal.specs.declared.Refusal.{Refusal}
use Rattle.refusal.specs.declared.Refusal.TheVariants.{WrongLength, BadGolay}
use Rattle.bits.specs.Bits.{bits_of, bytes_of}
use Rattle.bits.proofs.Back.{length_bytes, bytes_are}
use Rattle.golay.specs.Golay.{decoded_of as golayReadOf}
use Rattle.fec.specs.declared.Kind.{Kind}
use Rattle.fec.specs.declared.Kind.TheVariants.{Header, Stream, Packet}
use Rattle.fec.specs.Nearest.{read_of}
use Rattle.fec.specs.Kinds.{bits_in, coded_bytes, limit_of, sends_in, found, decoded_of}
use Rattle.fec.proofs.Bodies.{decoded_long, decoded_short}
use Rattle.protocol.specs.declared.LsfFrame.{LsfFrame}
use Rattle.protocol.specs.declared.StreamFrame.{StreamFrame}
use Rattle.protocol.specs.declared.PacketFrame.{PacketFrame}
use Rattle.protocol.specs.declared.PacketFrameCounter.{PacketFrameCounter}
use Rattle.protocol.specs.declared.PacketFrameCounter.TheVariants.{Frame, FinalFrame}
use Rattle.protocol.specs.Header.{header}
use Rattle.decode.specs.declared.LichPart.{LichPart}
use Rattle.decode.specs.Lich.{lich_from, four_words, word_at, lich_read_of}
use Rattle.decode.specs.Bodies.{unmasked, lsf_read_of, stream_from, stream_by, stream_read_of, counter_from, packet_from, packet_read_of}
use Rattle.decode.proofs.Words.{data_lt}
use Rattle.decode.proofs.ByLength.{lich_short, lsf_short, stream_short, packet_short, lich_long, lsf_long, stream_long, packet_long}

-- n bytes
pub record Octets (n : ℕ) (s : List ℕ) : Type 0 where
  pub long : length s ≡ n
  pub bytes : Bytes s

-- a refusal is no answer
never : {A B : Type 0} (why : Refusal) (x : A) → Err why ≡ Ok x → B
never why x e = let z : ◌≡◌ {A = ℕ} 0 1 = cc in absurd (omega arith)

-- ---- the nearest word's bytes

decoded_thirty : (k : Kind) (rx b : List ℕ) → decoded_of k rx ≡ Ok b → Octets 30 b
decoded_thirty k rx b e = by_length (ℕ_discrete (length rx) (coded_bytes k))
  where
    by_read : (o : Option (List Bool)) → found o ≡ Ok b → Octets 30 b
    by_read (Some d) q = let is : bytes_of 30 d ≡ b = cc in subst (Octets 30) is (record { long = length_bytes 30 d; bytes = bytes_are 30 d })
    by_read None q = never _ b q

    by_length : Dec (length rx ≡ coded_bytes k) → Octets 30 b
    by_length (yes l) = by_read (read_of (sends_in k) (bits_in k) (limit_of k) (bits_of rx)) (sym (decoded_long k rx l) ∙ e)
    by_length (no n) = never WrongLength b (sym (decoded_short k rx n) ∙ e)

-- ---- LICH

pub record LichRange (l : LichPart) : Type 0 where
  pub counter : l.counter < 8
  pub part : Octets 5 l.part

four_range : (a b c d : Result ℕ Refusal) → ((x : ℕ) → a ≡ Ok x → x < 4096) → ((x : ℕ) → b ≡ Ok x → x < 4096) → ((x : ℕ) → c ≡ Ok x → x < 4096)
    → ((x : ℕ) → d ≡ Ok x → x < 4096) → (l : LichPart) → four_words a b c d ≡ Ok l → LichRange l
four_range (Err why) b c d ha hb hc hd l e = never BadGolay l e
four_range (Ok x) (Err why) c d ha hb hc hd l e = never BadGolay l e
four_range (Ok x) (Ok y) (Err why) d ha hb hc hd l e = never BadGolay l e
four_range (Ok x) (Ok y) (Ok z) (Err why) ha hb hc hd l e = never BadGolay l e
four_range (Ok x) (Ok y) (Ok z) (Ok w) ha hb hc hd l e =
    let v = x * 2 ^ 36 + y * 2 ^ 24 + z * 2 ^ 12 + w in
    let small : v < 256 ^ 6 = omega (arith, ha x refl, hb y refl, hc z refl, hd w refl) in
    let is : lich_from v ≡ l = cc in
    subst LichRange is
    (record {
      counter = omega arith;
      part =
          record {
            long = length-take-le 5 (in_bytes 6 v) (omega (arith, length_in_bytes 6 v));
            bytes = bytes_take 5 (in_bytes 6 v) (bytes_in_bytes 6 v small);
          };
    })

pub lich_range : (s : List ℕ) (l : LichPart) → lich_read_of s ≡ Ok l → LichRange l
lich_range s l e = by_length (ℕ_discrete (length s) 12)
  where
    by_length : Dec (length s ≡ 12) → LichRange l
    by_length (yes h) =
        four_range (golayReadOf (word_at s 0)) (golayReadOf (word_at s 1)) (golayReadOf (word_at s 2)) (golayReadOf (word_at s 3)) (λ x. data_lt (word_at s 0) x)
        (λ x. data_lt (word_at s 1) x) (λ x. data_lt (word_at s 2) x) (λ x. data_lt (word_at s 3) x) l (sym (lich_long s h) ∙ e)
    by_length (no n) = never WrongLength l (sym (lich_short s n) ∙ e)

-- ---- header

pub lsf_range : (body : List ℕ) (f : LsfFrame) → lsf_read_of body ≡ Ok f → Octets 30 f.bytes
lsf_range body f e = by_length (ℕ_discrete (length body) 46)
  where
    by_answer : (r : Result (List ℕ) Refusal) → ((b : List ℕ) → r ≡ Ok b → Octets 30 b) → made_of header r ≡ Ok f → Octets 30 f.bytes
    by_answer (Ok b) o q = let is : header b ≡ f = cc in subst (λ (g : LsfFrame). Octets 30 g.bytes) is (o b refl)
    by_answer (Err why) o q = never why f q

    by_length : Dec (length body ≡ 46) → Octets 30 f.bytes
    by_length (yes l) = by_answer (decoded_of Header (unmasked body)) (λ b. decoded_thirty Header (unmasked body) b) (sym (lsf_long body l) ∙ e)
    by_length (no n) = never WrongLength f (sym (lsf_short body n) ∙ e)

-- ---- stream

pub record StreamRange (f : StreamFrame) : Type 0 where
  pub index : f.lich_idx < 8
  pub part : Octets 5 f.lich_part
  pub number : f.frame_number < 32768
  pub stream : Octets 16 f.stream_data

pub stream_range : (body : List ℕ) (f : StreamFrame) → stream_read_of body ≡ Ok f → StreamRange f
stream_range body f e = by_length (ℕ_discrete (length body) 46)
  where
    by_answer : (r : Result (List ℕ) Refusal) (a : Result LichPart Refusal) → ((b : List ℕ) → r ≡ Ok b → Octets 30 b) → ((l : LichPart) → a ≡ Ok l → LichRange l)
        → stream_by r a ≡ Ok f → StreamRange f
    by_answer (Ok b) (Ok l) o h q =
        let is : stream_from l b ≡ f = cc in
        subst StreamRange is
        (record {
          index = (h l refl).counter;
          part = (h l refl).part;
          number = omega arith;
          stream =
              record {
                long = length-take-le 16 (drop 2 b) (omega (arith, length-drop 2 b, (o b refl).long));
                bytes = bytes_take 16 (drop 2 b) (bytes_drop 2 b (o b refl).bytes);
              };
        })
    by_answer (Ok b) (Err why) o h q = never why f q
    by_answer (Err why) a o h q = never why f q

    by_length : Dec (length body ≡ 46) → StreamRange f
    by_length (yes l) =
        let rx = drop 12 (unmasked body) in
        let s = take 12 (unmasked body) in
        by_answer (decoded_of Stream rx) (lich_read_of s) (λ b. decoded_thirty Stream rx b) (λ l. lich_range s l) (sym (stream_long body l) ∙ e)
    by_length (no n) = never WrongLength f (sym (stream_short body n) ∙ e)

-- ---- packet

-- the number of a frame
abbrev pub number_in : PacketFrameCounter → ℕ
number_in (Frame index) = index
number_in (FinalFrame payload) = payload

pub record PacketRange (f : PacketFrame) : Type 0 where
  pub number : number_in f.counter < 32
  pub payload : Octets 25 f.payload

counter_range : (x : ℕ) → number_in (counter_from x) < 32
counter_range x = by (leb 128 x)
  where
    by : (t : Bool) → number_in (cond t (FinalFrame (x / 4 % 32)) (Frame (x / 4 % 32))) < 32
    by true = omega arith
    by false = omega arith

pub packet_range : (body : List ℕ) (f : PacketFrame) → packet_read_of body ≡ Ok f → PacketRange f
packet_range body f e = by_length (ℕ_discrete (length body) 46)
  where
    by_answer : (r : Result (List ℕ) Refusal) → ((b : List ℕ) → r ≡ Ok b → Octets 30 b) → made_of packet_from r ≡ Ok f → PacketRange f
    by_answer (Ok b) o q =
        let is : packet_from b ≡ f = cc in
        subst PacketRange is
        (record {
          number = counter_range (get_or b 25 0);
          payload = record { long = length-take-le 25 b (omega (arith, (o b refl).long)); bytes = bytes_take 25 b (o b refl).bytes };
        })
    by_answer (Err why) o q = never why f q

    by_length : Dec (length body ≡ 46) → PacketRange f
    by_length (yes l) = by_answer (decoded_of Packet (unmasked body)) (λ b. decoded_thirty Packet (unmasked body) b) (sym (packet_long body l) ∙ e)
    by_length (no n) = never WrongLength f (sym (packet_short body n) ∙ e)

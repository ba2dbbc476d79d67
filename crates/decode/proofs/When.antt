-- When each body is answered, and when it is refused and with what, over all words. Assumes nothing.
use mathlib.Core.Path.{◌≡◌, refl, sym, ap, ap₂, ◌∙◌, subst}
use mathlib.Core.Bool.{Bool}
use mathlib.Core.Logic.{inl, inr}
use mathlib.Core.List.{List, [], ◌∷◌}
use Prim.Native.Nat.{ℕ}
use native.Mathlib.Decide.{ℕ_discrete}
use native.Mathlib.Omega.{arith}
use lib.ListN.{length, length-drop}
use lib.Seq.{length-take-le}
use Rattle.std.specs.Prelude.{Option, Some, None, Result, Ok, Err}
use Rattle.laws.specs.Value.{Bytes}
use Rattle.refusal.specs.Number.{said_of, made_of}
use Rattle.refusal.specs.declared.Refusal.{Refusal}
use Rattle.refusal.specs.declared.Refusal.TheVariants.{WrongLength, TooFar, BadGolay}
use Rattle.bits.specs.Bits.{bits_of, bytes_of}
use Rattle.fec.specs.declared.Kind.{Kind}
use Rattle.fec.specs.declared.Kind.TheVariants.{Header, Stream, Packet}
use Rattle.fec.specs.Nearest.{read_of}
use Rattle.fec.specs.Kinds.{bits_in, coded_bytes, limit_of, sends_in, found, decoded_of}
use Rattle.fec.proofs.Bodies.{decoded_long}
use Rattle.fec.specs.When.{Near, Far}
use Rattle.fec.proofs.When.{answered_when, refused_when}
use Rattle.protocol.specs.declared.LsfFrame.{LsfFrame}
use Rattle.protocol.specs.declared.StreamFrame.{StreamFrame}
use Rattle.protocol.specs.declared.PacketFrame.{PacketFrame}
use Rattle.protocol.specs.Header.{header}
use Rattle.decode.specs.declared.LichPart.{LichPart}
use Rattle.decode.specs.Lich.{lich_from, lich_read_of}
use Rattle.decode.specs.Bodies.{unmasked, lsf_read_of, stream_by, stream_read_of, packet_from, packet_read_of}
use Rattle.laws.proofs.Bytes.{bytes_take}
use Rattle.decode.proofs.Masks.{length-unmasked, unmasked_bytes}
use Rattle.decode.proofs.ByLength.{lsf_short, stream_short, packet_short, lsf_long, stream_long, packet_long}
use Rattle.decode.specs.When.{OneOf, Words, Lost, LsfWhen, PacketWhen, lich_in, code_in, stream_at, StreamWhen}
use Rattle.decode.proofs.LichWhen.{read_or_lost, lich_read, lich_lost}

-- ---- coded bytes of the right length are near a word, or far from all

module _ (k : Kind) (rx : List ℕ) (long : length rx ≡ coded_bytes k) (P : Result (List ℕ) Refusal → Type 0) where
  near_or_far : ((b : List ℕ) → Near k rx b → P (Ok b)) → (Far k rx → P (Err TooFar)) → P (decoded_of k rx)
  near_or_far near far = by (read_of (sends_in k) (bits_in k) (limit_of k) (bits_of rx)) refl
    where
      by : (o : Option (List Bool)) → read_of (sends_in k) (bits_in k) (limit_of k) (bits_of rx) ≡ o → P (decoded_of k rx)
      by (Some d) e =
          let q : decoded_of k rx ≡ Ok (bytes_of 30 d) = decoded_long k rx long ∙ ap found e in
          subst P (sym q) (near (bytes_of 30 d) ((answered_when k rx (bytes_of 30 d)).0 q))
      by None e =
          let q : decoded_of k rx ≡ Err TooFar = decoded_long k rx long ∙ ap found e in
          subst P (sym q) (far ((refused_when k rx).0 q))

-- ---- header

abbrev bytes_in : Result LsfFrame Refusal → List ℕ
bytes_in (Ok f) = f.bytes
bytes_in (Err why) = []

module _ (body : List ℕ) where
  lsf_cases : (P : Result LsfFrame Refusal → Type 0) → ((length body ≡ 46 → ⊥) → P (Err WrongLength)) → (length body ≡ 46 → (b : List ℕ) → Near Header (unmasked body) b → P (Ok (header b)))
      → (length body ≡ 46 → Far Header (unmasked body) → P (Err TooFar)) → P (lsf_read_of body)
  lsf_cases P short near far = elim (ℕ_discrete (length body) 46) [
    | yes l ↦ rw (lsf_long body l) (near_or_far Header (unmasked body) (length-unmasked body) (λ d. P (made_of header d)) (near l) (far l))
    | no n ↦ rw (lsf_short body n) (short n)
  ]

  pub lsf_when : LsfWhen body
  lsf_when =
      record {
        answered =
            λ h. lsf_cases (λ r. r ≡ Ok (header h) → (length body ≡ 46) × Near Header (unmasked body) h)
            (λ n e. absurd (omega (arith, ap said_of e)))
            (λ l b a e. (l, subst (Near Header (unmasked body)) (ap bytes_in e) a))
            (λ l f e. absurd (omega (arith, ap said_of e)));
        near = λ h l a. lsf_long body l ∙ ap (made_of header) ((answered_when Header (unmasked body) h).1 a);
        refused =
            lsf_cases (λ r. said_of r ≡ 3 → (length body ≡ 46) × Far Header (unmasked body)) (λ n e. absurd (omega arith)) (λ l b a e. absurd (omega arith))
            (λ l f e. (l, f));
        far = λ l f. lsf_long body l ∙ ap (made_of header) ((refused_when Header (unmasked body)).1 f);
        wrong = lsf_cases (λ r. said_of r ≡ 1 → length body ≡ 46 → ⊥) (λ n e. n) (λ l b a e. absurd (omega arith)) (λ l f e. absurd (omega arith));
        short = lsf_short body;
        only = lsf_cases (λ r. OneOf (said_of r) (0 ∷ 1 ∷ 3 ∷ [])) (λ n. inr (inl refl)) (λ l b a. inl refl) (λ l f. inr (inr (inl refl)));
      }

-- ---- packet

module _ (body : List ℕ) where
  packet_cases : (P : Result PacketFrame Refusal → Type 0) → ((length body ≡ 46 → ⊥) → P (Err WrongLength))
      → (length body ≡ 46 → (b : List ℕ) → Near Packet (unmasked body) b → P (Ok (packet_from b))) → (length body ≡ 46 → Far Packet (unmasked body) → P (Err TooFar))
      → P (packet_read_of body)
  packet_cases P short near far = elim (ℕ_discrete (length body) 46) [
    | yes l ↦ rw (packet_long body l) (near_or_far Packet (unmasked body) (length-unmasked body) (λ d. P (made_of packet_from d)) (near l) (far l))
    | no n ↦ rw (packet_short body n) (short n)
  ]

  pub packet_when : PacketWhen body
  packet_when =
      record {
        answered =
            packet_cases (λ r. said_of r ≡ 0 → (b : List ℕ) × (length body ≡ 46) × Near Packet (unmasked body) b × (r ≡ Ok (packet_from b))) (λ n e. absurd (omega arith))
            (λ l b a e. (b, l, a, refl)) (λ l f e. absurd (omega arith));
        near = λ b l a. packet_long body l ∙ ap (made_of packet_from) ((answered_when Packet (unmasked body) b).1 a);
        refused =
            packet_cases (λ r. said_of r ≡ 3 → (length body ≡ 46) × Far Packet (unmasked body)) (λ n e. absurd (omega arith)) (λ l b a e. absurd (omega arith))
            (λ l f e. (l, f));
        far = λ l f. packet_long body l ∙ ap (made_of packet_from) ((refused_when Packet (unmasked body)).1 f);
        wrong = packet_cases (λ r. said_of r ≡ 1 → length body ≡ 46 → ⊥) (λ n e. n) (λ l b a e. absurd (omega arith)) (λ l f e. absurd (omega arith));
        short = packet_short body;
        only = packet_cases (λ r. OneOf (said_of r) (0 ∷ 1 ∷ 3 ∷ [])) (λ n. inr (inl refl)) (λ l b a. inl refl) (λ l f. inr (inr (inl refl)));
      }

-- ---- stream

module _ (body : List ℕ) where
  length_lich_in : length (lich_in body) ≡ 12
  length_lich_in = length-take-le 12 (unmasked body) (omega (arith, length-unmasked body))

  lich_in_bytes : Bytes (lich_in body)
  lich_in_bytes = bytes_take 12 (unmasked body) (unmasked_bytes body)

  length_code_in : length (code_in body) ≡ 34
  length_code_in = length-drop 12 (unmasked body) ∙ omega (arith, length-unmasked body)

  stream_cases : (P : Result StreamFrame Refusal → Type 0) → ((length body ≡ 46 → ⊥) → P (Err WrongLength)) → (length body ≡ 46 → Far Stream (code_in body) → P (Err TooFar))
      → (length body ≡ 46 → (b : List ℕ) → Near Stream (code_in body) b → Lost (lich_in body) → P (Err BadGolay))
      → (length body ≡ 46 → (b : List ℕ) → Near Stream (code_in body) b → (v : ℕ) → Words (lich_in body) v → P (Ok (stream_at v b))) → P (stream_read_of body)
  stream_cases P short far lost near = elim (ℕ_discrete (length body) 46) [
    | yes l ↦
        rw (stream_long body l)
        (near_or_far Stream (code_in body) length_code_in (λ d. P (stream_by d (lich_read_of (lich_in body))))
        (λ b a. read_or_lost (lich_in body) lich_in_bytes length_lich_in (λ r. P (stream_by (Ok b) r)) (λ v w. near l b a v w) (λ q. lost l b a q)) (far l))
    | no n ↦ rw (stream_short body n) (short n)
  ]

  decoded_as : length body ≡ 46 → (d : Result (List ℕ) Refusal) → decoded_of Stream (code_in body) ≡ d → (r : Result LichPart Refusal) → lich_read_of (lich_in body) ≡ r → stream_read_of body ≡ stream_by d r
  decoded_as l d e r q = stream_long body l ∙ ap₂ stream_by e q

  pub stream_when : StreamWhen body
  stream_when =
      record {
        answered =
            stream_cases
            (λ r. said_of r ≡ 0 → (b : List ℕ) × (v : ℕ) × (length body ≡ 46) × Near Stream (code_in body) b × Words (lich_in body) v × (r ≡ Ok (stream_at v b)))
            (λ n e. absurd (omega arith)) (λ l f e. absurd (omega arith)) (λ l b a q e. absurd (omega arith)) (λ l b a v w e. (b, v, l, a, w, refl));
        near = λ b v l a w. decoded_as l (Ok b) ((answered_when Stream (code_in body) b).1 a) (Ok (lich_from v)) (lich_read (lich_in body) lich_in_bytes length_lich_in v w);
        refused =
            stream_cases (λ r. said_of r ≡ 3 → (length body ≡ 46) × Far Stream (code_in body)) (λ n e. absurd (omega arith)) (λ l f e. (l, f))
            (λ l b a q e. absurd (omega arith)) (λ l b a v w e. absurd (omega arith));
        far = λ l f. decoded_as l (Err TooFar) ((refused_when Stream (code_in body)).1 f) (lich_read_of (lich_in body)) refl;
        unread =
            stream_cases (λ r. said_of r ≡ 4 → (b : List ℕ) × (length body ≡ 46) × Near Stream (code_in body) b × Lost (lich_in body)) (λ n e. absurd (omega arith))
            (λ l f e. absurd (omega arith)) (λ l b a q e. (b, l, a, q)) (λ l b a v w e. absurd (omega arith));
        lost = λ b l a q. decoded_as l (Ok b) ((answered_when Stream (code_in body) b).1 a) (Err BadGolay) (lich_lost (lich_in body) lich_in_bytes length_lich_in q);
        wrong =
            stream_cases (λ r. said_of r ≡ 1 → length body ≡ 46 → ⊥) (λ n e. n) (λ l f e. absurd (omega arith)) (λ l b a q e. absurd (omega arith))
            (λ l b a v w e. absurd (omega arith));
        short = stream_short body;
        only =
            stream_cases (λ r. OneOf (said_of r) (0 ∷ 1 ∷ 3 ∷ 4 ∷ [])) (λ n. inr (inl refl)) (λ l f. inr (inr (inl refl)))
            (λ l b a q. inr (inr (inr (inl refl)))) (λ l b a v w. inl refl);
      }

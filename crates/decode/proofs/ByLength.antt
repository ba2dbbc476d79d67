-- What each reading says of the length called for, and of another, and what the parts of a stream frame give together. Assumes nothing.
use mathlib.Core.Path.{◌≡◌, refl, sym, ap, ap₂, ◌∙◌}
use mathlib.Core.List.{List}
use Prim.Native.Nat.{ℕ, ◌+◌, ◌*◌, ◌^◌}
use native.Mathlib.Omega.{arith}
use lib.ListN.{length, take, drop, length-drop}
use lib.Seq.{take_all}
use borrow.Author.Tests.{eq-eqb, ne_eqb}
use Rattle.std.specs.Prelude.{Result, Ok, Err}
use Rattle.refusal.specs.Number.{made_of}
use Rattle.refusal.specs.declared.Refusal.{Refusal}
use Rattle.refusal.specs.declared.Refusal.TheVariants.{WrongLength, BadGolay}
use Rattle.golay.specs.Golay.{decoded_of as golayReadOf}
use Rattle.fec.specs.declared.Kind.TheVariants.{Header, Stream, Packet}
use Rattle.fec.specs.Kinds.{decoded_of}
use Rattle.protocol.specs.Header.{header}
use Rattle.decode.specs.declared.LichPart.{LichPart}
use Rattle.decode.specs.Lich.{lich_from, four_words, word_at, lich_read_of}
use Rattle.decode.specs.Bodies.{unmasked, lsf_read_of, stream_from, stream_by, stream_read_of, packet_from, packet_read_of}
use Rattle.decode.proofs.Masks.{length-unmasked}

-- ---- LICH: the first refused word ends the reading
module _ (s : List ℕ) where
  pub lich_short : (length s ≡ 12 → ⊥) → lich_read_of s ≡ Err WrongLength
  unfolding lich_read_of
  lich_short n = simp (ne_eqb (length s) 12 n)

module _ (s : List ℕ) (long : length s ≡ 12) where
  pub lich_long : lich_read_of s ≡ four_words (golayReadOf (word_at s 0)) (golayReadOf (word_at s 1)) (golayReadOf (word_at s 2)) (golayReadOf (word_at s 3))
  unfolding lich_read_of
  lich_long = simp (eq-eqb (length s) 12 long)

  pub first_refused : (why : Refusal) → golayReadOf (word_at s 0) ≡ Err why → lich_read_of s ≡ Err BadGolay
  first_refused why e = lich_long ∙ rw e

  module _ (x : ℕ) (ex : golayReadOf (word_at s 0) ≡ Ok x) where
    pub second_refused : (why : Refusal) → golayReadOf (word_at s 1) ≡ Err why → lich_read_of s ≡ Err BadGolay
    second_refused why e = lich_long ∙ rw (ex, e)

    module _ (y : ℕ) (ey : golayReadOf (word_at s 1) ≡ Ok y) where
      pub third_refused : (why : Refusal) → golayReadOf (word_at s 2) ≡ Err why → lich_read_of s ≡ Err BadGolay
      third_refused why e = lich_long ∙ rw (ex, ey, e)

      module _ (z : ℕ) (ez : golayReadOf (word_at s 2) ≡ Ok z) where
        pub fourth_refused : (why : Refusal) → golayReadOf (word_at s 3) ≡ Err why → lich_read_of s ≡ Err BadGolay
        fourth_refused why e = lich_long ∙ rw (ex, ey, ez, e)

        pub all_read : (w : ℕ) → golayReadOf (word_at s 3) ≡ Ok w → lich_read_of s ≡ Ok (lich_from (x * 2 ^ 36 + y * 2 ^ 24 + z * 2 ^ 12 + w))
        all_read w e = lich_long ∙ rw (ex, ey, ez, e)

-- ---- bodies
module _ (body : List ℕ) (n : length body ≡ 46 → ⊥) where
  pub lsf_short : lsf_read_of body ≡ Err WrongLength
  unfolding lsf_read_of
  lsf_short = simp (ne_eqb (length body) 46 n)

  pub stream_short : stream_read_of body ≡ Err WrongLength
  unfolding stream_read_of
  stream_short = simp (ne_eqb (length body) 46 n)

  pub packet_short : packet_read_of body ≡ Err WrongLength
  unfolding packet_read_of
  packet_short = simp (ne_eqb (length body) 46 n)

module _ (body : List ℕ) (long : length body ≡ 46) where
  pub lsf_long : lsf_read_of body ≡ made_of header (decoded_of Header (unmasked body))
  unfolding lsf_read_of
  lsf_long = simp (eq-eqb (length body) 46 long)

  pub stream_long : stream_read_of body ≡ stream_by (decoded_of Stream (drop 12 (unmasked body))) (lich_read_of (take 12 (unmasked body)))
  unfolding stream_read_of
  stream_long = simp (eq-eqb (length body) 46 long)

  pub packet_long : packet_read_of body ≡ made_of packet_from (decoded_of Packet (unmasked body))
  unfolding packet_read_of
  packet_long = simp (eq-eqb (length body) 46 long)

  -- ---- a stream frame, from the coded bytes and what they decode to
  module _ (coded : List ℕ) (of-coded : coded ≡ unmasked body) (r : Result (List ℕ) Refusal) (of-r : r ≡ decoded_of Stream (take 34 (drop 12 coded))) where
    rest : take 34 (drop 12 coded) ≡ drop 12 (unmasked body)
    rest = take_all 34 (drop 12 coded) (omega (arith, length-drop 12 coded, ap length of-coded, length-unmasked body)) ∙ ap (drop 12) of-coded

    stream_is : (l : Result LichPart Refusal) → l ≡ lich_read_of (take 12 coded) → stream_by r l ≡ stream_read_of body
    stream_is l of-l =
        ap₂ stream_by (of-r ∙ ap (decoded_of Stream) rest) (of-l ∙ ap (λ (c : List ℕ). lich_read_of (take 12 c)) of-coded) ∙ sym stream_long

    -- 3 before 4
    pub stream_refused : (why : Refusal) → r ≡ Err why → Err why ≡ stream_read_of body
    stream_refused why e =
        ap (λ (d : Result (List ℕ) Refusal). stream_by d (lich_read_of (take 12 coded))) (sym e) ∙ stream_is (lich_read_of (take 12 coded)) refl

    module _ (b : List ℕ) (e : r ≡ Ok b) (l : Result LichPart Refusal) (of-l : l ≡ lich_read_of (take 12 coded)) where
      stream_parted : stream_by (Ok b) l ≡ stream_read_of body
      stream_parted = ap (λ (d : Result (List ℕ) Refusal). stream_by d l) (sym e) ∙ stream_is l of-l

      pub stream_done : (part : LichPart) → l ≡ Ok part → Ok (stream_from part b) ≡ stream_read_of body
      stream_done part q = ap (stream_by (Ok b)) (sym q) ∙ stream_parted

      pub stream_unread : (why : Refusal) → l ≡ Err why → Err why ≡ stream_read_of body
      stream_unread why q = ap (stream_by (Ok b)) (sym q) ∙ stream_parted

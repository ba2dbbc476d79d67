-- What is written reads back. Assumes nothing.
use mathlib.Core.Path.{◌≡◌, sym, ap, ◌∙◌}
use mathlib.Core.Bool.{Bool, false}
use mathlib.Core.List.{List, ◌++◌}
use Prim.Native.Nat.{ℕ, ◌-◌, ◌*◌, ◌≤◌, ◌<◌}
use native.Mathlib.Decide.{dec_lt}
use native.Mathlib.Omega.{arith}
use lib.ListN.{length, take, get_or, replicate, length-append, length-replicate}
use lib.Seq.{length-take-le, get_or-take}
use Rattle.std.specs.Prelude.{Result, Ok}
use Rattle.refusal.specs.declared.Refusal.{Refusal}
use Rattle.laws.specs.Value.{Bytes}
use Rattle.laws.proofs.Padded.{padded_at}
use Rattle.bits.specs.Bits.{bits_of, bytes_of}
use Rattle.bits.proofs.Back.{length_bits, length_bytes, bits_bytes, bytes_bits, bytes_alike, take_bytes, padded_bit}
use Rattle.fec.specs.declared.Kind.{Kind}
use Rattle.fec.specs.declared.Kind.TheVariants.{Header, Stream, Packet}
use Rattle.fec.specs.Code.{code, flushed}
use Rattle.fec.specs.Nearest.{read_of}
use Rattle.fec.specs.Kinds.{data_bytes, bits_in, coded_bytes, limit_of, sends_in, coded_of, found, decoded_of}
use Rattle.fec.specs.Search.{sofar}
use Rattle.fec.proofs.Codes.{length-code}
use Rattle.fec.proofs.Answers.{own_read}
use Rattle.fec.proofs.Packed.{kept_past}
use Rattle.fec.proofs.Written.{length-flushed}
use Rattle.fec.proofs.Bodies.{fits, decoded_long}

module _ (k : Kind) (d : List ℕ) (long : length d ≡ data_bytes k) where
  enough : bits_in k ≤ length (bits_of d)
  enough = omega (arith, (fits k).given, length_bits d)

  -- the coded bits that are sent
  sent : List Bool
  sent = code (sends_in k) (flushed (take (bits_in k) (bits_of d)))

  length-sent : length sent ≡ 8 * coded_bytes k
  unfolding sent
  length-sent =
      length-code (sends_in k) (flushed (take (bits_in k) (bits_of d))) ∙ ap (sofar (sends_in k)) (length-flushed (bits_in k) (bits_of d) enough) ∙ (fits k).full

  -- the bytes that the coded bits fill
  sent-bytes : take (coded_bytes k) (coded_of k d) ≡ bytes_of (coded_bytes k) sent
  unfolding sent coded_of
  sent-bytes = take_bytes (coded_bytes k) 46 sent (fits k).short

  -- they read as the first n bits of the data
  pub reads_back : decoded_of k (take (coded_bytes k) (coded_of k d)) ≡ Ok (bytes_of 30 (take (bits_in k) (bits_of d)))
  unfolding sent
  reads_back =
      ap (decoded_of k) sent-bytes ∙ decoded_long k (bytes_of (coded_bytes k) sent) (length_bytes (coded_bytes k) sent)
      ∙ ap (λ (l : List Bool). found (read_of (sends_in k) (bits_in k) (limit_of k) l)) (bits_bytes (coded_bytes k) sent length-sent)
      ∙ ap found (own_read (sends_in k) (bits_in k) (limit_of k) (take (bits_in k) (bits_of d)) (length-take-le (bits_in k) (bits_of d) enough))

  -- and where the bits past them are zero, the bytes of the data, and zeros past these
  pub same_bytes : Bytes d → ((i : ℕ) → bits_in k ≤ i → get_or (bits_of d) i false ≡ false)
      → decoded_of k (take (coded_bytes k) (coded_of k d)) ≡ Ok (d ++ replicate (30 - data_bytes k) 0)
  same_bytes bytes zeros = reads_back ∙ ap {B = Result (List ℕ) Refusal} Ok (bytes_alike 30 (take (bits_in k) (bits_of d)) (bits_of padded) same ∙ whole)
    where
      padded : List ℕ
      padded = d ++ replicate (30 - data_bytes k) 0

      same : (i : ℕ) → i < 8 * 30 → get_or (take (bits_in k) (bits_of d)) i false ≡ get_or (bits_of padded) i false
      same i h = elim (dec_lt i (bits_in k)) [
        | yes l ↦ get_or-take (bits_in k) (bits_of d) i false l ∙ sym (padded_bit d (30 - data_bytes k) i)
        | no n ↦ kept_past (bits_of d) (bits_in k) i (omega arith) ∙ sym (zeros i (omega arith)) ∙ sym (padded_bit d (30 - data_bytes k) i)
      ]

      length-padded : length padded ≡ 30
      length-padded = length-append d (replicate (30 - data_bytes k) 0) ∙ omega (arith, length-replicate {A = ℕ} (30 - data_bytes k) 0, at_most k)
        where
          at_most : (k : Kind) → data_bytes k ≤ 30
          at_most Header = omega arith
          at_most Stream = omega arith
          at_most Packet = omega arith

      whole : bytes_of 30 (bits_of padded) ≡ padded
      whole = ap (λ (m : ℕ). bytes_of m (bits_of padded)) (sym length-padded) ∙ bytes_bits padded (λ i. rw (padded_at 0 d (30 - data_bytes k) i) (bytes i))

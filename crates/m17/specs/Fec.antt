-- The kinds of body as numbers: 0 header, 1 stream, 2 packet; a kind over 2 is refused with 2. Assumes nothing.
use Rattle.std.specs.Prelude.{cond, List, ℕ, eqb, Result, Ok, Err}
use Rattle.refusal.specs.declared.Refusal.{Refusal}
use Rattle.refusal.specs.declared.Refusal.TheVariants.{OutOfRange}
use Rattle.fec.specs.declared.Kind.{Kind}
use Rattle.fec.specs.declared.Kind.TheVariants.{Header, Stream, Packet}
use Rattle.fec.specs.Kinds.{encoded_of, decoded_of}
use Rattle.m17.specs.Given.{and_then}

abbrev pub kind_for : ℕ → Result Kind Refusal
kind_for k = cond (eqb k 0) (Ok Header) (cond (eqb k 1) (Ok Stream) (cond (eqb k 2) (Ok Packet) (Err OutOfRange)))

unfoldable pub coded_of : ℕ → List ℕ → Result (List ℕ) Refusal
coded_of k d = and_then (kind_for k) (λ kind. encoded_of kind d)

unfoldable pub kind_read_of : ℕ → List ℕ → Result (List ℕ) Refusal
kind_read_of k rx = and_then (kind_for k) (λ kind. decoded_of kind rx)

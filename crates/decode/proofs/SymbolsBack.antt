-- What is written as symbols reads back; the zeros, a NaN and the sync symbols. Assumes nothing.
use mathlib.Core.Path.{◌≡◌, refl, sym, ap, ap₂, ◌∙◌}
use mathlib.Core.Bool.{Bool, true, false}
use mathlib.Core.List.{List, [], ◌∷◌, ◌++◌}
use Prim.Native.Nat.{ℕ, zero, suc, ◌+◌, ◌*◌, ◌/◌, ◌%◌, ◌<◌}
use native.Mathlib.Nat.{add-zero}
use native.Mathlib.Omega.{arith}
use lib.IntN.{pos}
use lib.Ieee.{Float, nan, fin, div, neg, lt, round}
use lib.ListN.{length, get_or, drop, length-drop}
use lib.Seq.{drop_at, get_or-drop}
use borrow.Author.Tests.{eq-eqb}
use Rattle.std.specs.Prelude.{Result, Ok}
use Rattle.refusal.specs.declared.Refusal.{Refusal}
use Rattle.laws.specs.Value.{Bytes}
use Rattle.laws.proofs.Values.{length-tabled, tabled_at}
use Rattle.bits.specs.Bits.{bits_of, bytes_of}
use Rattle.bits.proofs.Back.{bytes_bits, bytes_alike, drop_bits}
use Rattle.fec.specs.declared.Kind.{Kind}
use Rattle.fec.specs.declared.Kind.TheVariants.{Header, Stream, Packet}
use Rattle.encode.specs.Symbols.{third, symbol_of, symbols_of, frame_of, sync_of}
use Rattle.decode.specs.Symbols.{edge, pair_of, pairs_of, body_from, body_read_of}
use Rattle.decode.proofs.Pairs.{pair_at}

-- the exact round trip of two bits through an f32
pub pair_back : (a b : Bool) → pair_of (symbol_of a b) ≡ a ∷ b ∷ []
unfolding symbol_of pair_of third edge div neg lt round
pair_back false true = refl
pair_back false false = refl
pair_back true false = refl
pair_back true true = refl

-- either zero reads as 10
pub zero_reads : pair_of (fin false 0 (pos 0)) ≡ true ∷ false ∷ []
unfolding pair_of edge neg lt round
zero_reads = refl

pub minus_zero_reads : pair_of (fin true 0 (pos 0)) ≡ true ∷ false ∷ []
unfolding pair_of edge neg lt round
minus_zero_reads = refl

-- a NaN as 11
pub nan_reads : pair_of nan ≡ true ∷ true ∷ []
unfolding pair_of edge neg lt round
nan_reads = refl

-- the eight sync symbols are not looked at
pub sync_unread : (xs ys : List Float) → drop 8 xs ≡ drop 8 ys → body_from xs ≡ body_from ys
unfolding body_from
sync_unread xs ys e = ap (λ (l : List Float). bytes_of 46 (pairs_of l)) e

pub length_frame : (sync body : List ℕ) → length (frame_of sync body) ≡ 192
unfolding symbols_of
length_frame sync body = length-tabled _ 192

module _ (sync body : List ℕ) (two : length sync ≡ 2) where
  symbol_at_lem : (k : ℕ) → k < 192 → get_or (frame_of sync body) k nan ≡ symbol_of (get_or (bits_of (sync ++ body)) (2 * k) false) (get_or (bits_of (sync ++ body)) (2 * k + 1) false)
  unfolding symbols_of
  symbol_at_lem k h = tabled_at _ 192 k nan h

  -- the bits past the sync word are the body's
  past_sync : (m n : ℕ) → m ≡ 16 + n → get_or (bits_of (sync ++ body)) m false ≡ get_or (bits_of body) n false
  past_sync m n e =
      ap (λ (k : ℕ). get_or (bits_of (sync ++ body)) k false) e ∙ sym (get_or-drop 16 (bits_of (sync ++ body)) n false)
      ∙ ap (λ (l : List Bool). get_or l n false) (drop_bits 2 (sync ++ body) ∙ ap bits_of (drop_at sync body 2 two))

  symbol_of_body : (k : ℕ) → k < 184 → get_or (drop 8 (frame_of sync body)) k nan ≡ symbol_of (get_or (bits_of body) (2 * k) false) (get_or (bits_of body) (2 * k + 1) false)
  symbol_of_body k h =
      get_or-drop 8 (frame_of sync body) k nan ∙ symbol_at_lem (8 + k) (omega arith)
      ∙ ap₂ symbol_of (past_sync (2 * (8 + k)) (2 * k) (omega arith)) (past_sync (2 * (8 + k) + 1) (2 * k + 1) (omega arith))

  one_of : (k c : ℕ) → c < 2 → get_or (get_or (bits_of body) (2 * k) false ∷ get_or (bits_of body) (2 * k + 1) false ∷ []) c false ≡ get_or (bits_of body) (2 * k + c) false
  one_of k zero h = ap (λ (n : ℕ). get_or (bits_of body) n false) (sym (add-zero (2 * k)))
  one_of k (suc zero) h = refl
  one_of k (suc (suc c)) h = absurd (omega arith)

  bit_back : (k c : ℕ) → k < 184 → c < 2 → get_or (pairs_of (drop 8 (frame_of sync body))) (2 * k + c) false ≡ get_or (bits_of body) (2 * k + c) false
  bit_back k c h b =
      pair_at (drop 8 (frame_of sync body)) k c (omega (arith, length-drop 8 (frame_of sync body), length_frame sync body)) b
      ∙ ap (λ (p : List Bool). get_or p c false) (ap pair_of (symbol_of_body k h) ∙ pair_back (get_or (bits_of body) (2 * k) false) (get_or (bits_of body) (2 * k + 1) false))
      ∙ one_of k c b

-- a frame written from a sync word and a body reads as the body
pub symbols_back : (sync body : List ℕ) → length body ≡ 46 → Bytes body → length sync ≡ 2 → body_from (frame_of sync body) ≡ body
unfolding body_from
symbols_back sync body long bytes two =
    bytes_alike 46 (pairs_of (drop 8 (frame_of sync body))) (bits_of body)
    (λ n h.
    let e : n ≡ 2 * (n / 2) + n % 2 = omega arith in
    ap (λ (k : ℕ). get_or (pairs_of (drop 8 (frame_of sync body))) k false) e
    ∙ bit_back sync body two (n / 2) (n % 2) (omega arith) (omega arith) ∙ ap (λ (k : ℕ). get_or (bits_of body) k false) (sym e))
    ∙ ap (λ (n : ℕ). bytes_of n (bits_of body)) (sym long) ∙ bytes_bits body bytes

sync_long : (kind : Kind) → length (sync_of kind) ≡ 2
sync_long Header = refl
sync_long Stream = refl
sync_long Packet = refl

-- 46 bytes written as symbols, of any kind, read as those bytes
pub body_back : (kind : Kind) (body : List ℕ) → length body ≡ 46 → Bytes body → body_read_of (frame_of (sync_of kind) body) ≡ Ok body
unfolding body_read_of
body_back kind body long bytes =
    simp (eq-eqb (length (frame_of (sync_of kind) body)) 192 (length_frame (sync_of kind) body))
    (ap {B = Result (List ℕ) Refusal} Ok (symbols_back (sync_of kind) body long bytes (sync_long kind)))

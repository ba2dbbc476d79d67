-- A packet slot where frame n is expected, in the code's values: the answer with the next state, and memory. Assumes nothing.
use mathlib.Core.Path.{◌≡◌, sym, ap, ◌∙◌}
use mathlib.Core.List.{List, ◌++◌}
use Prim.Native.Nat.{ℕ, ◌+◌, ◌*◌, ◌≤◌, ◌<◌}
use native.Mathlib.Numerals.{add-one}
use native.Mathlib.Omega.{arith}
use lib.ListN.{take}
use borrow.Author.Tests.{eq-eqb, ne_eqb, lt-ltb, le-ltb}
use Rattle.refusal.specs.declared.Refusal.{Refusal}
use Rattle.refusal.specs.declared.Refusal.TheVariants.{OutOfTurn, BadFinal, TooShort, BadPacket}
use Rattle.std.specs.Prelude.{Ok, Err}
use Rattle.laws.specs.Value.{Bytes}
use Rattle.laws.proofs.Bytes.{bytes_take}
use Rattle.crc.specs.Crc.{crc, crc_from}
use Rattle.crc.proofs.Parts.{crc_append}
use Rattle.automaton.specs.Seen.{piece, final}
use Rattle.automaton.specs.Step.{idle, in_packet, stored, packet, refused, put, verdict, judge, next, answer, kept}
use Rattle.receiver.specs.declared.Received.{Received}
use Rattle.receiver.specs.Receiver.{received_from}
use Rattle.receiver.proofs.Taken.{Takes}

module _ (n k : ℕ) (b m m' : List ℕ) (r : Received) where
  pub piece_other : (k ≡ n → ⊥) → r ≡ received_from idle (refused OutOfTurn) → Takes (in_packet n) m (piece k b) r m
  unfolding next answer kept
  piece_other h q = (rw (ne_eqb k n h) q, rw (ne_eqb k n h))

  pub piece_stored : k ≡ n → r ≡ received_from (in_packet (n + 1)) (stored n) → m' ≡ put (25 * n) b m → Takes (in_packet n) m (piece k b) r m'
  unfolding next answer kept
  piece_stored e q w = (rw (eq-eqb k n e, e, ← add-one) q, rw (eq-eqb k n e, e) w)

-- ---- a final frame

module _ (n len : ℕ) (b m : List ℕ) (r : Received) where
  by_refusal : (why : Refusal) → judge (in_packet n) m len b ≡ Err why → r ≡ received_from idle (refused why) → Takes (in_packet n) m (final len b) r m
  unfolding next answer kept
  by_refusal why e q = (rw e q, rw e)

  pub final_empty : len ≡ 0 → r ≡ received_from idle (refused BadFinal) → Takes (in_packet n) m (final len b) r m
  unfolding verdict
  final_empty z = by_refusal BadFinal (rw (eq-eqb len 0 z))

  module _ (z : len ≡ 0 → ⊥) where
    pub final_long : 25 < len → r ≡ received_from idle (refused BadFinal) → Takes (in_packet n) m (final len b) r m
    unfolding verdict
    final_long h = by_refusal BadFinal (rw (ne_eqb len 0 z, lt-ltb 25 len h))

    module _ (h : len ≤ 25) where
      pub final_short : 25 * n + len < 3 → r ≡ received_from idle (refused TooShort) → Takes (in_packet n) m (final len b) r m
      unfolding verdict
      final_short s = by_refusal TooShort (rw (ne_eqb len 0 z, le-ltb 25 len h, lt-ltb (25 * n + len) 3 s))

      module _ (s : 3 ≤ 25 * n + len) (bm : Bytes m) (bb : Bytes b) (first sum : ℕ) (first_is : first ≡ crc (take (25 * n) m)) (sum_is : sum ≡ crc_from first (take len b)) where
        all : crc (take (25 * n) m ++ take len b) ≡ sum
        unfolding crc
        all =
            let low : 65535 < 65536 = omega arith in
            crc_append 65535 (take (25 * n) m) (take len b) low (bytes_take (25 * n) m bm) (bytes_take len b bb)
            ∙ sym (sum_is ∙ ap (λ (x : ℕ). crc_from x (take len b)) first_is)

        pub final_wrong : (sum ≡ 0 → ⊥) → r ≡ received_from idle (refused BadPacket) → Takes (in_packet n) m (final len b) r m
        unfolding verdict
        final_wrong w = by_refusal BadPacket (rw (ne_eqb len 0 z, le-ltb 25 len h, le-ltb (25 * n + len) 3 s, all, ne_eqb sum 0 w))

        good : sum ≡ 0 → judge (in_packet n) m len b ≡ Ok tt
        unfolding verdict
        good w = rw (ne_eqb len 0 z, le-ltb 25 len h, le-ltb (25 * n + len) 3 s, all, eq-eqb sum 0 w)

        pub final_right : sum ≡ 0 → (m' : List ℕ) → r ≡ received_from idle (packet (25 * n + len)) → m' ≡ put (25 * n) (take len b) m → Takes (in_packet n) m (final len b) r m'
        unfolding next answer kept
        final_right w m' q p = (rw (good w) q, rw (good w) p)

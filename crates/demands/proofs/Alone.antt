-- What 48 bytes are refused with by themselves: 7, 3, 4 or 5, whatever came before them. Assumes nothing.
use mathlib.Core.Path.{◌≡◌, sym, ap, ◌∙◌, subst}
use mathlib.Core.Logic.{inl, inr}
use mathlib.Core.List.{List, [], ◌∷◌}
use Prim.Native.Nat.{ℕ, ◌≤◌}
use native.Mathlib.Omega.{arith}
use lib.Dec.{eqb}
use lib.ListN.{length, take, drop, length-drop}
use Rattle.laws.specs.Value.{value_of}
use Rattle.refusal.specs.Number.{number_of, said_of}
use Rattle.refusal.specs.declared.Refusal.{Refusal}
use Rattle.refusal.specs.declared.Refusal.TheVariants.{WrongLength, OutOfRange, TooFar, BadGolay, BadHeader, BadAddress, UnknownSync, OutOfTurn, BadFinal, TooShort, BadPacket, BadState, BadSample, Ended, Full}
use Rattle.std.specs.Prelude.{Result, Ok, Err}
use Rattle.crc.specs.Crc.{crc}
use Rattle.protocol.specs.declared.LsfFrame.{LsfFrame}
use Rattle.protocol.specs.declared.StreamFrame.{StreamFrame}
use Rattle.protocol.specs.declared.PacketFrame.{PacketFrame}
use Rattle.protocol.specs.declared.PacketFrameCounter.{PacketFrameCounter}
use Rattle.protocol.specs.declared.PacketFrameCounter.TheVariants.{Frame, FinalFrame}
use Rattle.decode.specs.Bodies.{lsf_read_of, stream_read_of, packet_read_of}
use Rattle.decode.specs.When.{OneOf}
use Rattle.decode.proofs.When as reading
use Rattle.automaton.specs.Seen.{Seen, unread}
use Rattle.automaton.proofs.Cases.{never, by_test}
use Rattle.receiver.specs.See.{header_seen, stream_seen, counted, packet_seen, see}

-- no refusal has the number 0
pub some_number : (w : Refusal) → number_of w ≡ 0 → ⊥
some_number WrongLength e = omega arith
some_number OutOfRange e = omega arith
some_number TooFar e = omega arith
some_number BadGolay e = omega arith
some_number BadHeader e = omega arith
some_number BadAddress e = omega arith
some_number UnknownSync e = omega arith
some_number OutOfTurn e = omega arith
some_number BadFinal e = omega arith
some_number TooShort e = omega arith
some_number BadPacket e = omega arith
some_number BadState e = omega arith
some_number BadSample e = omega arith
some_number Ended e = omega arith
some_number Full e = omega arith

-- those that a slot by itself is refused with
abbrev pub Alone : ℕ → Type 0
Alone n = OneOf n (3 ∷ 4 ∷ 5 ∷ 7 ∷ [])

-- a body's refusal: 3 or 4, for a body of 46 bytes
body_number : (v w : Refusal) → unread v ≡ unread w → (number_of v ≡ 1 → ⊥) → OneOf (number_of v) (0 ∷ 1 ∷ 3 ∷ 4 ∷ []) → Alone (number_of w)
body_number v w e long only = let q : v ≡ w = cc in subst (λ (k : Refusal). Alone (number_of k)) q (by only)
  where
    by : OneOf (number_of v) (0 ∷ 1 ∷ 3 ∷ 4 ∷ []) → Alone (number_of v)
    by (inl z) = absurd (some_number v z)
    by (inr (inl z)) = absurd (long z)
    by (inr (inr (inl z))) = inl z
    by (inr (inr (inr (inl z)))) = inr (inl z)
    by (inr (inr (inr (inr x)))) = elim x [ ]

three_is : (n : ℕ) → OneOf n (0 ∷ 1 ∷ 3 ∷ []) → OneOf n (0 ∷ 1 ∷ 3 ∷ 4 ∷ [])
three_is n (inl z) = inl z
three_is n (inr (inl z)) = inr (inl z)
three_is n (inr (inr (inl z))) = inr (inr (inl z))
three_is n (inr (inr (inr x))) = elim x [ ]

header_number : (r : Result LsfFrame Refusal) (w : Refusal) → (said_of r ≡ 1 → ⊥) → OneOf (said_of r) (0 ∷ 1 ∷ 3 ∷ []) → header_seen r ≡ unread w → Alone (number_of w)
header_number (Ok f) w long only e =
    by_test (λ (s : Seen). s ≡ unread w → Alone (number_of w)) (eqb (crc f.bytes) 0) (λ z q. never (cc))
    (λ z q. let bad : BadHeader ≡ w = cc in inr (inr (inl (sym (ap number_of bad))))) e
header_number (Err why) w long only e = body_number why w e long (three_is (number_of why) only)

stream_number : (r : Result StreamFrame Refusal) (w : Refusal) → (said_of r ≡ 1 → ⊥) → OneOf (said_of r) (0 ∷ 1 ∷ 3 ∷ 4 ∷ []) → stream_seen r ≡ unread w → Alone (number_of w)
stream_number (Ok f) w long only e = never (cc)
stream_number (Err why) w long only e = body_number why w e long only

counted_reads : (c : PacketFrameCounter) (b : List ℕ) (w : Refusal) → counted c b ≡ unread w → ⊥
counted_reads (Frame k) b w e = never (cc)
counted_reads (FinalFrame len) b w e = never (cc)

packet_number : (r : Result PacketFrame Refusal) (w : Refusal) → (said_of r ≡ 1 → ⊥) → OneOf (said_of r) (0 ∷ 1 ∷ 3 ∷ []) → packet_seen r ≡ unread w → Alone (number_of w)
packet_number (Ok f) w long only e = absurd (counted_reads f.counter f.payload w e)
packet_number (Err why) w long only e = body_number why w e long (three_is (number_of why) only)

-- what 48 bytes are refused with by themselves
pub unread_number : (x : List ℕ) (w : Refusal) → length x ≡ 48 → see x ≡ unread w → Alone (number_of w)
unfolding see
unread_number x w long =
    by_test Here (eqb sync 0x55F7)
    (λ e. header_number (lsf_read_of body) w (λ z. (reading.lsf_when body).wrong z left) (reading.lsf_when body).only)
    (λ e. by_test Here (eqb sync 0xFF5D)
    (λ f. stream_number (stream_read_of body) w (λ z. (reading.stream_when body).wrong z left) (reading.stream_when body).only)
    (λ f. by_test Here (eqb sync 0x75FF)
    (λ g. packet_number (packet_read_of body) w (λ z. (reading.packet_when body).wrong z left) (reading.packet_when body).only)
    (λ g. by_test Here (eqb sync 0x555D) (λ i q. never (cc)) (λ i q. let r : UnknownSync ≡ w = cc in inr (inr (inr (inl (sym (ap number_of r)))))))))
  where
    sync : ℕ
    sync = value_of (take 2 x)

    body : List ℕ
    body = drop 2 x

    left : length (drop 2 x) ≡ 46
    left = length-drop 2 x ∙ omega arith

    Here : Seen → Type 0
    Here s = s ≡ unread w → Alone (number_of w)

-- the numbers from 8 on are not among them
pub not_alone : (x : List ℕ) (w : Refusal) → length x ≡ 48 → 8 ≤ number_of w → see x ≡ unread w → ⊥
not_alone x w long over e = small (unread_number x w long e)
  where
    small : Alone (number_of w) → ⊥
    small (inl q) = omega arith
    small (inr (inl q)) = omega arith
    small (inr (inr (inl q))) = omega arith
    small (inr (inr (inr (inl q)))) = omega arith
    small (inr (inr (inr (inr q)))) = elim q [ ]

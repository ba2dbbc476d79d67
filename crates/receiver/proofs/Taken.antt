-- What the automaton does at what each kind of body says, in the code's values. Assumes nothing.
use mathlib.Core.Path.{◌≡◌, refl, sym, ap, ◌∙◌}
use mathlib.Core.Bool.{Bool, true, false, cond}
use mathlib.Core.List.{List, []}
use Prim.Native.Nat.{ℕ, ◌≤◌}
use lib.Dec.{eqb}
use borrow.Author.Tests.{eq-eqb, ne_eqb, leb-true}
use Rattle.std.specs.Prelude.{Result, Ok, Err}
use Rattle.std.specs.Result.{IsErr, IsErrAnd}
use Rattle.refusal.specs.declared.Refusal.{Refusal}
use Rattle.refusal.specs.declared.Refusal.TheVariants.{BadHeader, OutOfTurn}
use Rattle.crc.specs.Crc.{crc}
use Rattle.protocol.specs.declared.Mode.{Mode}
use Rattle.protocol.specs.declared.LsfFrame.{LsfFrame}
use Rattle.protocol.specs.declared.StreamFrame.{StreamFrame}
use Rattle.protocol.specs.declared.PacketFrameCounter.{PacketFrameCounter}
use Rattle.protocol.specs.declared.PacketFrameCounter.TheVariants.{Frame, FinalFrame}
use Rattle.protocol.specs.Numbers.{mode_of}
use Rattle.protocol.specs.Fields.{mode_bits, field}
use Rattle.automaton.specs.Seen.{Seen, head, end, unread, streams}
use Rattle.automaton.specs.Step.{State, idle, in_packet, header, ended, refused, next, answer, kept}
use Rattle.receiver.specs.declared.Phase.{Phase}
use Rattle.receiver.specs.declared.Phase.TheVariants.{Idle, Packet, Gathering}
use Rattle.receiver.specs.declared.Received.{Received}
use Rattle.receiver.specs.See.{header_seen, stream_seen, counted}
use Rattle.receiver.specs.declared.Receiver.{Receiver}
use Rattle.receiver.specs.declared.Answer.{Answer}
use Rattle.receiver.specs.Receiver.{meaning, within, padded, outcome_of, received_from, taken}
use Rattle.decode.proofs.Steps.{handed}

-- r and m' are what the automaton makes of s in state st with memory m
abbrev pub Takes : State → List ℕ → Seen → Received → List ℕ → Type 0
Takes st m s r m' = (r ≡ taken st m s) × (m' ≡ kept st m s)

-- a slot that does not read closes what was open
pub unread_takes : (st : State) (m : List ℕ) (why : Refusal) (s : Seen) (r : Received) → unread why ≡ s → r ≡ received_from idle (refused why) → Takes st m s r m
unfolding next answer kept
unread_takes st m why s r e q = (q ∙ ap (taken st m) e, ap (kept st m) e)

-- what comes of a step that told, and of one that hands a refusal on
pub told_comes : (p : Answer × Receiver) (a : Answer) (ph : Phase) → p ≡ (a, record { phase = ph; parts = padded [] })
    → outcome_of (Ok p) ≡ record { answer = Ok a; next = record { phase = ph; parts = padded [] } }
told_comes p a ph e = ap (λ (q : Answer × Receiver). outcome_of (Ok q)) e

pub handed_comes : (why : Refusal) (x : Result (Answer × Receiver) Refusal) → IsErr x × IsErrAnd x (λ y. y ≡ why) → outcome_of x ≡ received_from idle (refused why)
handed_comes why x q = ap outcome_of (handed why x q)

-- ---- a header slot

pub opens : (h : List ℕ) (m : Mode) → mode_of (field mode_bits h) ≡ m → received_from (cond (streams m) idle (in_packet 0)) (header h) ≡ taken idle [] (head h)
unfolding next answer
opens h m e = ap (λ (k : Mode). received_from (cond (streams k) idle (in_packet 0)) (header h)) (sym e)

pub header_good : (f : LsfFrame) → crc f.bytes ≡ 0 → header_seen (Ok f) ≡ head f.bytes
header_good f z = rw (eq-eqb (crc f.bytes) 0 z)

pub header_bad : (f : LsfFrame) → (crc f.bytes ≡ 0 → ⊥) → unread BadHeader ≡ header_seen (Ok f)
header_bad f z = rw (ne_eqb (crc f.bytes) 0 z)

-- ---- of a header neither state nor memory matters, of a stream frame memory does not

module _ (st : State) (m : List ℕ) (r : Received) where
  header_when : (x : Bool) (h : List ℕ) → r ≡ taken idle [] (cond x (head h) (unread BadHeader)) → Takes st m (cond x (head h) (unread BadHeader)) r m
  unfolding next answer kept
  header_when true h q = (q, refl)
  header_when false h q = (q, refl)

  pub header_takes : (x : Result LsfFrame Refusal) → r ≡ taken idle [] (header_seen x) → Takes st m (header_seen x) r m
  unfolding next answer kept
  header_takes (Ok f) q = header_when (eqb (crc f.bytes) 0) f.bytes q
  header_takes (Err why) q = (q, refl)

  pub stream_takes : (x : Result StreamFrame Refusal) → r ≡ taken st [] (stream_seen x) → Takes st m (stream_seen x) r m
  unfolding next answer kept
  stream_takes (Ok f) q = (q, refl)
  stream_takes (Err why) q = (q, refl)

-- ---- a packet slot

pub within_packet : (ph : Phase) (n : ℕ) → ph ≡ Packet n → within ph ≡ true → n ≤ 32
within_packet ph n e w = leb-true n 32 (sym (ap within e) ∙ w)

-- where no packet is open
pub not_open : (ph : Phase) (parts m : List ℕ) (c : PacketFrameCounter) (b : List ℕ) (r : Received) → ((x : ℕ) → ph ≡ Packet x → ⊥)
    → r ≡ received_from idle (refused OutOfTurn) → Takes (meaning ph parts) m (counted c b) r m
unfolding next answer kept
not_open Idle parts m (Frame k) b r t q = (q, refl)
not_open Idle parts m (FinalFrame len) b r t q = (q, refl)
not_open (Packet n) parts m c b r t q = absurd (t n refl)
not_open (Gathering j) parts m (Frame k) b r t q = (q, refl)
not_open (Gathering j) parts m (FinalFrame len) b r t q = (q, refl)

-- ---- the end of transmission

pub end_takes : (st : State) (m : List ℕ) (r : Received) → r ≡ received_from idle ended → Takes st m end r m
unfolding next answer kept
end_takes st m r q = (q, refl)

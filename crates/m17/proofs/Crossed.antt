-- A state which crosses to C and comes back is the same, so that feeding slots from C is feeding the receiver. Assumes nothing.
use mathlib.Core.Path.{◌≡◌, refl, ap}
use borrow.Author.Tests.{eq-eqb, ne_eqb}
use Rattle.refusal.specs.Number.{said_of}
use Rattle.receiver.specs.declared.Phase.{Phase}
use Rattle.receiver.specs.declared.Phase.TheVariants.{Idle, Packet, Gathering}
use Rattle.receiver.specs.declared.Receiver.{Receiver}
use Rattle.receiver.specs.declared.Received.{Received}
use Rattle.m17.specs.declared.M17Receiver.{M17Receiver}
use Rattle.m17.specs.Receiving.{phase_from, held_by, phase_number, phase_count, state_for, crossed}

phase_back : (p : Phase) → phase_from (phase_number p) (phase_count p) ≡ p
phase_back Idle = refl
phase_back (Packet n) = refl
phase_back (Gathering k) = refl

-- a state is the same on its way to C and back
pub held_back : (r : Receiver) → held_by (state_for r) ≡ r
held_back r = ap {B = Receiver} (λ (p : Phase). record { phase = p; parts = r.parts }) (phase_back r.phase)

module _ (s : M17Receiver) (r : Received) where
  -- so the state that C hands in with the next slot is the receiver's next state
  pub goes_on : (said_of r.answer ≡ 1 → ⊥) → (said_of r.answer ≡ 12 → ⊥) → held_by (crossed s r).next ≡ r.next
  goes_on a b = rw (ne_eqb (said_of r.answer) 1 a, ne_eqb (said_of r.answer) 12 b) (held_back r.next)

  -- and after 1 and 12 it is the one that was handed in
  pub stays_1 : said_of r.answer ≡ 1 → (crossed s r).next ≡ s
  stays_1 e = rw (eq-eqb (said_of r.answer) 1 e)

  pub stays_12 : said_of r.answer ≡ 12 → (crossed s r).next ≡ s
  stays_12 e = rw e

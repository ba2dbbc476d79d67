-- From what each kind of slot does to what a slot does. Assumes nothing.
use mathlib.Core.Path.{◌≡◌, sym, ap₂, ◌∙◌}
use mathlib.Core.Bool.{true, false}
use mathlib.Core.List.{List}
use Prim.Native.Nat.{ℕ, ◌+◌, ◌-◌, ◌*◌}
use native.Mathlib.Omega.{arith}
use lib.ListN.{length, get_or, take, drop, length-drop}
use lib.Seq.{take_all}
use borrow.Author.Tests.{eq-eqb, ne_eqb}
use Rattle.laws.specs.Value.{value_of}
use Rattle.refusal.specs.declared.Refusal.TheVariants.{WrongLength, BadState, UnknownSync}
use Rattle.decode.proofs.Words.{value_two}
use Rattle.automaton.specs.Seen.{Seen, unread}
use Rattle.receiver.specs.declared.Receiver.{Receiver}
use Rattle.receiver.specs.declared.Received.{Received}
use Rattle.receiver.specs.See.{seen_by, see}
use Rattle.receiver.specs.Receiver.{state_of, within, unchanged, received_of, memory_of}
use Rattle.receiver.proofs.Taken.{Takes}

module _ (self : Receiver) (slot m : List ℕ) where
  behind_is : take (length slot - 2) (drop 2 slot) ≡ drop 2 slot
  behind_is = take_all (length slot - 2) (drop 2 slot) (omega (arith, length-drop 2 slot))

  -- the answer with the next state, and memory, after the slot
  abbrev pub Heard : Received → List ℕ → Type 0
  Heard r m' = (r ≡ received_of self slot m) × (m' ≡ memory_of self slot m)

  pub no_slot : (r : Received) → (length slot ≡ 48 → ⊥) → r ≡ unchanged WrongLength self → Heard r m
  unfolding received_of memory_of
  no_slot r h q = (rw (ne_eqb (length slot) 48 h) q, rw (ne_eqb (length slot) 48 h))

  module _ (long : length slot ≡ 48) where
    pub no_memory : (r : Received) → (length m ≡ 825 → ⊥) → r ≡ unchanged WrongLength self → Heard r m
    unfolding received_of memory_of
    no_memory r h q = (rw (eq-eqb (length slot) 48 long, ne_eqb (length m) 825 h) q, rw (eq-eqb (length slot) 48 long, ne_eqb (length m) 825 h))

    module _ (room : length m ≡ 825) where
      pub no_state : (r : Received) → within self.phase ≡ false → r ≡ unchanged BadState self → Heard r m
      unfolding received_of memory_of
      no_state r h q = (rw (eq-eqb (length slot) 48 long, eq-eqb (length m) 825 room, h) q, rw (eq-eqb (length slot) 48 long, eq-eqb (length m) 825 room, h))

      -- what stands behind the sync word is read as it says
      module _ (ok : within self.phase ≡ true) (sync : ℕ) (sync_is : sync ≡ get_or slot 0 0 * 256 + get_or slot 1 0) where
        seen : see slot ≡ seen_by sync (take (length slot - 2) (drop 2 slot))
        unfolding see
        seen = let e : value_of (take 2 slot) ≡ sync = value_two slot (omega arith) ∙ sym sync_is in ap₂ seen_by e (sym behind_is)

        pub heard : (s : Seen) (r : Received) (m' : List ℕ) → seen_by sync (take (length slot - 2) (drop 2 slot)) ≡ s → Takes (state_of self) m s r m' → Heard r m'
        unfolding received_of memory_of
        heard s r m' e h = (
          rw (eq-eqb (length slot) 48 long, eq-eqb (length m) 825 room, ok, seen, e) h.0,
          rw (eq-eqb (length slot) 48 long, eq-eqb (length m) 825 room, ok, seen, e) h.1,
        )

-- a sync word that is none of the four
pub none_seen : (sync : ℕ) (body : List ℕ) → (sync ≡ 0x55F7 → ⊥) → (sync ≡ 0xFF5D → ⊥) → (sync ≡ 0x75FF → ⊥) → (sync ≡ 0x555D → ⊥) → seen_by sync body ≡ unread UnknownSync
none_seen sync body not_header not_stream not_packet not_end =
    rw (ne_eqb sync 0x55F7 not_header, ne_eqb sync 0xFF5D not_stream, ne_eqb sync 0x75FF not_packet, ne_eqb sync 0x555D not_end)

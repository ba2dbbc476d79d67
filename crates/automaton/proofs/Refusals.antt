-- A packet slot is refused with 8 exactly when it is out of turn or no packet is open, and with 9, 10 and 11 exactly when it is a final frame, a
-- packet is open, and its length, the total or the CRC is wrong. Assumes nothing.
use mathlib.Core.Path.{◌≡◌, refl, sym, ap, ◌∙◌, subst}
use mathlib.Core.Logic.{◌↔◌, ◌⊎◌, inl, inr}
use mathlib.Core.Bool.{true, cond}
use mathlib.Core.List.{List, ◌++◌}
use Prim.Native.Nat.{ℕ, ◌+◌, ◌*◌, ◌≤◌, ◌<◌}
use lib.ListN.{take}
use borrow.Author.Tests.{eqb-true, eq-eqb}
use Rattle.refusal.specs.declared.Refusal.{Refusal}
use Rattle.refusal.specs.declared.Refusal.TheVariants.{OutOfTurn, BadFinal, TooShort, BadPacket}
use Rattle.std.specs.Prelude.{⊤, Result, Ok, Err}
use Rattle.crc.specs.Crc.{crc}
use Rattle.automaton.specs.Seen.{Seen, head, piece, final, stream, end, unread}
use Rattle.automaton.specs.Step.{State, idle, in_packet, gathering, Answer, stored, refused, expects, verdict, judge, told, answer}
use Rattle.automaton.specs.Runs.{Slots, AllSound, state, memory, said, join}
use Rattle.automaton.specs.Opened.{Pieces, Closing, Opened}
use Rattle.automaton.proofs.Cases.{never, by_test}
use Rattle.automaton.proofs.Verdicts as verdicts
use Rattle.automaton.proofs.Opened.{opened}
use Rattle.automaton.proofs.Held.{held, begins}

pub told_only : (total : ℕ) (v : Result ⊤ Refusal) (why : Refusal) → told total v ≡ refused why → v ≡ Err why
told_only total (Ok x) why e = never (cc)
told_only total (Err w) why e = let q : w ≡ why = cc in ap Err q

-- frame k is in turn only after a packet header and frames 0 to k - 1
pub expected : (st : State) (k : ℕ) (gone : Slots) → expects st k ≡ true → Opened st gone → Pieces k gone
expected idle k gone e o = never (cc)
expected (in_packet n) k gone e o = subst (λ (j : ℕ). Pieces j gone) (sym (eqb-true k n e)) o
expected (gathering j q) k gone e o = never (cc)

module _ (m : List ℕ) (gone : Slots) (os : AllSound gone) where
  -- ---- while a packet is open

  pub in_turn : (n : ℕ) → Pieces n gone → state gone ≡ in_packet n
  in_turn n g = (held m gone g.before g.h g.bs g.slots g.packets os).turn ∙ ap in_packet g.many

  -- a final frame is judged by the pieces that came and its own bytes
  judged : (n : ℕ) (g : Pieces n gone) (len : ℕ) (b : List ℕ)
      → judge (state gone) (memory m gone) len b ≡ verdict n len (crc (join g.bs ++ take len b))
  judged n g len b =
      let q : take (25 * n) (memory m gone) ≡ join g.bs = rw (← g.many) (begins m _ gone _ _ (held m gone g.before g.h g.bs g.slots g.packets os)) in
      rw (in_turn n g, q)

  -- ---- 8

  pub refused_8 : (s : Seen) → (s ≡ unread OutOfTurn → ⊥)
      → ((said m gone s).answer ≡ refused OutOfTurn)
      ↔ (((k : ℕ) × (b : List ℕ) × (s ≡ piece k b) × (Pieces k gone → ⊥)) ⊎ ((len : ℕ) × (b : List ℕ) × (s ≡ final len b) × ((n : ℕ) → Pieces n gone → ⊥)))
  unfolding answer
  refused_8 s alone = (only s alone, if s)
    where
      Eight : Seen → Type 0
      Eight s = ((k : ℕ) × (b : List ℕ) × (s ≡ piece k b) × (Pieces k gone → ⊥)) ⊎ ((len : ℕ) × (b : List ℕ) × (s ≡ final len b) × ((n : ℕ) → Pieces n gone → ⊥))

      out : (k : ℕ) → cond (expects (state gone) k) (stored k) (refused OutOfTurn) ≡ refused OutOfTurn → Pieces k gone → ⊥
      out k e g =
          let t : cond (expects (state gone) k) (stored k) (refused OutOfTurn) ≡ stored k = rw (in_turn k g, eq-eqb k k refl) in never (cc)

      only : (s : Seen) → (s ≡ unread OutOfTurn → ⊥) → (said m gone s).answer ≡ refused OutOfTurn → Eight s
      only (head h) alone e = never (cc)
      only (piece k b) alone e = inl (k, b, refl, out k e)
      only (final len b) alone e = inr (len, b, refl, λ n g. verdicts.not_eight n len _ (sym (judged n g len b) ∙ told_only _ _ OutOfTurn e))
      only (stream c p f) alone e = never (cc)
      only end alone e = never (cc)
      only (unread why) alone e = let q : why ≡ OutOfTurn = cc in absurd (alone (ap unread q))

      none_open : (st : State) → Opened st gone → ((n : ℕ) → Pieces n gone → ⊥) → (len : ℕ) (b : List ℕ) → judge st (memory m gone) len b ≡ Err OutOfTurn
      none_open idle o none len b = refl
      none_open (in_packet n) o none len b = absurd (none n o)
      none_open (gathering k q) o none len b = refl

      if : (s : Seen) → Eight s → (said m gone s).answer ≡ refused OutOfTurn
      if s (inl (k, b, slot, none)) =
          rw slot
          (by_test (λ (a : Answer). a ≡ refused OutOfTurn) (expects (state gone) k) (λ e. absurd (none (expected (state gone) k gone e (opened gone)))) (λ e. refl))
      if s (inr (len, b, slot, none)) = rw (slot, none_open (state gone) (opened gone) none len b)

  -- ---- 9, 10 and 11

  module _ (s : Seen) (why : Refusal) (alone : s ≡ unread why → ⊥) (other : OutOfTurn ≡ why → ⊥) where
    abbrev Judged : Seen → Type 0
    Judged s = (c : Closing gone s) × (verdict c.n c.len (crc c.bytes) ≡ Err why)

    closing : ((said m gone s).answer ≡ refused why) ↔ Judged s
    unfolding answer
    closing = (only s alone, if)
      where
        there_is : (st : State) → Opened st gone → (len : ℕ) (b : List ℕ) → judge st (memory m gone) len b ≡ Err why → (n : ℕ) × Pieces n gone
        there_is idle o len b e = absurd (other cc)
        there_is (in_packet n) o len b e = (n, o)
        there_is (gathering k q) o len b e = absurd (other cc)

        no_piece : (k : ℕ) → cond (expects (state gone) k) (stored k) (refused OutOfTurn) ≡ refused why → ⊥
        no_piece k = by_test (λ (a : Answer). a ≡ refused why → ⊥) (expects (state gone) k) (λ t e. never (cc)) (λ t e. other cc)

        only : (s : Seen) → (s ≡ unread why → ⊥) → (said m gone s).answer ≡ refused why → Judged s
        only (head h) alone e = never (cc)
        only (piece k b) alone e = absurd (no_piece k e)
        only (final len b) alone e =
            let v = told_only _ (judge (state gone) (memory m gone) len b) why e in
            let (n, g) = there_is (state gone) (opened gone) len b v in
            (record { n = n; len = len; b = b; came = g; closes = refl; bytes = join g.bs ++ take len b; joined = refl }, sym (judged n g len b) ∙ v)
        only (stream c p f) alone e = never (cc)
        only end alone e = never (cc)
        only (unread w) alone e = let q : w ≡ why = cc in absurd (alone (ap unread q))

        if : Judged s → (said m gone s).answer ≡ refused why
        if (c, v) = rw (c.closes, judged c.n c.came c.len c.b, ← c.joined, v)

  pub refused_9 : (s : Seen) → (s ≡ unread BadFinal → ⊥) → ((said m gone s).answer ≡ refused BadFinal) ↔ ((c : Closing gone s) × ((c.len ≡ 0) ⊎ (25 < c.len)))
  refused_9 s alone =
      let k = closing s BadFinal alone (λ q. never (cc)) in
      (λ e. let (c, v) = k.0 e in (c, (verdicts.nine _ _ _).0 v), λ w. k.1 (w.0, (verdicts.nine _ _ _).1 w.1))

  pub refused_10 : (s : Seen) → (s ≡ unread TooShort → ⊥)
      → ((said m gone s).answer ≡ refused TooShort) ↔ ((c : Closing gone s) × (1 ≤ c.len) × (c.len ≤ 25) × (25 * c.n + c.len < 3))
  refused_10 s alone =
      let k = closing s TooShort alone (λ q. never (cc)) in
      (λ e. let (c, v) = k.0 e in let w = (verdicts.ten _ _ _).0 v in (c, w.0, w.1, w.2), λ w. k.1 (w.0, (verdicts.ten _ _ _).1 (w.1, w.2, w.3)))

  pub refused_11 : (s : Seen) → (s ≡ unread BadPacket → ⊥)
      → ((said m gone s).answer ≡ refused BadPacket)
      ↔ ((c : Closing gone s) × (1 ≤ c.len) × (c.len ≤ 25) × (3 ≤ 25 * c.n + c.len) × (crc c.bytes ≡ 0 → ⊥))
  refused_11 s alone =
      let k = closing s BadPacket alone (λ q. never (cc)) in
      (λ e. let (c, v) = k.0 e in let w = (verdicts.eleven _ _ _).0 v in (c, w.0, w.1, w.2, w.3), λ w. k.1 (w.0, (verdicts.eleven _ _ _).1 (w.1, w.2, w.3, w.4)))

-- What the slots just gone were, by the state that they led to: a packet header and pieces 0 to n - 1, or stream slots counted 0 to k - 1.
-- Assumes nothing.
use mathlib.Core.Path.{◌≡◌, refl, sym, ap, ap₂, ◌∙◌}
use mathlib.Core.List.{List, [], ◌∷◌, ◌++◌}
use Prim.Native.Nat.{ℕ, suc, ◌+◌, ◌≤◌}
use native.Mathlib.Omega.{arith}
use lib.ListN.{length, length-append}
use lib.Dec.{eqb}
use borrow.Author.Tests.{eqb-true, eqb-false}
use Rattle.automaton.specs.Seen.{Fields, Seen, head, piece, final, stream, end, unread, is_stream}
use Rattle.automaton.specs.Step.{State, idle, in_packet, gathering, expects, count, parts, next}
use Rattle.automaton.specs.Runs.{Slots, start, ◌▸◌, ◌▸▸◌, state, numbered}
use Rattle.automaton.specs.Opened.{Pieces, Counted, Opened}
use Rattle.automaton.proofs.Cases.{by_test}

-- one piece more at the end
numbered_more : (p : Slots) (n : ℕ) (bs : List (List ℕ)) (b : List ℕ) → p ▸▸ numbered n (bs ++ (b ∷ [])) ≡ (p ▸▸ numbered n bs) ▸ piece (n + length bs) b
numbered_more p n [] b = let e : n ≡ n + 0 = omega arith in ap (λ (k : ℕ). p ▸ piece k b) e
numbered_more p n (a ∷ bs) b =
    let e : suc n + length bs ≡ n + suc (length bs) = omega arith in
    numbered_more (p ▸ piece n a) (suc n) bs b ∙ ap (λ (k : ℕ). ((p ▸ piece n a) ▸▸ numbered (suc n) bs) ▸ piece k b) e

opened_piece : (past : Slots) (n k : ℕ) (b : List ℕ) → k ≡ n → Pieces n past → Pieces (suc k) (past ▸ piece k b)
opened_piece past n k b e g =
    let q : k ≡ 0 + length g.bs = omega arith in
    record {
      before = g.before;
      h = g.h;
      bs = g.bs ++ (b ∷ []);
      slots = ap₂ (λ (p : Slots) (i : ℕ). p ▸ piece i b) g.slots q ∙ sym (numbered_more (g.before ▸ head g.h) 0 g.bs b);
      packets = g.packets;
      many = simp length-append (omega arith);
    }

opened_count : (st : State) (past : Slots) → Opened st past → 1 ≤ count st → (count st ≤ 5) × Counted (count st) (parts st) past
opened_count idle past o l = absurd (omega arith)
opened_count (in_packet n) past o l = absurd (omega arith)
opened_count (gathering k q) past o l = (o.1, o.2)

opened_stream : (st : State) (past : Slots) (c : ℕ) (p : List ℕ) (f : Fields) → Opened st past → Opened (next st (stream c p f)) (past ▸ stream c p f)
unfolding next
opened_stream st past c p f o =
    by_test Here (eqb c 0)
    (λ ex. (omega arith, omega arith, (past, p, f, [], ap (λ (i : ℕ). past ▸ stream i p f) (eqb-true c 0 ex), refl, refl)))
    (λ ex. by_test Here (eqb c (count st)) (λ ey. by_test Here (eqb c 5) (λ ez. tt) (λ ez. added (eqb-false c 0 ex) (eqb-true c (count st) ey) (eqb-false c 5 ez))) (λ ey. tt))
  where
    Here : State → Type 0
    Here x = Opened x (past ▸ stream c p f)

    added : (c ≡ 0 → ⊥) → c ≡ count st → (c ≡ 5 → ⊥) → Here (gathering (suc c) (parts st ++ p))
    added nz e n5 =
        let g : (count st ≤ 5) × Counted (count st) (parts st) past = opened_count st past o (omega arith) in
        (omega arith, omega arith, (past, p, f, parts st, refl, refl, rw e g.1))

opened_next : (st : State) (past : Slots) (s : Seen) → Opened st past → Opened (next st s) (past ▸ s)
unfolding next
opened_next st past (head h) o =
    by_test (λ (x : State). Opened x (past ▸ head h)) (is_stream h) (λ e. tt)
    (λ e. record { before = past; h = h; bs = []; slots = refl; packets = e; many = refl })
opened_next idle past (piece k b) o = tt
opened_next (in_packet n) past (piece k b) o =
    by_test (λ (x : State). Opened x (past ▸ piece k b)) (expects (in_packet n) k) (λ e. opened_piece past n k b (eqb-true k n e) o) (λ e. tt)
opened_next (gathering i q) past (piece k b) o = tt
opened_next st past (final len b) o = tt
opened_next st past (stream c p f) o = opened_stream st past c p f o
opened_next st past end o = tt
opened_next st past (unread why) o = tt

pub opened : (past : Slots) → Opened (state past) past
unfolding state
opened start = tt
opened (past ▸ s) = opened_next (state past) past s (opened past)

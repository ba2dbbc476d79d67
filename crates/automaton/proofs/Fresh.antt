-- What is said from a header slot onward does not depend on what came before it, nor on the memory lent. Assumes nothing.
use mathlib.Core.Path.{◌≡◌, refl, sym, ap, ◌∙◌, subst}
use mathlib.Core.Bool.{Bool, true, false, cond}
use mathlib.Core.List.{List, [], ◌∷◌, ◌++◌}
use Prim.Native.Nat.{ℕ, suc, ◌+◌, ◌*◌}
use native.Mathlib.Omega.{arith}
use lib.ListN.{length, take, length-append}
use lib.Seq.{take_at, length-take-le}
use lib.Dec.{eqb}
use borrow.Author.Tests.{eqb-true}
use Rattle.refusal.specs.declared.Refusal.TheVariants.{OutOfTurn}
use Rattle.std.specs.Prelude.{⊤, Result, Ok, Err}
use Rattle.refusal.specs.declared.Refusal.{Refusal}
use Rattle.crc.specs.Crc.{crc}
use Rattle.automaton.specs.Seen.{Seen, head, piece, final, stream, end, unread, Sound, is_stream}
use Rattle.automaton.specs.Step.{State, idle, in_packet, gathering, packet, stored, refused, verdict, judge, put, count, next, answer, kept}
use Rattle.automaton.specs.Runs.{Slots, start, ◌▸◌, ◌▸▸◌, Sounds, state, memory, handed, saying, said}
use Rattle.automaton.proofs.Cases.{by_test}
use Rattle.automaton.proofs.Verdicts.{good_only}

-- two memories that hold the same pieces of an open packet
abbrev Alike : State → List ℕ → List ℕ → Type 0
Alike idle m m' = Unit {0}
Alike (in_packet n) m m' = (length (take (25 * n) m) ≡ 25 * n) × (take (25 * n) m ≡ take (25 * n) m')
Alike (gathering k q) m m' = Unit {0}

-- what is put after the pieces is read back after them
put_read : (at : ℕ) (m m' b : List ℕ) (t : ℕ) → take at m ≡ take at m' → length (take at m) + length b ≡ t → take t (put at b m') ≡ take at m ++ b
put_read at m m' b t e l = rw (← e) (take_at (take at m ++ b) _ t (length-append (take at m) b ∙ l))

alike_piece : (x : Bool) (n k : ℕ) (m m' b : List ℕ) → eqb k n ≡ x → length b ≡ 25 → Alike (in_packet n) m m'
    → Alike (cond x (in_packet (suc k)) idle) (cond x (put (25 * k) b m) m) (cond x (put (25 * k) b m') m')
alike_piece false n k m m' b e l a = tt
alike_piece true n k m m' b e l a =
    let (u, v) = subst (λ (i : ℕ). Alike (in_packet i) m m') (sym (eqb-true k n e)) a in
    let t : length (take (25 * k) m) + length b ≡ 25 * suc k = omega arith in
    let r : take (25 * suc k) (put (25 * k) b m) ≡ take (25 * k) m ++ b = put_read (25 * k) m m b _ refl t in
    (ap length r ∙ simp length-append t, r ∙ sym (put_read (25 * k) m m' b _ v t))

alike_next : (st : State) (m m' : List ℕ) (s : Seen) → Sound s → Alike st m m' → Alike (next st s) (kept st m s) (kept st m' s)
unfolding next kept
alike_next st m m' (head h) o a = by_test (λ (x : State). Alike x m m') (is_stream h) (λ e. tt) (λ e. (refl, refl))
alike_next idle m m' (piece k b) o a = tt
alike_next (in_packet n) m m' (piece k b) o a = alike_piece (eqb k n) n k m m' b refl o.1 a
alike_next (gathering i q) m m' (piece k b) o a = tt
alike_next st m m' (final len b) o a = tt
alike_next st m m' (stream c p f) o a =
    let Here : State → Type 0 = λ x. Alike x m m' in
    by_test Here (eqb c 0) (λ e. tt) (λ e. by_test Here (eqb c (count st)) (λ e. by_test Here (eqb c 5) (λ e. tt) (λ e. tt)) (λ e. tt))
alike_next st m m' end o a = tt
alike_next st m m' (unread why) o a = tt

same_piece : (x : Bool) (k : ℕ) (m m' : List ℕ) → handed (cond x (stored k) (refused OutOfTurn)) m ≡ handed (cond x (stored k) (refused OutOfTurn)) m'
same_piece true k m m' = refl
same_piece false k m m' = refl

same_verdict : (n len : ℕ) (m m' b : List ℕ) (v : Result ⊤ Refusal) → judge (in_packet n) m len b ≡ v → judge (in_packet n) m' len b ≡ v
    → length b ≡ 25 → Alike (in_packet n) m m' → saying (in_packet n) m (final len b) ≡ saying (in_packet n) m' (final len b)
unfolding answer kept
same_verdict n len m m' b (Err why) e e' l a = rw (e, e')
same_verdict n len m m' b (Ok x) e e' l a =
    let k : length (take len b) ≡ len = length-take-le len b (omega (arith, (good_only n len _ e).most)) in
    let t : length (take (25 * n) m) + length (take len b) ≡ 25 * n + len = omega arith in
    rw (e, e')
    (ap (λ (x : List ℕ). record { answer = packet (25 * n + len); bytes = x })
    (put_read (25 * n) m m _ _ refl t ∙ sym (put_read (25 * n) m m' _ _ a.1 t)))

same_said : (st : State) (m m' : List ℕ) (s : Seen) → Sound s → Alike st m m' → saying st m s ≡ saying st m' s
unfolding answer kept
same_said st m m' (head h) o a = refl
same_said idle m m' (piece k b) o a = refl
same_said (in_packet n) m m' (piece k b) o a =
    ap (λ (x : List ℕ). record { answer = cond (eqb k n) (stored k) (refused OutOfTurn); bytes = x }) (same_piece (eqb k n) k _ _)
same_said (gathering i q) m m' (piece k b) o a = refl
same_said idle m m' (final len b) o a = refl
same_said (in_packet n) m m' (final len b) o a =
    same_verdict n len m m' b _ refl (ap (λ (x : List ℕ). verdict n len (crc (x ++ take len b))) (sym a.1)) o.1 a
same_said (gathering i q) m m' (final len b) o a = refl
same_said st m m' (stream c p f) o a = refl
same_said st m m' end o a = refl
same_said st m m' (unread why) o a = refl

same_from : (m m' : List ℕ) (p q : Slots) → state p ≡ state q → Alike (state p) (memory m p) (memory m' q)
    → (future : List Seen) → Sounds future → (s : Seen) → Sound s → said m (p ▸▸ future) s ≡ said m' (q ▸▸ future) s
unfolding state memory
same_from m m' p q e a [] os s o =
    same_said (state p) (memory m p) (memory m' q) s o a ∙ ap (λ (st : State). saying st (memory m' q) s) e
same_from m m' p q e a (x ∷ future) os s o =
    same_from m m' (p ▸ x) (q ▸ x) (ap (λ (st : State). next st x) e)
    (subst (λ (st : State). Alike (next (state p) x) (kept (state p) (memory m p) x) (kept st (memory m' q) x)) e
    (alike_next (state p) (memory m p) (memory m' q) x os.0 a)) future os.1 s o

pub fresh_header : (m m' : List ℕ) (past : Slots) (h : List ℕ) → said m past (head h) ≡ said m' start (head h)
unfolding answer kept
fresh_header m m' past h = refl

pub fresh : (m m' : List ℕ) (past : Slots) (h : List ℕ) (future : List Seen) → Sounds future → (s : Seen) → Sound s
    → said m (past ▸ head h ▸▸ future) s ≡ said m' (start ▸ head h ▸▸ future) s
unfolding state memory next kept
fresh m m' past h future os s o =
    same_from m m' (past ▸ head h) (start ▸ head h) refl
    (by_test (λ (x : State). Alike x (memory m past) m') (is_stream h) (λ e. tt) (λ e. (refl, refl))) future os s o

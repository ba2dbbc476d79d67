-- A run of sound slots keeps to the states that are not refused with 12, and packet memory keeps its 825 bytes. Assumes nothing.
use mathlib.Core.Path.{◌≡◌, ap, ◌∙◌, subst}
use mathlib.Core.List.{List, []}
use Prim.Native.Nat.{ℕ, zero, suc, ◌+◌, ◌*◌, ◌≤◌}
use native.Mathlib.Omega.{arith}
use lib.ListN.{length, take, length-append, length-take, length-drop}
use lib.Seq.{length-take-le}
use Rattle.std.specs.Prelude.{Ok}
use Rattle.automaton.specs.Seen.{Seen, stream, Sound}
use Rattle.automaton.specs.Step.{State, idle, in_packet, gathering, Answer, header, stored, packet, fields, ended, refused, pieces, put, judge, answer, kept}
use Rattle.automaton.specs.Runs.{Slots, start, ◌▸◌, AllSound, state, memory}
use Rattle.automaton.proofs.Cases.{never}
use Rattle.automaton.specs.Demand3.{ByAnswer, Bounded}
use Rattle.automaton.proofs.ByAnswer.{by_answer}
use Rattle.automaton.proofs.Verdicts.{ok_is, good_only}
use Rattle.automaton.specs.Opened.{Counted, Opened}
use Rattle.automaton.proofs.Opened.{opened}
use Rattle.automaton.proofs.Held.{held}

counted_long : (k : ℕ) (q : List ℕ) (past : Slots) → AllSound past → Counted k q past → length q ≡ 5 * k
counted_long zero q past os g = ap length g
counted_long (suc k) q past os g =
    let (before, p, f, r, slots, joined, more) = g in
    let o : AllSound before × Sound (stream k p f) = subst AllSound slots os in
    let five : length p ≡ 5 = o.1.1 in
    let l = counted_long k r before o.0 more in
    ap length joined ∙ simp length-append (omega arith)

bounded_opened : (st : State) (past : Slots) → AllSound past → Opened st past → Bounded st
bounded_opened idle past os o = tt
bounded_opened (in_packet n) past os o = omega (arith, o.many, (held [] past o.before o.h o.bs o.slots o.packets os).few)
bounded_opened (gathering k q) past os o = (o.0, o.1, counted_long k q past os o.2)

pub bounded : (past : Slots) → AllSound past → Bounded (state past)
bounded past os = bounded_opened (state past) past os (opened past)

put_long : (at : ℕ) (b m : List ℕ) → at + length b ≤ length m → length (put at b m) ≡ length m
put_long at b m h = simp (length-append, length-drop) (omega (arith, length-take-le at m (omega arith)))

final_fits : (st : State) (m : List ℕ) (len : ℕ) (b : List ℕ) → Bounded st → judge st m len b ≡ Ok tt → 25 * pieces st + length (take len b) ≤ 825
final_fits idle m len b o d = never (cc)
final_fits (in_packet n) m len b o d = omega (arith, length-take len b, (good_only n len _ d).most)
final_fits (gathering k q) m len b o d = never (cc)

kept_long : (st : State) (m : List ℕ) (s : Seen) (a : Answer) → Sound s → Bounded st → length m ≡ 825 → ByAnswer st m s a → length (kept st m s) ≡ 825
kept_long st m s (header h) o b e w = ap length w.1 ∙ e
kept_long st m s (stored k) o b e (p, slot, is) =
    let (few, long) = subst Sound slot o in
    ap length is ∙ put_long (25 * k) p m (omega arith) ∙ e
kept_long st m s (packet t) o b e (len, p, slot, done, total, is) =
    ap length is ∙ put_long (25 * pieces st) (take len p) m (omega (arith, final_fits st m len p b (ok_is _ done))) ∙ e
kept_long st m s (fields c p f l) o b e w = ap length w.2 ∙ e
kept_long st m s ended o b e w = ap length w.1 ∙ e
kept_long st m s (refused why) o b e w = ap length w.1 ∙ e

pub memory_long : (m : List ℕ) (past : Slots) → AllSound past → length m ≡ 825 → length (memory m past) ≡ 825
unfolding memory
memory_long m start os e = e
memory_long m (past ▸ s) os e =
    kept_long (state past) (memory m past) s (answer (state past) (memory m past) s) os.1 (bounded past os.0) (memory_long m past os.0 e)
    (by_answer (state past) (memory m past) s)

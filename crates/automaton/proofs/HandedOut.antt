-- A packet is handed out exactly when the slots just gone are a packet header, frames 0 upward with none missing, and a final frame of 1 to 25
-- bytes, three bytes or more in all, CRC zero; memory is then its bytes, and after them what stood there at the header. Assumes nothing.
use mathlib.Core.Path.{◌≡◌, refl, sym, ap, ap₂, ◌∙◌, subst}
use mathlib.Core.Logic.{◌↔◌}
use mathlib.Core.List.{List, ◌++◌}
use Prim.Native.Nat.{ℕ, ◌+◌, ◌*◌}
use native.Mathlib.Omega.{arith}
use lib.ListN.{length, take, drop, length-append}
use lib.Seq.{length-take-le, take-append_seam}
use Rattle.std.specs.Prelude.{Ok}
use Rattle.crc.specs.Crc.{crc}
use Rattle.automaton.specs.Seen.{Seen, head, final, Sound}
use Rattle.automaton.specs.Step.{State, idle, in_packet, gathering, packet, judge, answer, kept}
use Rattle.automaton.specs.Runs.{Slots, ◌▸◌, AllSound, state, memory, handed, Said, said, join, Packet}
use Rattle.automaton.proofs.Cases.{never}
use Rattle.automaton.specs.Demand3.{ByAnswer}
use Rattle.automaton.proofs.ByAnswer.{by_answer}
use Rattle.automaton.proofs.Verdicts.{ok_is, good_only, good_if}
use Rattle.automaton.specs.Opened.{Opened}
use Rattle.automaton.proofs.Opened.{opened}
use Rattle.automaton.proofs.Held.{Held, held, begins, put_after}

module _ (m : List ℕ) (gone : Slots) (os : AllSound gone) where
  -- ---- a packet is handed out

  module _ (s : Seen) (o : Sound s) (bytes : List ℕ) (k : Packet gone s bytes) where
    abbrev n : ℕ
    n = length k.bs

    pieces_held : Held m (memory m (k.before ▸ head k.h)) gone n (join k.bs)
    pieces_held = held m gone k.before k.h k.bs k.slots k.packets os

    long : (length (take k.len k.b) ≡ k.len) × (length bytes ≡ 25 * n + k.len)
    long =
        let e : length k.b ≡ 25 = (subst Sound k.closes o).1 in
        let a : length (take k.len k.b) ≡ k.len = length-take-le k.len k.b (omega (arith, k.most)) in
        (a, ap length k.joined ∙ simp length-append (omega (arith, pieces_held.long)))

    is_good : judge (in_packet n) (memory m gone) k.len k.b ≡ Ok tt
    is_good =
        rw (begins m _ gone n _ pieces_held, ← k.joined)
        (good_if n k.len (crc bytes) (record { least = k.least; most = k.most; three = omega (arith, long.1, k.three); zero_crc = k.zero_crc }))

    answered : answer (state gone) (memory m gone) s ≡ packet (length bytes)
    unfolding answer
    answered = rw (k.closes, pieces_held.turn, is_good) (ap packet (sym long.1))

    pub only_those : kept (state gone) (memory m gone) s ≡ bytes ++ drop (length bytes) (memory m (k.before ▸ head k.h))
    unfolding kept
    only_those =
        let e : 25 * n + length (take k.len k.b) ≡ length bytes = omega (arith, long) in
        rw (k.closes, pieces_held.turn, is_good, pieces_held.rest)
        (put_after (25 * n) (join k.bs) (take k.len k.b) _ pieces_held.long
        ∙ ap₂ (λ (x : List ℕ) (i : ℕ). x ++ drop i (memory m (k.before ▸ head k.h))) (sym k.joined) e)

    handed_if : said m gone s ≡ record { answer = packet (length bytes); bytes = bytes }
    handed_if =
        ap₂ {C = Said} (λ x y. record { answer = x; bytes = handed x y }) answered only_those ∙ rw take-append_seam

  -- ---- and only then

  there_is : (st : State) → Opened st gone → (len : ℕ) (b : List ℕ) → length b ≡ 25 → judge st (memory m gone) len b ≡ Ok tt
      → (bytes : List ℕ) × Packet gone (final len b) bytes
  there_is idle o len b l d = never (cc)
  there_is (gathering k q) o len b l d = never (cc)
  there_is (in_packet n) o len b l d =
      let g = held m gone o.before o.h o.bs o.slots o.packets os in
      let w = good_only n len _ d in
      let q : take (25 * n) (memory m gone) ≡ join o.bs = rw (← o.many) (begins m _ gone _ _ g) in
      let a : length (take len b) ≡ len = length-take-le len b (omega (arith, w.most)) in (
        join o.bs ++ take len b,
        record {
          before = o.before;
          h = o.h;
          bs = o.bs;
          len = len;
          b = b;
          slots = o.slots;
          packets = o.packets;
          closes = refl;
          least = w.least;
          most = w.most;
          joined = refl;
          three = simp length-append (omega (arith, w.three, g.long, o.many));
          zero_crc = rw q at w.zero_crc;
        },
      )

same_packet : (x : Said) (t u : ℕ) (a b : List ℕ) → x ≡ record { answer = packet t; bytes = a } → x ≡ record { answer = packet u; bytes = b }
    → (t ≡ u) × (b ≡ a)
same_packet x t u a b p q =
    let e : packet t ≡ packet u = ap (λ (y : Said). y.answer) (sym p ∙ q) in
    (cc, ap (λ (y : Said). y.bytes) (sym q ∙ p))

pub handed_out : (m : List ℕ) (gone : Slots) (s : Seen) → AllSound gone → Sound s → (total : ℕ) (bytes : List ℕ)
    → (said m gone s ≡ record { answer = packet total; bytes = bytes }) ↔ (Packet gone s bytes × (total ≡ length bytes))
handed_out m gone s os o total bytes = (only, if)
  where
    only : said m gone s ≡ record { answer = packet total; bytes = bytes } → Packet gone s bytes × (total ≡ length bytes)
    only e =
        let (len, b, closes, done, t, rest) = subst (ByAnswer (state gone) (memory m gone) s) (ap (λ (x : Said). x.answer) e) (by_answer (state gone) (memory m gone) s) in
        let (made, k) = there_is m gone os (state gone) (opened gone) len b (subst Sound closes o).1 (ok_is _ done) in
        let k' : Packet gone s made = subst (λ (x : Seen). Packet gone x made) (sym closes) k in
        let (long, same) = same_packet _ total (length made) bytes made e (handed_if m gone os s o made k') in
        subst (λ (x : List ℕ). Packet gone s x × (total ≡ length x)) same (k', long)

    if : Packet gone s bytes × (total ≡ length bytes) → said m gone s ≡ record { answer = packet total; bytes = bytes }
    if k = rw k.1 (handed_if m gone os s o bytes k.0)

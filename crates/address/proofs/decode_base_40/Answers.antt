-- `address::decode_base_40` meets its contract. Assumes nothing.
use Rattle.std.proofs.Common.{◌≡◌, ℕ, suc, ◌+◌, ◌-◌, ◌/◌, ◌%◌, ◌≤◌, ◌<◌, List, ◌∷◌, ◌++◌, length, get_or, take, set, sym, ap, ◌∙◌, arith}
use Rattle.std.proofs.lemmas.List.{take_more_set}
use lib.ListN.{length-set}
use lib.Seq.{take_all, append_snoc}
use mathlib.Core.List.{append-nil}
use Rattle.address.specs.Callsign.{alphabet, character, callsign_of}
use Rattle.address.proofs.decode_base_40.Goals as goal

-- a turn, the table being the alphabet
turn : (table l : List ℕ) (i v : ℕ) → table ≡ alphabet → i < 9 → length l ≡ 9
    → take (i + 1) (set l i (get_or table (v % 40) 0)) ++ callsign_of (9 - (i + 1)) (v / 40) ≡ take i l ++ callsign_of (9 - i) v
unfolding character callsign_of
turn table l i v e h n =
    let m : 9 - i ≡ suc (9 - (i + 1)) = omega arith in
    ap (λ (x : List ℕ). x ++ callsign_of (9 - (i + 1)) (v / 40)) (take_more_set l i (get_or table (v % 40) 0) (omega arith))
    ∙ append_snoc (take i l) (get_or table (v % 40) 0) (callsign_of (9 - (i + 1)) (v / 40))
    ∙ ap (λ (t : List ℕ). take i l ++ get_or t (v % 40) 0 ∷ callsign_of (9 - (i + 1)) (v / 40)) e
    ∙ ap (λ (k : ℕ). take i l ++ callsign_of k v) (sym m)

-- nothing is left at the end
all : (l : List ℕ) (i v : ℕ) → 9 ≤ i → length l ≡ 9 → l ≡ take i l ++ callsign_of (9 - i) v
unfolding callsign_of
all l i v h e =
    let none : 9 - i ≡ 0 = omega arith in
    let long : length l ≤ i = omega arith in
    sym (ap (λ (m : ℕ). take i l ++ callsign_of m v) none ∙ append-nil (take i l) ∙ take_all i l long)

pub loop-c-preserved : goal.loop-c-preserved
loop-c-preserved c =
    let l = c.loop-c in (
      length-set l.c-items l.c-index _ ∙ l.invariant.0,
      turn c.characters-alphabet.result l.c-items l.c-index l.left c.characters-alphabet.ensures (omega arith) l.invariant.0 ∙ l.invariant.1,
    )

pub returns : goal.returns
returns c =
    let l = c.loop-c in
    all l.c-items l.c-index l.left (omega arith) l.invariant.0 ∙ l.invariant.1

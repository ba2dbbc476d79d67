-- What slots of bytes say, one after another. Assumes nothing.
use mathlib.Core.Path.{◌≡◌, refl, ap, ◌∙◌}
use mathlib.Core.Bool.{Bool, true, false, cond}
use mathlib.Core.List.{List, [], ◌∷◌}
use Prim.Native.Nat.{ℕ}
use lib.Dec.{eqb}
use lib.ListN.{length, take}
use borrow.Author.Tests.{eq-eqb}
use Rattle.laws.specs.Value.{value_of}
use Rattle.crc.specs.Crc.{crc}
use Rattle.automaton.specs.Seen.{Seen, head}
use Rattle.automaton.specs.Runs.{Slots, ◌▸◌, ◌▸▸◌, Sounds}
use Rattle.receiver.specs.See.{header_seen, see}
use Rattle.receiver.specs.Runs.{Fed, ◌▹◌, ◌▹▹◌, seen_of}
use Rattle.demands.specs.Slots.{HeaderSlot}
use Rattle.demands.proofs.AsSeen.{sound}

pub header_says : (x h : List ℕ) → HeaderSlot x h → see x ≡ head h
unfolding see
header_says x h k =
    rw (eq-eqb (value_of (take 2 x)) 0x55F7 k.sync) (ap header_seen k.reads ∙ rw (eq-eqb (crc h) 0 k.good))

unfoldable pub sees_of : List (List ℕ) → List Seen
sees_of [] = []
sees_of (x ∷ xs) = cond (eqb (length x) 48) (see x ∷ sees_of xs) (sees_of xs)

either_way : (b : Bool) (past : Slots) (s : Seen) (more : List Seen) → cond b (past ▸ s) past ▸▸ more ≡ past ▸▸ cond b (s ∷ more) more
either_way true past s more = refl
either_way false past s more = refl

pub seen_more : (past : Fed) (xs : List (List ℕ)) → seen_of (past ▹▹ xs) ≡ seen_of past ▸▸ sees_of xs
unfolding sees_of seen_of
seen_more past [] = refl
seen_more past (x ∷ xs) = seen_more (past ▹ x) xs ∙ either_way (eqb (length x) 48) (seen_of past) (see x) (sees_of xs)

sound_way : (b : Bool) (x : List ℕ) (more : List Seen) → Sounds more → Sounds (cond b (see x ∷ more) more)
sound_way true x more o = (sound x, o)
sound_way false x more o = o

pub sounds : (xs : List (List ℕ)) → Sounds (sees_of xs)
unfolding sees_of
sounds [] = tt
sounds (x ∷ xs) = sound_way (eqb (length x) 48) x (sees_of xs) (sounds xs)

seen_header : (past : Fed) (x h : List ℕ) → HeaderSlot x h → seen_of (past ▹ x) ≡ seen_of past ▸ head h
unfolding seen_of
seen_header past x h k = rw (eq-eqb (length x) 48 k.long) (ap (λ (s : Seen). seen_of past ▸ s) (header_says x h k))

pub seen_after : (past : Fed) (x h : List ℕ) (future : List (List ℕ)) → HeaderSlot x h
    → seen_of (past ▹ x ▹▹ future) ≡ seen_of past ▸ head h ▸▸ sees_of future
seen_after past x h future k = seen_more (past ▹ x) future ∙ ap (λ (p : Slots). p ▸▸ sees_of future) (seen_header past x h k)

-- `m17::gathered::flagged` meets its contract. Assumes nothing.
use Rattle.std.proofs.Common.{◌≡◌, ℕ, ◌<◌, ◌∙◌, sym, get_or, false, length, arith, rules, of_calls}
use Rattle.std.proofs.lemmas.List.{ext_get_or, get_or-map, length-map}
use Rattle.bits.specs.Places.{flag}
use Rattle.m17.proofs.gathered.flagged.Goals as goal

pub returns : goal.returns
returns c =
    let m = c.map.ensures.items in
    let s = c.args.bytes in
    let six : length s ≡ 6 = search rules in
    let same : (i : ℕ) → i < 6 → get_or c.map.result i false ≡ flag (get_or s i 0) = (λ i h. let k = m.at i 0 false h in search of_calls) in
    ext_get_or false _ _ (m.long ∙ sym (length-map s flag ∙ six))
    (λ i h. let l = m.long in same i (omega arith) ∙ sym (get_or-map flag s i 0 false (omega arith)))

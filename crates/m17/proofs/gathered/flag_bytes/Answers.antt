-- `m17::gathered::flag_bytes` meets its contract. Assumes nothing.
use Rattle.std.proofs.Common.{◌≡◌, ℕ, ◌<◌, ◌∙◌, sym, get_or, false, length, arith, rules, of_calls}
use Rattle.std.proofs.lemmas.List.{ext_get_or, get_or-map, length-map}
use Rattle.bits.specs.Bits.{bit}
use Rattle.m17.proofs.gathered.flag_bytes.Goals as goal

pub returns : goal.returns
returns c =
    let m = c.map.ensures.items in
    let s = c.args.flags in
    let six : length s ≡ 6 = search rules in
    let same : (i : ℕ) → i < 6 → get_or c.map.result i 0 ≡ bit (get_or s i false) = (λ i h. let k = m.at i false 0 h in search of_calls) in
    ext_get_or 0 _ _ (m.long ∙ sym (length-map s bit ∙ six))
    (λ i h. let l = m.long in same i (omega arith) ∙ sym (get_or-map bit s i false 0 (omega arith)))

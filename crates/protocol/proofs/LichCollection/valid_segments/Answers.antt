-- `protocol::LichCollection::valid_segments` meets its contract. Assumes nothing.
use Rattle.std.proofs.Common.{◌≡◌, length, get_or, false, arith, refl, rules}
use Rattle.protocol.proofs.Flags.{none_left, next_counted, flag_small}
use Rattle.protocol.proofs.LichCollection.valid_segments.Goals as goal

pub loop-flag-preserved : goal.loop-flag-preserved
loop-flag-preserved c =
    let s = c.args.self.set in
    let six : length s ≡ 6 = search rules in
    let i = c.loop-flag.flag-index in
    omega (arith, c.from-set.ensures, next_counted s i (omega arith) (get_or s i false) refl, flag_small (get_or s i false), c.loop-flag.invariant)

pub returns : goal.returns
returns c =
    let s = c.args.self.set in
    let six : length s ≡ 6 = search rules in
    omega (arith, none_left s c.loop-flag.flag-index (omega arith), c.loop-flag.invariant)

-- `address::encode_base_40` meets its contract. The loop's invariant: the characters so far are known, and `number` is what they say. Assumes nothing.
use Rattle.std.proofs.Common.{◌≡◌, true, map, reverse}
use Rattle.address.specs.Callsign.{known, callsign_value}
use Rattle.address.proofs.encode_base_40.Given as goal

abbrev pub invariant-loop-c : goal.invariant-loop-c
invariant-loop-c l =
    (known (reverse (map (λ y. y.now) l.yielded)) ≡ true) × (l.number ≡ callsign_value (reverse (map (λ y. y.now) l.yielded)))

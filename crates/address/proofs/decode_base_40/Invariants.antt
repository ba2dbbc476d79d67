-- `address::decode_base_40` meets its contract. The loop's invariant: the characters so far, followed by those of what is left of the number, are the
-- callsign. Assumes nothing.
use Rattle.std.proofs.Common.{◌≡◌, ◌++◌, ◌-◌, length, take}
use Rattle.address.specs.Callsign.{callsign_of}
use Rattle.address.proofs.decode_base_40.Given as goal

abbrev pub invariant-loop-c : goal.invariant-loop-c
invariant-loop-c l = (length l.c-items ≡ 9) × (take l.c-index l.c-items ++ callsign_of (9 - l.c-index) l.left ≡ callsign_of 9 l.value)

-- `protocol::LichCollection::valid_segments` meets its contract. The loop's invariant: the flags counted and those left make the whole. Assumes nothing.
use Rattle.std.proofs.Common.{◌≡◌, ◌+◌, ◌≤◌, drop}
use Rattle.protocol.specs.Lich.{flags_set}
use Rattle.protocol.proofs.LichCollection.valid_segments.Given as goal

abbrev pub invariant-loop-flag : goal.invariant-loop-flag
invariant-loop-flag l = (l.set ≤ l.flag-index) × (l.set + flags_set (drop l.flag-index l.fn.self.set) ≡ flags_set l.fn.self.set)

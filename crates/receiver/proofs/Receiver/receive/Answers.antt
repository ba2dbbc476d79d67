-- `receiver::Receiver::receive` meets its contract. Assumes nothing.
use mathlib.Core.Path.{◌≡◌, refl, sym, ◌∙◌}
use mathlib.Core.List.{List}
use Prim.Native.Nat.{ℕ, ◌-◌}
use lib.ListN.{length, take, drop}
use borrow.Author.Rules.{rules}
use Rattle.refusal.specs.declared.Refusal.TheVariants.{UnknownSync}
use Rattle.automaton.specs.Seen.{Seen}
use Rattle.receiver.specs.declared.Received.{Received}
use Rattle.receiver.specs.See.{seen_by}
use Rattle.receiver.specs.Receiver.{state_of}
use Rattle.receiver.proofs.Taken.{Takes, unread_takes, told_comes, header_takes, stream_takes, end_takes}
use Rattle.receiver.proofs.Whole.{Heard, no_slot, no_memory, no_state, heard, none_seen}
use Rattle.receiver.proofs.Receiver.receive.Goals as goal
use Rattle.receiver.proofs.Receiver.receive.Goals.{After-from_be_bytes-sync}

pub returns-then-slot-ne48 : goal.returns-then-slot-ne48
returns-then-slot-ne48 c =
    let a = c.args in
    no_slot a.self a.slot.now a.memory.now _ c.if-slot-ne48.true c.unchanged.ensures

pub returns-then-memory-ne825 : goal.returns-then-memory-ne825
returns-then-memory-ne825 c =
    let a = c.args in
    no_memory a.self a.slot.now a.memory.now c.if-slot-ne48.false _ c.if-memory-ne825.true c.unchanged-then-memory-ne825.ensures

pub returns-then-not-is_within : goal.returns-then-not-is_within
returns-then-not-is_within c =
    let a = c.args in
    no_state a.self a.slot.now a.memory.now c.if-slot-ne48.false c.if-memory-ne825.false _ (sym c.is_within.ensures ∙ c.if-not-is_within.true)
    c.unchanged-then-not-is_within.ensures

-- what is heard once the sync word is read
from_sync : (c : After-from_be_bytes-sync) (s : Seen) (r : Received) (m : List ℕ)
    → seen_by c.from_be_bytes-sync.result (take (length c.args.slot.now - 2) (drop 2 c.args.slot.now)) ≡ s
    → Takes (state_of c.args.self) c.args.memory.now s r m → Heard c.args.self c.args.slot.now c.args.memory.now r m
from_sync c =
    let a = c.args in
    heard a.self a.slot.now a.memory.now c.if-slot-ne48.false c.if-memory-ne825.false (sym c.is_within.ensures ∙ c.if-not-is_within.false)
    c.from_be_bytes-sync.result c.from_be_bytes-sync.ensures

pub returns-in-22007 : goal.returns-in-22007
returns-in-22007 c =
    from_sync (goal.at.returns-in-22007 c).After-from_be_bytes-sync _ _ _ (rw c.in-22007.is) (header_takes _ _ _ _ (c.outcome.ensures ∙ c.header_slot.ensures))

pub returns-in-65373 : goal.returns-in-65373
returns-in-65373 c =
    from_sync (goal.at.returns-in-65373 c).After-from_be_bytes-sync _ _ _ (rw c.in-65373.is) (stream_takes _ _ _ _ (c.outcome-in-65373.ensures ∙ c.stream_slot.ensures))

pub returns-in-30207 : goal.returns-in-30207
returns-in-30207 c = from_sync (goal.at.returns-in-30207 c).After-from_be_bytes-sync _ _ _ (rw c.in-30207.is) (c.outcome-in-30207.ensures ∙ c.packet_slot.ensures.0, c.packet_slot.ensures.1)

pub returns-in-21853 : goal.returns-in-21853
returns-in-21853 c = from_sync (goal.at.returns-in-21853 c).After-from_be_bytes-sync _ _ _ (rw c.in-21853.is) (end_takes _ _ _ (c.outcome-in-21853.ensures ∙ told_comes _ _ _ c.told.ensures))

pub returns-in_default : goal.returns-in_default
returns-in_default c =
    from_sync (goal.at.returns-in_default c).After-from_be_bytes-sync _ _ _ (none_seen c.from_be_bytes-sync.result _ (search rules) (search rules) (search rules) (search rules))
    (unread_takes _ _ UnknownSync _ _ refl c.outcome-in_default.ensures)

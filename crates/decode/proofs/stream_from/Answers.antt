-- `decode::stream_from` meets its contract: the first two bytes are the number. Assumes nothing.
use mathlib.Core.Path.{◌≡◌, ap₂}
use mathlib.Core.List.{List}
use Prim.Native.Nat.{ℕ, ◌%◌}
use native.Mathlib.Omega.{arith}
use lib.Dec.{leb}
use lib.ListN.{take}
use Rattle.laws.specs.Value.{value_of}
use Rattle.protocol.specs.declared.StreamFrame.{StreamFrame}
use Rattle.decode.proofs.Words.{value_two}
use Rattle.decode.proofs.stream_from.Goals as goal

fields : ℕ → List ℕ → ℕ → List ℕ → StreamFrame
fields index part n s = record { lich_idx = index; lich_part = part; frame_number = n % 0x8000; end_of_stream = leb 0x8000 n; stream_data = s }

pub returns : goal.returns
unfolding fields
returns c =
    let l = c.args.lich in
    let b = c.args.bytes.now in
    let n : c.from_be_bytes-n.result ≡ value_of (take 2 b) = omega (arith, c.from_be_bytes-n.ensures, value_two b (omega arith)) in
    ap₂ (fields l.counter l.part) n c.copy_from_slice.ensures.after

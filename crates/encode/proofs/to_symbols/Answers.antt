-- `encode::to_symbols` meets its contract: after i turns the symbols of the first i bytes are there. Assumes nothing.
use mathlib.Core.Path.{ap, ◌∙◌}
use mathlib.Core.List.{List}
use Prim.Native.Nat.{ℕ, ◌+◌, ◌*◌, ◌/◌, ◌%◌}
use native.Mathlib.Omega.{arith}
use lib.Ieee.{nan}
use lib.ListN.{get_or}
use Rattle.laws.proofs.Values.{filled_all}
use Rattle.bits.specs.Bits.{bits_of}
use Rattle.encode.specs.Symbols.{symbols_of}
use Rattle.encode.proofs.Pairs.{symbol_at, pair_symbol, filled_four}
use Rattle.encode.proofs.to_symbols.Goals as goal

pub loop-i-preserved : goal.loop-i-preserved
loop-i-preserved c =
    let l = c in
    let s = l.slot_of-slot.result in
    let i = l.loop-i.i in
    let b = get_or s i 0 in (
      omega arith,
      filled_four (symbol_at s) l.loop-i.out i _ _ _ _ (omega arith) l.loop-i.invariant.1
          (c.symbol.ensures ∙ pair_symbol s i 0 (4 * i) (b / 64 % 4) (omega arith) (omega arith) (omega arith) (omega arith))
          (c.symbol-in-loop-i.ensures ∙ pair_symbol s i 1 (4 * i + 1) (b / 16 % 4) (omega arith) (omega arith) (omega arith) (omega arith))
          (c.symbol-in-loop-i-2.ensures ∙ pair_symbol s i 2 (4 * i + 2) (b / 4 % 4) (omega arith) (omega arith) (omega arith) (omega arith))
          (c.symbol-in-loop-i-3.ensures ∙ pair_symbol s i 3 (4 * i + 3) (b % 4) (omega arith) (omega arith) (omega arith) (omega arith)),
    )

pub returns : goal.returns
unfolding symbols_of
returns c =
    let l = c in
    filled_all (symbol_at l.slot_of-slot.result) 192 nan l.loop-i.out (4 * l.loop-i.i) (omega arith) l.loop-i.invariant.1
    ∙ ap (λ (s : List ℕ). symbols_of 192 (bits_of s)) l.slot_of-slot.ensures

-- `encode::encode_lsf` meets its contract. Assumes nothing.
use mathlib.Core.Path.{ap, ◌∙◌}
use Rattle.fec.specs.declared.Kind.TheVariants.{Header}
use Rattle.encode.specs.Symbols.{symbols_from, lsf_symbols_of}
use Rattle.encode.proofs.encode_lsf.Goals as goal

pub returns : goal.returns
unfolding lsf_symbols_of
returns c = c.symbols_from.ensures ∙ ap (symbols_from Header) c.write_lsf.ensures

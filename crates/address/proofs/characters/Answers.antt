-- `address::characters` meets its contract: the table is the alphabet. Assumes nothing.
use mathlib.Core.Path.{refl}
use Rattle.address.specs.Callsign.{alphabet}
use Rattle.address.proofs.characters.Goals as goal

pub returns : goal.returns
unfolding alphabet
returns c = refl

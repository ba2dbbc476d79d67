-- `encode::lich_words` meets its contract: the four words one behind the other. Assumes nothing.
use Rattle.encode.specs.Lich.{lich_words}
use Rattle.encode.proofs.lich_words.Goals as goal

pub returns : goal.returns
unfolding lich_words
returns c =
    rw (c.joined.ensures, c.joined-three.ensures, c.joined-two.ensures, c.golay_bytes-a.ensures, c.golay_bytes-b.ensures, c.golay_bytes-c.ensures, c.golay_bytes-d.ensures)

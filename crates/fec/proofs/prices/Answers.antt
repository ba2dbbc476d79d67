-- `fec::prices` meets its contract. Assumes nothing.
use Rattle.fec.proofs.Rows.{shelved}
use Rattle.fec.proofs.prices.Goals as goal

pub returns : goal.returns
returns c =
    shelved _ _ _ _ _ _ _ _ c.price.ensures
    c.price-2.ensures
    c.price-3.ensures
    c.price-4.ensures
    c.price-5.ensures
    c.price-6.ensures
    c.price-7.ensures
    c.price-8.ensures

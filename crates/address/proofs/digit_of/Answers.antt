-- `address::digit_of` meets its contract: std's search finds the place, if any. Assumes nothing.
use Rattle.std.proofs.Common.{◌≡◌, ℕ, List, Some, None, cond, eqb, ltb, length, sym, ap, ap₂, ◌∙◌, rules, tests}
use Rattle.std.specs.List.{position_or_len}
use Rattle.std.proofs.lemmas.Iterator.{YieldsList-from_slice}
use Rattle.std.proofs.lemmas.Iterator.Search.{position_from_yields_List}
use Rattle.address.specs.Callsign.{alphabet, digit_of, upper}
use Rattle.address.proofs.Alphabet.{place_position, std_upper}
use Rattle.address.proofs.digit_of.Goals as goal

-- std's search in the table
found : (table : List ℕ) (c byte : ℕ) → table ≡ alphabet → c ≡ upper byte
    → cond (ltb (position_or_len (λ x. eqb x c) table) (length table)) (Some (position_or_len (λ x. eqb x c) table)) None
    ≡ cond (ltb (digit_of byte) 40) (Some (digit_of byte)) None
unfolding digit_of alphabet
found table c byte t e =
    ap₂ (λ (l : List ℕ) (x : ℕ). cond (ltb (position_or_len (λ y. eqb y x) l) (length l)) (Some (position_or_len (λ y. eqb y x) l)) None) t e
    ∙ ap (λ (n : ℕ). cond (ltb n 40) (Some n) None) (sym (place_position alphabet (upper byte)))

pub returns-in_default : goal.returns-in_default
returns-in_default c =
    position_from_yields_List (λ x. eqb x c.to_ascii_uppercase-c.result) _ _ _ c.in_default.ensures.ran
    (YieldsList-from_slice c.characters.result (search rules)) (λ x b q k. search (rules, tests))
    ∙ found c.characters.result c.to_ascii_uppercase-c.result c.args.byte c.characters.ensures
    (c.to_ascii_uppercase-c.ensures.value ∙ std_upper c.args.byte)

pub returns : goal.returns
returns c =
    position_from_yields_List (λ x. eqb x c.to_ascii_uppercase-c.result) _ _ _ c.in-Some.ensures.ran
    (YieldsList-from_slice c.characters.result (search rules)) (λ x b q k. search (rules, tests))
    ∙ found c.characters.result c.to_ascii_uppercase-c.result c.args.byte c.characters.ensures
    (c.to_ascii_uppercase-c.ensures.value ∙ std_upper c.args.byte)

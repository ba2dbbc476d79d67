-- A callsign as a number: base 40, least digit first, a digit being a place in the alphabet. Assumes nothing.
use Rattle.std.specs.Prelude.{Bool, true, cond, ◌&&◌, List, [], ◌∷◌, ℕ, zero, suc, ◌+◌, ◌-◌, ◌*◌, ◌/◌, ◌%◌, eqb, ltb, leb, get_or}

-- the 40 characters: space, A to Z, 0 to 9, and - / .
unfoldable pub alphabet : List ℕ
alphabet =
    32 ∷ 65 ∷ 66 ∷ 67 ∷ 68 ∷ 69 ∷ 70 ∷ 71 ∷ 72 ∷ 73 ∷ 74 ∷ 75 ∷ 76 ∷ 77 ∷ 78 ∷ 79 ∷ 80 ∷ 81 ∷ 82 ∷ 83 ∷ 84 ∷ 85 ∷ 86 ∷ 87 ∷ 88 ∷ 89 ∷ 90
    ∷ 48 ∷ 49 ∷ 50 ∷ 51 ∷ 52 ∷ 53 ∷ 54 ∷ 55 ∷ 56 ∷ 57 ∷ 45 ∷ 47 ∷ 46 ∷ []

-- the character of a digit
unfoldable pub character : ℕ → ℕ
character d = get_or alphabet d 0

-- n characters of a number, the least digit first: digit 0 is the space that pads
unfoldable pub callsign_of : ℕ → ℕ → List ℕ
callsign_of zero v = []
callsign_of (suc n) v = character (v % 40) ∷ callsign_of n (v / 40)

-- lower case, a to z, is written as upper
unfoldable pub upper : ℕ → ℕ
upper c = cond (leb 97 c && leb c 122) (c - 32) c

-- the place of a byte in a list: the length where it has none
unfoldable pub place_in : List ℕ → ℕ → ℕ
place_in [] c = 0
place_in (x ∷ xs) c = cond (eqb x c) 0 (suc (place_in xs c))

-- the digit of a byte: 40 for a byte outside the alphabet
unfoldable pub digit_of : ℕ → ℕ
digit_of c = place_in alphabet (upper c)

-- no byte is outside the alphabet
unfoldable pub known : List ℕ → Bool
known [] = true
known (c ∷ cs) = ltb (digit_of c) 40 && known cs

-- all are spaces
unfoldable pub blank : List ℕ → Bool
blank [] = true
blank (c ∷ cs) = eqb c 32 && blank cs

-- the number of a callsign
unfoldable pub callsign_value : List ℕ → ℕ
callsign_value [] = 0
callsign_value (c ∷ cs) = digit_of c + 40 * callsign_value cs

-- Field 33 by its first letter, as the enums and the struct of the code hold it: what each case stands for, and
-- which of places 52 to 58 fail of it.
-- Assumes nothing.
use Rattle.std.specs.Prelude.{ℕ, Bool, true, false, not, cond, List, [], ◌∷◌, eqb, drop}
use Prim.Native.Char.{code}
use Rattle.text.specs.Bytes.{same}
use Rattle.text.specs.Text.{bytes}
use Rattle.identifier.specs.Isin.{valid_isin}
use Rattle.fields.specs.Forms.{blank, starts}
use Rattle.underlying.specs.declared.Theme.{Theme}
use Rattle.underlying.specs.declared.Theme.TheVariants.{Basket, Commodity, Metal, NonMetal, Interest, Currency}
use Rattle.underlying.specs.declared.Underlying.{Underlying}
use Rattle.underlying.specs.declared.Underlying.TheVariants.{Missing, Isin, Eurex, Otob, Foreign, Themed, Unlisted, Unknown}
use Rattle.underlying.specs.declared.Derivative.{Derivative}
use Rattle.underlying.specs.Underlying.{is_missing}

-- the word that each theme stands for
abbrev pub theme_word : Theme → List ℕ
theme_word Basket = bytes "BASKET"
theme_word Commodity = bytes "COMMODITY"
theme_word Metal = bytes "METAL"
theme_word NonMetal = bytes "NON-METAL"
theme_word Interest = bytes "INTEREST"
theme_word Currency = bytes "CURRENCY"

-- the first of some themes whose word it is; unlisted where it is none of their words
unfoldable pub first_theme : List Theme → List ℕ → Underlying
first_theme [] word = Unlisted
first_theme (theme ∷ themes) word = cond (same word (theme_word theme)) (Themed theme) (first_theme themes word)

-- what follows T
abbrev pub theme_of : List ℕ → Underlying
theme_of word = first_theme (Basket ∷ Commodity ∷ Metal ∷ NonMetal ∷ Interest ∷ Currency ∷ []) word

-- F33 by its first byte
unfoldable pub present_of : List ℕ → Underlying
present_of f33 =
    -- S, and whether the rest is a valid ISIN
    cond (starts f33 "S") (Isin (valid_isin (drop 1 f33)))
    -- E, O or A, and whether it stands alone
    (cond (starts f33 "E") (Eurex (blank (drop 1 f33)))
    (cond (starts f33 "O") (Otob (blank (drop 1 f33)))
    (cond (starts f33 "A") (Foreign (blank (drop 1 f33)))
    -- T, and what follows it
    (cond (starts f33 "T") (theme_of (drop 1 f33))
    -- not S, E, O, A, T
    Unknown))))

-- F33 where F21 asks for an underlying: missing where it is blank or over 41 bytes, else by its first byte
unfoldable pub underlying_of : List ℕ → Underlying
underlying_of f33 = cond (is_missing f33) Missing (present_of f33)

-- the letter that each case begins with; 0 where it is missing, a question mark for any other letter
abbrev pub first_letter : Underlying → ℕ
first_letter Missing = 0
first_letter (Isin valid) = code "S"
first_letter (Eurex alone) = code "E"
first_letter (Otob alone) = code "O"
first_letter (Foreign alone) = code "A"
first_letter (Themed theme) = code "T"
first_letter Unlisted = code "T"
first_letter Unknown = code "?"

-- what follows the letter is not what it asks for: a valid ISIN, a number, one of the six words
abbrev pub is_lacking : Underlying → Bool
is_lacking Missing = false
is_lacking (Isin valid) = not valid
is_lacking (Eurex alone) = alone
is_lacking (Otob alone) = alone
is_lacking (Foreign alone) = alone
is_lacking (Themed theme) = false
is_lacking Unlisted = true
is_lacking Unknown = false

-- whether each of places 52 to 58 fails, of an underlying beside the byte of F19: a line for each case, a column for each place
abbrev pub tests_beside : ℕ → Underlying → List Bool
tests_beside naming Missing = true ∷ false ∷ false ∷ false ∷ false ∷ false ∷ false ∷ []
tests_beside naming (Isin valid) = false ∷ not valid ∷ false ∷ false ∷ false ∷ false ∷ false ∷ []
tests_beside naming (Eurex alone) = false ∷ false ∷ false ∷ false ∷ false ∷ eqb naming (code "O") ∷ alone ∷ []
tests_beside naming (Otob alone) = false ∷ false ∷ eqb naming (code "E") ∷ false ∷ false ∷ false ∷ alone ∷ []
tests_beside naming (Foreign alone) = false ∷ false ∷ eqb naming (code "E") ∷ false ∷ false ∷ eqb naming (code "O") ∷ alone ∷ []
tests_beside naming (Themed theme) = false ∷ false ∷ eqb naming (code "E") ∷ false ∷ false ∷ eqb naming (code "O") ∷ false ∷ []
tests_beside naming Unlisted = false ∷ false ∷ eqb naming (code "E") ∷ true ∷ false ∷ eqb naming (code "O") ∷ false ∷ []
tests_beside naming Unknown = false ∷ false ∷ false ∷ false ∷ true ∷ false ∷ false ∷ []

-- the same, of a derivative
unfoldable pub tests_of : Derivative → List Bool
tests_of d = tests_beside d.naming d.underlying

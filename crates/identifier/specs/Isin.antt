-- The ISIN of ISO 6166: its form and its check digit, as document 01 words them, and the sum letter by letter of document 02, Item 3.
-- Assumes nothing.
use Rattle.std.specs.Prelude.{ℕ, ◌+◌, ◌-◌, ◌*◌, ◌/◌, ◌%◌, Bool, true, ◌&&◌, not, cond, List, [], ◌∷◌, ◌++◌, reverse, eqb, length, get_or, take, drop}
use Prim.Native.Char.{code}
use Rattle.text.specs.Class.{is_digit, is_capital, is_capital_or_digit}
use Rattle.text.specs.Bytes.{all}

-- "ISIN form": two capitals, nine capitals or digits, a digit
unfoldable pub isin_form : List ℕ → Bool
isin_form s = eqb (length s) 12 && all is_capital (take 2 s) && all is_capital_or_digit (take 9 (drop 2 s)) && all is_digit (drop 11 s)

-- the value of a digit; a letter becomes 10 to 35
unfoldable pub letter_value : ℕ → ℕ
letter_value b = cond (is_digit b) (b - code "0") (b - code "A" + 10)

-- the digits of a value, one or two, and those that a text becomes, in order
unfoldable pub digits_of : ℕ → List ℕ
digits_of b = cond (is_digit b) (letter_value b ∷ []) (letter_value b / 10 ∷ letter_value b % 10 ∷ [])

unfoldable pub digits : List ℕ → List ℕ
digits [] = []
digits (b ∷ bs) = digits_of b ++ digits bs

-- a digit doubled, and its digits added
abbrev pub doubled : ℕ → ℕ
doubled d = 2 * d / 10 + 2 * d % 10

-- the sum over digits of which the first, third and so on are doubled where the flag says so, else the second, fourth and so on
unfoldable pub weighted : Bool → List ℕ → ℕ
weighted double [] = 0
weighted double (d ∷ ds) = cond double (doubled d) d + weighted (not double) ds

-- the sum over the digits of what stands before the check digit, from the last of them leftwards
unfoldable pub digit_sum : List ℕ → ℕ
digit_sum s = weighted true (reverse (digits s))

-- Document 02, Item 3: the same sum letter by letter, with no list of digits. What a value adds: its last digit, doubled where the flag says so, and the
-- one before it, 0 for a digit, doubled where the flag does not
unfoldable pub value_weight : Bool → ℕ → ℕ
value_weight double v = cond double (doubled (v % 10) + v / 10) (v % 10 + doubled (v / 10))

-- whether the next digit to the left is doubled: one digit turns the flag, the two of a letter leave it
unfoldable pub turned : Bool → ℕ → Bool
turned double b = cond (is_digit b) (not double) double

-- the sum over letters that stand from right to left, and over a text, from its last letter leftwards
unfoldable pub letters_from : Bool → List ℕ → ℕ
letters_from double [] = 0
letters_from double (b ∷ bs) = value_weight double (letter_value b) + letters_from (turned double b) bs

unfoldable pub letter_sum : List ℕ → ℕ
letter_sum s = letters_from true (reverse s)

-- "check digit" is right: the sum with it is a multiple of 10. It is the twelfth byte
unfoldable pub check_digit_right : List ℕ → Bool
check_digit_right s = eqb ((digit_sum (take 11 s) + letter_value (get_or s 11 0)) % 10) 0

-- a valid ISIN: of the form, with the right check digit
abbrev pub valid_isin : List ℕ → Bool
valid_isin s = isin_form s && check_digit_right s

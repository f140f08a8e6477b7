-- The forms of bank codes, SWIFT addresses and names (document 01, the first paragraph of the sixty-four checks).
-- Assumes nothing.
use Rattle.std.specs.Prelude.{ℕ, Bool, ◌&&◌, ◌||◌, cond, List, ◌++◌, leb, eqb, length, take, drop}
use Rattle.text.specs.Class.{is_digit, is_capital, is_capital_or_digit}
use Rattle.text.specs.Bytes.{all, same}
use Rattle.text.specs.Text.{bytes}

-- a bank code: five digits
unfoldable pub bank_code : List ℕ → Bool
bank_code s = eqb (length s) 5 && all is_digit s

-- "SWIFT form": six capitals, then two or five capitals or digits
unfoldable pub swift_form : List ℕ → Bool
swift_form s = (eqb (length s) 8 || eqb (length s) 11) && (all is_capital (take 6 s) && all is_capital_or_digit (drop 6 s))

-- eight bytes mean the same with XXX added
unfoldable pub completed : List ℕ → List ℕ
completed s = cond (eqb (length s) 8) (s ++ bytes "XXX") s

-- two addresses are the same once completed
unfoldable pub same_address : List ℕ → List ℕ → Bool
same_address s t = same (completed s) (completed t)

-- 1 to k capitals or digits
unfoldable pub name_up_to : ℕ → List ℕ → Bool
name_up_to k s = leb 1 (length s) && leb (length s) k && all is_capital_or_digit s

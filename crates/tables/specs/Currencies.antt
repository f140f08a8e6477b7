-- The currency list of document 01, "Lent tables and the ledger": 0 to 512 codes of three capitals, strictly ascending; money and special codes.
-- Assumes nothing.
use Rattle.std.specs.Prelude.{ℕ, ◌*◌, ◌/◌, ◌%◌, Bool, ◌&&◌, ◌||◌, not, List, leb, eqb, length}
use Rattle.frame.specs.Every.{every}
use Rattle.frame.specs.Parts.{part}
use Rattle.text.specs.Class.{is_capital}
use Rattle.text.specs.Bytes.{all, same}
use Rattle.text.specs.Search.{is_among, follows, found}
use Rattle.text.specs.Text.{bytes}

-- bytes of a code, and the most codes that a list may have
abbrev pub currency_size : ℕ
currency_size = 3

abbrev pub currency_limit : ℕ
currency_limit = 512

abbrev pub currency_count : List ℕ → ℕ
currency_count t = length t / currency_size

abbrev pub currency_at : List ℕ → ℕ → List ℕ
currency_at t k = part currency_size k t

-- "Special": XXX, XXK, XXO or XXZ
unfoldable pub is_special : List ℕ → Bool
is_special s = same s (bytes "XXX") || same s (bytes "XXK") || same s (bytes "XXO") || same s (bytes "XXZ")

-- code k is three capitals, no special code, and comes after the code before it
unfoldable pub currency_ok : List ℕ → ℕ → Bool
currency_ok t k = all is_capital (currency_at t k) && not (is_special (currency_at t k)) && follows (currency_at t) k

-- the list is as document 01 asks; else a call is refused by 3
unfoldable pub currencies_ok : List ℕ → Bool
currencies_ok t =
    leb (length t) (currency_limit * currency_size) && eqb (length t % currency_size) 0 && every (currency_count t) (currency_ok t)

-- "Money": a code in the list
unfoldable pub is_money : List ℕ → List ℕ → Bool
is_money t s = is_among (currency_count t) (currency_at t) s

-- what a search of the whole list finds: money, where the list is as document 01 asks
unfoldable pub found_money : List ℕ → List ℕ → Bool
found_money t s = found (currency_count t) (currency_at t) s

-- The reporters table of document 01, "Lent tables and the ledger": 0 to 16 rows of 32 bytes; and what is looked up in it.
-- Assumes nothing.
use Rattle.std.specs.Prelude.{ℕ, ◌*◌, ◌/◌, ◌%◌, Bool, ◌&&◌, not, List, leb, ltb, eqb, length, take, drop}
use Prim.Native.Char.{code}
use Rattle.frame.specs.Every.{every, least}
use Rattle.frame.specs.Parts.{part}
use Rattle.text.specs.Class.{is_space, is_zero}
use Rattle.text.specs.Bytes.{all, same, position_of}
use Rattle.identifier.specs.Identifier.{bank_code, swift_form, same_address, name_up_to}

-- bytes of a row, and the most rows that a table may have
abbrev pub reporter_size : ℕ
reporter_size = 32

abbrev pub reporter_limit : ℕ
reporter_limit = 16

abbrev pub reporter_count : List ℕ → ℕ
reporter_count t = length t / reporter_size

abbrev pub reporter_at : List ℕ → ℕ → List ℕ
reporter_at t k = part reporter_size k t

-- bytes 0-4 of a row: the bank code
abbrev pub code_of : List ℕ → List ℕ
code_of w = take 5 w

-- 5-15: the SWIFT address
abbrev pub address_of : List ℕ → List ℕ
address_of w = take 11 (drop 5 w)

-- 16-23: the mailbox, then spaces
abbrev pub mailbox_bytes : List ℕ → List ℕ
mailbox_bytes w = take 8 (drop 16 w)

unfoldable pub mailbox_of : List ℕ → List ℕ
mailbox_of w = take (position_of (code " ") (mailbox_bytes w)) (mailbox_bytes w)

unfoldable pub mailbox_form : List ℕ → Bool
mailbox_form w = name_up_to 8 (mailbox_of w) && all is_space (drop (length (mailbox_of w)) (mailbox_bytes w))

-- a row's form: a bank code, an address of eleven bytes, a mailbox, and from byte 24 on zeros
unfoldable pub reporter_form : List ℕ → Bool
reporter_form w = bank_code (code_of w) && swift_form (address_of w) && mailbox_form w && all is_zero (drop 24 w)

-- rows k and j differ in bank code and in address
unfoldable pub reporters_differ : List ℕ → ℕ → ℕ → Bool
reporters_differ t k j =
    not (same (code_of (reporter_at t k)) (code_of (reporter_at t j))) && not (same (address_of (reporter_at t k)) (address_of (reporter_at t j)))

-- row k has the form, and differs from each row before it
unfoldable pub reporter_ok : List ℕ → ℕ → Bool
reporter_ok t k = reporter_form (reporter_at t k) && every k (reporters_differ t k)

-- the table is as document 01 asks; else a call is refused by 2
unfoldable pub reporters_ok : List ℕ → Bool
reporters_ok t =
    leb (length t) (reporter_limit * reporter_size) && eqb (length t % reporter_size) 0 && every (reporter_count t) (reporter_ok t)

-- row k has the bank code; the address, eight bytes completed; the mailbox
unfoldable pub has_code : List ℕ → List ℕ → ℕ → Bool
has_code t f k = ltb k (reporter_count t) && same (code_of (reporter_at t k)) f

unfoldable pub has_address : List ℕ → List ℕ → ℕ → Bool
has_address t f k = ltb k (reporter_count t) && same_address (address_of (reporter_at t k)) f

unfoldable pub has_mailbox : List ℕ → List ℕ → ℕ → Bool
has_mailbox t f k = ltb k (reporter_count t) && same (mailbox_of (reporter_at t k)) f

-- the first row with the bank code, with the address; the count of rows where there is none
unfoldable pub row_by_code : List ℕ → List ℕ → ℕ
row_by_code t f = least (reporter_count t) (has_code t f)

unfoldable pub row_by_address : List ℕ → List ℕ → ℕ
row_by_address t f = least (reporter_count t) (has_address t f)

-- A row of the ledger, of document 01, "Lent tables and the ledger": where its parts stand, and its form.
-- Assumes nothing.
use Rattle.std.specs.Prelude.{ℕ, Bool, ◌&&◌, ◌||◌, not, List, eqb, leb, get_or, take, drop}
use Prim.Native.Char.{code}
use Rattle.text.specs.Class.{is_zero}
use Rattle.text.specs.Bytes.{all}
use Rattle.text.specs.Number.{number_at}
use Rattle.identifier.specs.Identifier.{name_up_to}
use Rattle.ledger.specs.declared.State.{State}
use Rattle.ledger.specs.declared.State.TheVariants.{Free, Live, Cancelled, Cancellation}

-- bytes of a row
abbrev pub row_size : ℕ
row_size = 32

-- byte 0: the state
abbrev pub state_place : ℕ
state_place = 0

abbrev pub free : ℕ
free = 0

abbrev pub live : ℕ
live = 1

abbrev pub cancelled : ℕ
cancelled = 2

abbrev pub cancellation : ℕ
cancellation = 3

-- the byte of a state
abbrev pub byte_of : State → ℕ
byte_of Free = free
byte_of Live = live
byte_of Cancelled = cancelled
byte_of Cancellation = cancellation

abbrev pub state : List ℕ → ℕ
state w = get_or w state_place 0

abbrev pub filled_row : List ℕ → Bool
filled_row w = not (eqb (state w) free)

-- byte 1: the length of the number. Bytes 2-17: the number, then zeros
abbrev pub length_place : ℕ
length_place = 1

abbrev pub number_place : ℕ
number_place = 2

abbrev pub number_room : ℕ
number_room = 16

abbrev pub number_length : List ℕ → ℕ
number_length w = get_or w length_place 0

abbrev pub number : List ℕ → List ℕ
number w = take (number_length w) (drop number_place w)

abbrev pub number_padding : List ℕ → List ℕ
number_padding w = drop (number_length w) (take number_room (drop number_place w))

-- bytes 18-25: the quantity, in ten-thousandths
abbrev pub quantity_place : ℕ
quantity_place = 18

abbrev pub largest_quantity : ℕ
largest_quantity = 9_999_999_999_999_999_999

abbrev pub quantity : List ℕ → ℕ
quantity w = number_at 8 quantity_place w

-- bytes 26-27: the partner row in the same compartment, 65535 for none
abbrev pub partner_place : ℕ
partner_place = 26

abbrev pub no_partner : ℕ
no_partner = 65535

abbrev pub partner : List ℕ → ℕ
partner w = number_at 2 partner_place w

-- byte 28: B or S
abbrev pub side_place : ℕ
side_place = 28

abbrev pub side : List ℕ → ℕ
side w = get_or w side_place 0

abbrev pub is_side : ℕ → Bool
is_side b = eqb b (code "B") || eqb b (code "S")

-- bytes 29-31: zero
abbrev pub zeros_place : ℕ
zeros_place = 29

-- the form of a filled row, but for what its partner has to be
unfoldable pub row_form : List ℕ → Bool
row_form w =
    leb live (state w) && leb (state w) cancellation
    && name_up_to number_room (number w) && all is_zero (number_padding w)
    && leb (quantity w) largest_quantity
    && is_side (side w)
    && all is_zero (drop zeros_place w)

-- A booking into a compartment (document 01, "No failure"): a new live row, and for a cancellation the link with the row that it names.
-- Assumes nothing.
use Rattle.std.specs.Prelude.{ℕ, ◌-◌, Bool, ◌&&◌, cond, List, [], ◌∷◌, ◌++◌, eqb, leb, ltb, length, set, replicate}
use Rattle.frame.specs.Parts.{put}
use Rattle.text.specs.Number.{low_bytes, number_put}
use Rattle.ledger.specs.Row.{row_size, state_place, number_room, partner_place, live, cancelled, cancellation, no_partner}
use Rattle.ledger.specs.Sound.{rows_of, row_count, compartment_size}

-- sixteen bytes: the number, then zeros
unfoldable pub padded : List ℕ → List ℕ
padded n = n ++ replicate (number_room - length n) 0

-- a live row with number n, quantity q and side s, and no partner
unfoldable pub new_row : List ℕ → ℕ → ℕ → List ℕ
new_row n q s = live ∷ length n ∷ padded n ++ (low_bytes 8 q ++ (low_bytes 2 no_partner ++ (s ∷ 0 ∷ 0 ∷ 0 ∷ [])))

-- row f gets the new row
unfoldable pub entered : ℕ → List ℕ → ℕ → ℕ → List ℕ → List ℕ
entered f n q s c = put row_size f (new_row n q s) c

-- a row with another state and partner; and row k of a compartment with them
unfoldable pub relinked : ℕ → ℕ → List ℕ → List ℕ
relinked s p w = number_put 2 partner_place p (set w state_place s)

unfoldable pub relinked_at : ℕ → ℕ → ℕ → List ℕ → List ℕ
relinked_at k s p c = put row_size k (relinked s p (rows_of c k)) c

-- row f becomes a cancellation and row p cancelled, and they point at each other
unfoldable pub cancelled_by : ℕ → ℕ → List ℕ → List ℕ
cancelled_by f p c = relinked_at p cancelled f (relinked_at f cancellation p c)

-- a booking can be made: the compartment has its length, f is one of its rows, and the number has room
unfoldable pub can_book : ℕ → List ℕ → List ℕ → Bool
can_book f n c = eqb (length c) compartment_size && (ltb f row_count && leb (length n) number_room)

-- The booking of number n, quantity q and side s in row f, which cancels row p where p is a row; the compartment as it was where it cannot be made.
unfoldable pub booked : ℕ → List ℕ → ℕ → ℕ → ℕ → List ℕ → List ℕ
booked f n q s p c = cond (can_book f n c) (cond (ltb p row_count) (cancelled_by f p (entered f n q s c)) (entered f n q s c)) c

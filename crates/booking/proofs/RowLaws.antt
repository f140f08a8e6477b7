-- Laws of a new row, and of a row with another state and partner, part by part.
-- Assumes nothing.
use Prim.Native.Nat.{ℕ, zero, suc, ◌+◌, ◌-◌, ◌^◌, ◌≤◌, ◌<◌}
use native.Mathlib.Omega.{arith}
use mathlib.Core.Path.{◌≡◌, refl, ap, sym, ◌∙◌}
use mathlib.Core.Bool.{true}
use mathlib.Core.List.{List, [], ◌∷◌, ◌++◌}
use lib.Dec.{lit<}
use lib.ListN.{length, get_or, take, drop, set, replicate, length-append, length-set, length-replicate}
use lib.Seq.{get_or-drop, take_at, drop_at, take-take, take-append-le, drop-set-lt, drop-drop}
use Rattle.text.specs.Class.{is_zero}
use Rattle.text.specs.Bytes.{all}
use Rattle.text.specs.Number.{low_bytes, number_at}
use Rattle.text.proofs.NumberLaws.{low_length, little_low, put_length, number_put_lem, put_front, put_back}
use Rattle.text.proofs.ByteLaws.{front_part}
use Rattle.identifier.specs.Identifier.{name_up_to}
use Rattle.ledger.specs.Row.{row_size, live, cancellation, number_room, largest_quantity, no_partner}
use Rattle.ledger.specs.Row.{state_place, quantity_place, partner_place, side_place, zeros_place}
use Rattle.ledger.specs.Row.{state, number, number_padding, quantity, partner, side, is_side, row_form}
use Rattle.ledger.proofs.RowLaws.{form_parts, parts_form, kept_state, kept_number, kept_form}
use Rattle.ledger.proofs.SoundLaws.{Relinked}
use Rattle.booking.specs.Booking.{padded, new_row, relinked}

-- a row with another state and partner
module _ (s p : ℕ) (w : List ℕ) (sized : length w ≡ row_size) where
  abbrev stated : List ℕ
  stated = set w state_place s

  stated_length : length stated ≡ row_size
  stated_length = length-set w state_place s ∙ sized

  pub relinked_length : length (relinked s p w) ≡ row_size
  unfolding relinked
  relinked_length = put_length 2 partner_place p stated ∙ stated_length

  partner_fits : partner_place + 2 ≤ length stated
  partner_fits = omega (arith, stated_length)

  before_partner : take partner_place (relinked s p w) ≡ take partner_place stated
  unfolding relinked
  before_partner = put_front 2 partner_place p stated partner_fits

  before_quantity : take quantity_place (relinked s p w) ≡ take quantity_place stated
  before_quantity =
      sym (take-take quantity_place partner_place (relinked s p w) (omega arith)) ∙ ap (take quantity_place) before_partner
      ∙ take-take quantity_place partner_place stated (omega arith)

  rest_kept : drop side_place (relinked s p w) ≡ drop side_place w
  unfolding relinked
  rest_kept = put_back 2 partner_place p stated partner_fits ∙ drop-set-lt side_place w state_place s (omega arith)

  relinked_partner : p < 256 ^ 2 → partner (relinked s p w) ≡ p
  unfolding relinked
  relinked_partner h = number_put_lem 2 partner_place p stated partner_fits h

  quantity_bytes : take 8 (drop quantity_place (relinked s p w)) ≡ take 8 (drop quantity_place w)
  quantity_bytes =
      front_part partner_place (relinked s p w) stated before_partner quantity_place 8 (omega arith) (omega (arith, relinked_length))
      (omega (arith, stated_length))
      ∙ ap (take 8) (drop-set-lt quantity_place w state_place s (omega arith))

  same_quantity : quantity (relinked s p w) ≡ quantity w
  unfolding number_at
  same_quantity = rw (relinked_length, sized, quantity_bytes)

  pub relinked_row : row_form w ≡ true → live ≤ s → s ≤ cancellation → p < 256 ^ 2 → Relinked s p w (relinked s p w)
  relinked_row h taken known small =
      record {
        form = kept_form s (relinked s p w) w relinked_length sized before_quantity rest_kept h taken known (rw same_quantity (form_parts w h).bounded);
        named = kept_number s (relinked s p w) w relinked_length sized before_quantity rest_kept h;
        stated = kept_state s (relinked s p w) w relinked_length sized before_quantity rest_kept;
        pointing = relinked_partner small;
      }

-- a new row
all_zeros : (k : ℕ) → all is_zero (replicate k 0) ≡ true
unfolding all
all_zeros zero = refl
all_zeros (suc k) = all_zeros k

pub padded_length : (n : List ℕ) → length n ≤ number_room → length (padded n) ≡ number_room
unfolding padded
padded_length n short = simp (length-append, length-replicate) (omega arith)

padding_zero : (n : List ℕ) → all is_zero (drop (length n) (padded n)) ≡ true
unfolding padded
padding_zero n = rw (drop_at n (replicate (number_room - length n) 0) (length n) refl) (all_zeros (number_room - length n))

module _ (n : List ℕ) (q s : ℕ) (short : length n ≤ number_room) where
  pub new_length : length (new_row n q s) ≡ row_size
  unfolding new_row
  new_length = simp (length-append, padded_length n short, low_length)

  pub new_state : state (new_row n q s) ≡ live
  unfolding new_row
  new_state = refl

  pub new_number : number (new_row n q s) ≡ n
  unfolding new_row padded
  new_number = take-append-le (length n) _ _ (rw (padded_length n short) short) ∙ take_at n _ (length n) refl

  new_padding : all is_zero (number_padding (new_row n q s)) ≡ true
  unfolding new_row
  new_padding = rw (take_at (padded n) _ number_room (padded_length n short)) (padding_zero n)

  from_quantity : drop quantity_place (new_row n q s) ≡ low_bytes 8 q ++ (low_bytes 2 no_partner ++ (s ∷ 0 ∷ 0 ∷ 0 ∷ []))
  unfolding new_row
  from_quantity = drop_at (padded n) _ number_room (padded_length n short)

  from_partner : drop partner_place (new_row n q s) ≡ low_bytes 2 no_partner ++ (s ∷ 0 ∷ 0 ∷ 0 ∷ [])
  from_partner = sym (drop-drop 8 quantity_place (new_row n q s)) ∙ rw from_quantity (drop_at (low_bytes 8 q) _ 8 (low_length 8 q))

  from_side : drop side_place (new_row n q s) ≡ s ∷ 0 ∷ 0 ∷ 0 ∷ []
  from_side = sym (drop-drop 2 partner_place (new_row n q s)) ∙ rw from_partner (drop_at (low_bytes 2 no_partner) _ 2 (low_length 2 no_partner))

  new_quantity : q ≤ largest_quantity → quantity (new_row n q s) ≡ q
  unfolding number_at
  new_quantity h = rw (new_length, from_quantity, take_at (low_bytes 8 q) _ 8 (low_length 8 q)) (little_low 8 q (omega arith))

  pub new_partner : partner (new_row n q s) ≡ no_partner
  unfolding number_at
  new_partner = rw (new_length, from_partner, take_at (low_bytes 2 no_partner) _ 2 (low_length 2 no_partner)) (little_low 2 no_partner (lit< tt))

  new_side : side (new_row n q s) ≡ s
  new_side = sym (get_or-drop side_place (new_row n q s) 0 0) ∙ ap (λ (l : List ℕ). get_or l 0 0) from_side

  new_zeros : all is_zero (drop zeros_place (new_row n q s)) ≡ true
  unfolding all
  new_zeros = ap (all is_zero) (sym (drop-drop 1 side_place (new_row n q s)) ∙ ap (drop 1) from_side)

  pub new_form : name_up_to number_room n ≡ true → q ≤ largest_quantity → is_side s ≡ true → row_form (new_row n q s) ≡ true
  new_form named bounded sided =
      parts_form (new_row n q s)
      (record {
        taken = omega (arith, new_state);
        known = omega (arith, new_state);
        named = rw new_number named;
        padded = new_padding;
        bounded = rw (new_quantity bounded) bounded;
        sided = rw new_side sided;
        zeros = new_zeros;
      })

-- The form of a row, part by part; and what a row keeps in which state, quantity or partner is another.
-- Assumes nothing.
use Prim.Native.Nat.{ℕ, ◌+◌, ◌≤◌, ◌<◌}
use native.Mathlib.Omega.{arith}
use mathlib.Core.Bool.{true, ◌&&◌}
use mathlib.Core.List.{List}
use mathlib.Core.Path.{◌≡◌, ap, sym, ◌∙◌}
use borrow.Author.Tests.{le-leb, leb-true}
use lib.Dec.{leb}
use lib.ListN.{length, get_or, take, drop, set, length-take, length-drop, length-set}
use lib.Seq.{get_or-set_same, get_or-set_other, get_or-drop, drop-set-lt, drop-drop}
use Rattle.frame.proofs.BoolLaws.{and_left, and_right}
use Rattle.text.specs.Class.{is_zero}
use Rattle.text.specs.Bytes.{all}
use Rattle.text.proofs.ByteLaws.{front_byte, front_part}
use Rattle.identifier.specs.Identifier.{name_up_to}
use Rattle.ledger.specs.Row.{row_size, live, cancellation, number_room, largest_quantity}
use Rattle.ledger.specs.Row.{state_place, length_place, number_place, quantity_place, side_place, zeros_place}
use Rattle.ledger.specs.Row.{state, number_length, number, number_padding, quantity, side, is_side, row_form}

-- what a row in form has
pub record Form (w : List ℕ) : Type 0 where
  pub taken : live ≤ state w
  pub known : state w ≤ cancellation
  pub named : name_up_to number_room (number w) ≡ true
  pub padded : all is_zero (number_padding w) ≡ true
  pub bounded : quantity w ≤ largest_quantity
  pub sided : is_side (side w) ≡ true
  pub zeros : all is_zero (drop zeros_place w) ≡ true

pub form_parts : (w : List ℕ) → row_form w ≡ true → Form w
unfolding row_form
form_parts w h =
    let a = leb live (state w) in
    let b = a && leb (state w) cancellation in
    let d = b && name_up_to number_room (number w) in
    let e = d && all is_zero (number_padding w) in
    let f = e && leb (quantity w) largest_quantity in
    let g = f && is_side (side w) in
    let hg : g ≡ true = and_left g _ h in
    let hf : f ≡ true = and_left f _ hg in
    let he : e ≡ true = and_left e _ hf in
    let hd : d ≡ true = and_left d _ he in
    let hb : b ≡ true = and_left b _ hd in
    record {
      taken = leb-true _ _ (and_left a _ hb);
      known = leb-true _ _ (and_right a _ hb);
      named = and_right b _ hd;
      padded = and_right d _ he;
      bounded = leb-true _ _ (and_right e _ hf);
      sided = and_right f _ hg;
      zeros = and_right g _ h;
    }

pub parts_form : (w : List ℕ) → Form w → row_form w ≡ true
unfolding row_form
parts_form w F =
    rw (le-leb _ _ F.taken, le-leb _ _ F.known, F.named, F.padded, le-leb _ _ F.bounded, F.sided) F.zeros

-- a name is not longer than its bound
pub name_short : (k : ℕ) (s : List ℕ) → name_up_to k s ≡ true → length s ≤ k
unfolding name_up_to
name_short k s h = leb-true _ _ (and_right (leb 1 (length s)) _ (and_left (leb 1 (length s) && leb (length s) k) _ h))

-- the number of a row in form has at most 16 bytes, and its length byte says so
pub number_short : (w : List ℕ) → length w ≡ row_size → row_form w ≡ true → number_length w ≤ number_room
number_short w z h =
    let short : length (number w) ≤ number_room = name_short number_room (number w) (form_parts w h).named in
    omega (arith, simp (length-take, length-drop) at short)

-- A row v that begins as the row w with the state s, up to the quantity, and ends as w from the side on: its number, its side and its zeros are w's.
module _ (s : ℕ) (v w : List ℕ) (lv : length v ≡ row_size) (lw : length w ≡ row_size)
    (begins : take quantity_place v ≡ take quantity_place (set w state_place s)) (ends : drop side_place v ≡ drop side_place w) where
  byte_kept : (i : ℕ) → i < quantity_place → get_or v i 0 ≡ get_or (set w state_place s) i 0
  byte_kept = front_byte quantity_place v (set w state_place s) begins

  part_kept : (a k : ℕ) → 0 < a → a + k ≤ quantity_place → take k (drop a v) ≡ take k (drop a w)
  part_kept a k pos h =
      front_part quantity_place v (set w state_place s) begins a k h (omega arith) (rw length-set (omega arith))
      ∙ ap (take k) (drop-set-lt a w state_place s pos)

  pub kept_state : state v ≡ s
  kept_state = byte_kept state_place (omega arith) ∙ get_or-set_same w state_place s 0 (omega arith)

  same_length : number_length v ≡ number_length w
  same_length = byte_kept length_place (omega arith) ∙ get_or-set_other w state_place length_place s 0 (omega arith)

  same_padding : number_padding v ≡ number_padding w
  same_padding = rw (same_length, part_kept number_place number_room (omega arith) (omega arith))

  same_side : side v ≡ side w
  same_side = sym (get_or-drop side_place v 0 0) ∙ ap (λ (l : List ℕ). get_or l 0 0) ends ∙ get_or-drop side_place w 0 0

  same_zeros : drop zeros_place v ≡ drop zeros_place w
  same_zeros = sym (drop-drop 1 side_place v) ∙ ap (drop 1) ends ∙ drop-drop 1 side_place w

  module _ (form : row_form w ≡ true) where
    pub kept_number : number v ≡ number w
    kept_number =
        let short : number_length w ≤ number_room = number_short w lw form in
        rw same_length (part_kept number_place (number_length w) (omega arith) (omega arith))

    pub kept_form : live ≤ s → s ≤ cancellation → quantity v ≤ largest_quantity → row_form v ≡ true
    kept_form taken known bounded =
        let F : Form w = form_parts w form in
        parts_form v
        (record {
          taken = rw kept_state taken;
          known = rw kept_state known;
          named = rw kept_number F.named;
          padded = rw same_padding F.padded;
          bounded = bounded;
          sided = rw same_side F.sided;
          zeros = rw same_zeros F.zeros;
        })

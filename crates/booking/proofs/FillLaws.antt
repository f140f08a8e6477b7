-- The stores and calls that fill a row make a new row.
-- Assumes nothing.
use Prim.Native.Nat.{ℕ, ◌≤◌}
use native.Mathlib.Omega.{arith}
use mathlib.Core.Path.{◌≡◌, refl, ap, ◌∙◌}
use mathlib.Core.List.{List, [], ◌∷◌, ◌++◌, append_assoc}
use borrow.Rule.Slice.PartMut.{put_mid}
use lib.ListN.{length, take, drop, length-append, length-drop}
use lib.Seq.{sets, sets-eq, drop_at, drop-drop, length-take-le}
use Rattle.frame.proofs.StoreLaws.{extend}
use Rattle.text.specs.Number.{low_bytes, number_put}
use Rattle.text.proofs.NumberLaws.{low_length, put_parts}
use Rattle.ledger.specs.Row.{row_size, state_place, live, number_place, number_room, quantity_place, partner_place, no_partner, side_place, zeros_place}
use Rattle.booking.specs.Booking.{padded, new_row}
use Rattle.booking.proofs.RowLaws.{padded_length}

-- a number that is put behind what is done already
put_behind : (k at x : ℕ) (d r : List ℕ) → length d ≡ at → k ≤ length r → number_put k at x (d ++ r) ≡ (d ++ low_bytes k x) ++ drop k r
put_behind k at x d r e h = put_parts k at x (d ++ r) (rw length-append (omega arith)) ∙ extend d r (low_bytes k x) at k e

module _ (w n : List ℕ) (q s : ℕ) (sized : length w ≡ row_size) (zeros : drop zeros_place w ≡ 0 ∷ 0 ∷ 0 ∷ []) (short : length n ≤ number_room) where
  -- a row's first two bytes and its last four
  abbrev front : List ℕ
  front = live ∷ length n ∷ []

  abbrev end : List ℕ
  end = s ∷ 0 ∷ 0 ∷ 0 ∷ []

  -- what stands between them
  abbrev between : List ℕ
  between = take 26 (drop 2 w)

  -- the bytes that stand alone: state, length and side, where the zeros behind them stand
  alone : sets (sets w state_place front) side_place (s ∷ []) ≡ front ++ (between ++ end)
  alone =
      ap (λ (l : List ℕ). sets l side_place (s ∷ [])) (sets-eq front w state_place (omega arith))
      ∙ ap (λ (l : List ℕ). front ++ l)
      (sets-eq (s ∷ []) (drop 2 w) 26 (rw length-drop (omega arith))
      ∙ rw (drop-drop 27 2 w, zeros) (append_assoc between (s ∷ []) (0 ∷ 0 ∷ 0 ∷ [])))

  -- then the number, the quantity and the partner
  pub row_filled : {v b d : List ℕ} → v ≡ padded n
      → b ≡ number_put 8 quantity_place q (put_mid number_place number_room (sets (sets w state_place front) side_place (s ∷ [])) v)
      → d ≡ number_put 2 partner_place no_partner b → d ≡ new_row n q s
  unfolding new_row
  row_filled {v} {b} {d} ev eb ed =
      let long : length v ≡ number_room = rw ev (padded_length n short) in
      let middle : length between ≡ 26 = length-take-le 26 (drop 2 w) (rw length-drop (omega arith)) in
      let numbered : put_mid number_place number_room (sets (sets w state_place front) side_place (s ∷ [])) v ≡ (front ++ v) ++ drop 16 (between ++ end)
      = ap (λ (l : List ℕ). put_mid number_place number_room l v) alone ∙ extend front (between ++ end) v 2 16 refl in
      let counted : b ≡ ((front ++ v) ++ low_bytes 8 q) ++ drop 8 (drop 16 (between ++ end))
      = eb ∙ rw numbered (put_behind 8 quantity_place q (front ++ v) (drop 16 (between ++ end))
      (rw length-append (omega arith)) (simp (length-drop, length-append) (omega arith))) in
      let linked : d ≡ (((front ++ v) ++ low_bytes 8 q) ++ low_bytes 2 no_partner) ++ drop 2 (drop 8 (drop 16 (between ++ end)))
      = ed ∙ rw counted (put_behind 2 partner_place no_partner ((front ++ v) ++ low_bytes 8 q) (drop 8 (drop 16 (between ++ end)))
      (simp (length-append, low_length) (omega arith)) (simp (length-drop, length-append) (omega arith))) in
      let left : drop 2 (drop 8 (drop 16 (between ++ end))) ≡ end
      = rw (drop-drop 8 16 (between ++ end), drop-drop 2 24 (between ++ end)) (drop_at between end 26 middle) in
      linked ∙ rw (left, ev)
      (append_assoc ((front ++ padded n) ++ low_bytes 8 q) (low_bytes 2 no_partner) end
      ∙ append_assoc (front ++ padded n) (low_bytes 8 q) (low_bytes 2 no_partner ++ end))

-- Laws of the form of a row: its number and the zeros after it are the sixteen bytes of two words, and equal words are equal numbers.
-- Assumes nothing.
use Prim.Native.Nat.{ℕ, ◌+◌, ◌≤◌, ◌<◌}
use native.Mathlib.Omega.{arith}
use mathlib.Core.Bool.{Bool, true, false, ◌&&◌, ◌||◌, false≢true}
use mathlib.Core.List.{List, [], ◌∷◌, ◌++◌}
use mathlib.Core.Path.{◌≡◌, refl, ap, subst, sym, ◌∙◌}
use borrow.Author.Tests.{eq-eqb, ne_eqb, eqb-true, leb-true, lt-ltb, ltb-true}
use lib.Dec.{eqb, leb}
use lib.ListN.{length, take, drop, length-append, length-take, length-drop, take-append-drop}
use lib.Seq.{drop_at, take-take, take-add, drop-drop, take-append_seam}
use Rattle.frame.proofs.BoolLaws.{and_left, and_right, and_intro, both_ways}
use Rattle.text.specs.Class.{is_zero, is_capital_or_digit}
use Rattle.text.specs.Bytes.{all, same, position_of}
use Rattle.text.specs.Number.{little_endian, number_at}
use Rattle.text.proofs.ByteLaws.{is_byte, all_append, all_weaker, same_true, same_refl}
use Rattle.identifier.specs.Identifier.{name_up_to}
use Rattle.ledger.specs.Row.{row_size, live, cancellation, number_place, number_room, largest_quantity, zeros_place, is_side}
use Rattle.ledger.specs.Row.{state, number_length, number, number_padding, quantity, side, row_form}

zero_byte : (b : ℕ) → is_zero b ≡ true → is_byte b ≡ true
zero_byte b h = let e : b ≡ 0 = eqb-true b 0 h in lt-ltb b 256 (omega arith)

name_byte : (b : ℕ) → is_capital_or_digit b ≡ true → is_byte b ≡ true
name_byte b h = go (leb 65 b) (leb b 90) (leb 48 b) (leb b 57) refl refl h
  where
    go : (t u v x : Bool) → leb b 90 ≡ u → leb b 57 ≡ x → ((t && u) || (v && x)) ≡ true → is_byte b ≡ true
    go t true v x p q e = let m : b ≤ 90 = leb-true b 90 p in lt-ltb b 256 (omega arith)
    go t false v true p q e = let m : b ≤ 57 = leb-true b 57 q in lt-ltb b 256 (omega arith)
    go true false true false p q e = absurd (false≢true e)
    go true false false false p q e = absurd (false≢true e)
    go false false true false p q e = absurd (false≢true e)
    go false false false false p q e = absurd (false≢true e)

name_filled : (b : ℕ) → is_capital_or_digit b ≡ true → eqb b 0 ≡ false
name_filled b h = ne_eqb b 0 (λ e. false≢true (subst (λ (n : ℕ). is_capital_or_digit n ≡ true) e h))

-- numbers of as many bytes are equal only where their bytes are
little_injective : (s t : List ℕ) → length s ≡ length t → all is_byte s ≡ true → all is_byte t ≡ true → little_endian s ≡ little_endian t → s ≡ t
unfolding all little_endian
little_injective [] [] l p q e = refl
little_injective [] (y ∷ t) l p q e = absurd (omega arith)
little_injective (x ∷ s) [] l p q e = absurd (omega arith)
little_injective (x ∷ s) (y ∷ t) l p q e =
    let m : x < 256 = ltb-true x 256 (and_left (is_byte x) _ p) in
    let n : y < 256 = ltb-true y 256 (and_left (is_byte y) _ q) in
    let d : x ≡ y = omega arith in
    let r : little_endian s ≡ little_endian t = omega arith in
    rw (d, little_injective s t (omega arith) (and_right (is_byte x) _ p) (and_right (is_byte y) _ q) r)

zeros_equal : (s t : List ℕ) → length s ≡ length t → all is_zero s ≡ true → all is_zero t ≡ true → s ≡ t
unfolding all
zeros_equal [] [] l p q = refl
zeros_equal [] (y ∷ t) l p q = absurd (omega arith)
zeros_equal (x ∷ s) [] l p q = absurd (omega arith)
zeros_equal (x ∷ s) (y ∷ t) l p q =
    let m : x ≡ 0 = eqb-true x 0 (and_left (is_zero x) _ p) in
    let n : y ≡ 0 = eqb-true y 0 (and_left (is_zero y) _ q) in
    rw (m, n, zeros_equal s t (omega arith) (and_right (is_zero x) _ p) (and_right (is_zero y) _ q))

-- a name that zeros follow ends at the first zero
name_end : (s t : List ℕ) → all is_capital_or_digit s ≡ true → all is_zero t ≡ true → position_of 0 (s ++ t) ≡ length s
unfolding all position_of
name_end [] [] p q = refl
name_end [] (y ∷ t) p q = rw (and_left (is_zero y) _ q)
name_end (x ∷ s) t p q =
    rw (name_filled x (and_left (is_capital_or_digit x) _ p), name_end s t (and_right (is_capital_or_digit x) _ p) q)

-- the sixteen bytes of the number and its padding
abbrev room : List ℕ → List ℕ
room w = take number_room (drop number_place w)

abbrev first_word : List ℕ → List ℕ
first_word w = take 8 (drop 2 w)

abbrev second_word : List ℕ → List ℕ
second_word w = take 8 (drop 10 w)

name_and_padding : (a b n p q s z : Bool) → (a && b && n && p && q && s && z) ≡ true → (n ≡ true) × (p ≡ true)
name_and_padding true true true true q s z h = (refl, refl)
name_and_padding true true true false q s z h = absurd (false≢true h)
name_and_padding true true false p q s z h = absurd (false≢true h)
name_and_padding true false n p q s z h = absurd (false≢true h)
name_and_padding false b n p q s z h = absurd (false≢true h)

name_parts : (k : ℕ) (s : List ℕ) → name_up_to k s ≡ true → (length s ≤ k) × (all is_capital_or_digit s ≡ true)
unfolding name_up_to
name_parts k s h =
    let short : (leb 1 (length s) && leb (length s) k) ≡ true = and_left (leb 1 (length s) && leb (length s) k) _ h in
    (leb-true _ _ (and_right (leb 1 (length s)) _ short), and_right (leb 1 (length s) && leb (length s) k) _ h)

module _ (w : List ℕ) (l : length w ≡ row_size) (form : row_form w ≡ true) where
  form_parts : (name_up_to number_room (number w) ≡ true) × (all is_zero (number_padding w) ≡ true)
  unfolding row_form
  form_parts =
      name_and_padding (leb live (state w)) (leb (state w) cancellation) _ _ (leb (quantity w) largest_quantity) (is_side (side w))
      (all is_zero (drop zeros_place w)) form

  number_short : number_length w ≤ number_room
  number_short = omega (arith, (name_parts _ _ form_parts.0).0, length-take (number_length w) (drop 2 w), length-drop 2 w)

  room_parts : number w ++ number_padding w ≡ room w
  room_parts = rw (← take-take (number_length w) number_room (drop 2 w) number_short) (take-append-drop (number_length w) (room w))

  room_length : length (room w) ≡ number_room
  room_length = simp (length-take, length-drop) (omega arith)

  number_ends : number w ≡ take (position_of 0 (room w)) (room w)
  number_ends =
      rw (← room_parts, name_end (number w) (number_padding w) (name_parts _ _ form_parts.0).1 form_parts.1)
      (sym (take-append_seam (number w) (number_padding w)))

  padding_length : length (number w) + length (number_padding w) ≡ number_room
  padding_length = sym (length-append (number w) (number_padding w)) ∙ ap length room_parts ∙ room_length

  words : room w ≡ first_word w ++ second_word w
  words = take-add 8 8 (drop 2 w) ∙ ap (λ (s : List ℕ). first_word w ++ take 8 s) (drop-drop 8 2 w)

  word_lengths : (length (first_word w) ≡ 8) × (length (second_word w) ≡ 8)
  word_lengths = (simp (length-take, length-drop) (omega arith), simp (length-take, length-drop) (omega arith))

  room_words : (take 8 (room w) ≡ first_word w) × (drop 8 (room w) ≡ second_word w)
  room_words = (take-take 8 number_room (drop 2 w) (omega arith), ap (drop 8) words ∙ drop_at (first_word w) (second_word w) 8 word_lengths.0)

  word_bytes : (all is_byte (first_word w) && all is_byte (second_word w)) ≡ true
  word_bytes =
      sym (all_append is_byte (first_word w) (second_word w)) ∙ ap (all is_byte) (sym words) ∙ ap (all is_byte) (sym room_parts)
      ∙ all_append is_byte (number w) (number_padding w)
      ∙ and_intro _ _ (all_weaker _ _ name_byte (number w) (name_parts _ _ form_parts.0).1)
      (all_weaker _ _ zero_byte (number_padding w) form_parts.1)

  word_numbers : (number_at 8 2 w ≡ little_endian (first_word w)) × (number_at 8 10 w ≡ little_endian (second_word w))
  unfolding number_at
  word_numbers = (rw l refl, rw l refl)

module _ (v w : List ℕ) (lv : length v ≡ row_size) (lw : length w ≡ row_size) (fv : row_form v ≡ true) (fw : row_form w ≡ true) where
  rooms_numbers : room v ≡ room w → number v ≡ number w
  rooms_numbers e = number_ends v lv fv ∙ ap (λ (s : List ℕ). take (position_of 0 s) s) e ∙ sym (number_ends w lw fw)

  numbers_rooms : number v ≡ number w → room v ≡ room w
  numbers_rooms e =
      let m : length (number v) ≡ length (number w) = ap length e in
      let n : length (number_padding v) ≡ length (number_padding w) = omega (arith, padding_length v lv fv, padding_length w lw fw) in
      sym (room_parts v lv fv) ∙ rw (e, zeros_equal (number_padding v) (number_padding w) n (form_parts v lv fv).1 (form_parts w lw fw).1) (room_parts w lw fw)

  equal_words : number_at 8 10 v ≡ number_at 8 10 w → number_at 8 2 v ≡ number_at 8 2 w → number v ≡ number w
  equal_words p q =
      let first : first_word v ≡ first_word w
      = little_injective _ _ ((word_lengths v lv fv).0 ∙ sym (word_lengths w lw fw).0) (and_left _ _ (word_bytes v lv fv)) (and_left _ _ (word_bytes w lw fw))
      (sym (word_numbers v lv fv).0 ∙ q ∙ (word_numbers w lw fw).0) in
      let second : second_word v ≡ second_word w
      = little_injective _ _ ((word_lengths v lv fv).1 ∙ sym (word_lengths w lw fw).1)
      (and_right (all is_byte (first_word v)) _ (word_bytes v lv fv)) (and_right (all is_byte (first_word w)) _ (word_bytes w lw fw))
      (sym (word_numbers v lv fv).1 ∙ p ∙ (word_numbers w lw fw).1) in
      rooms_numbers (words v lv fv ∙ rw (first, second) (sym (words w lw fw)))

  equal_numbers : number v ≡ number w → (number_at 8 10 v ≡ number_at 8 10 w) × (number_at 8 2 v ≡ number_at 8 2 w)
  equal_numbers e =
      let r : room v ≡ room w = numbers_rooms e in
      let first : first_word v ≡ first_word w = sym (room_words v lv fv).0 ∙ ap (take 8) r ∙ (room_words w lw fw).0 in
      let second : second_word v ≡ second_word w = sym (room_words v lv fv).1 ∙ ap (drop 8) r ∙ (room_words w lw fw).1 in (
        (word_numbers v lv fv).1 ∙ ap little_endian second ∙ sym (word_numbers w lw fw).1,
        (word_numbers v lv fv).0 ∙ ap little_endian first ∙ sym (word_numbers w lw fw).0,
      )

  -- rows have the same number where they have the same words
  pub same_words : same (number v) (number w) ≡ (eqb (number_at 8 10 v) (number_at 8 10 w) && eqb (number_at 8 2 v) (number_at 8 2 w))
  same_words =
      both_ways _ _
      (λ h. let e : (number_at 8 10 v ≡ number_at 8 10 w) × (number_at 8 2 v ≡ number_at 8 2 w) = equal_numbers (same_true _ _ h) in
      and_intro _ _ (eq-eqb _ _ e.0) (eq-eqb _ _ e.1))
      (λ h. rw (equal_words (eqb-true _ _ (and_left _ _ h)) (eqb-true _ _ (and_right (eqb (number_at 8 10 v) (number_at 8 10 w)) _ h))) (same_refl (number w)))

-- A booking keeps the length of a compartment and its soundness, and is found by its number.
-- Assumes nothing.
use Prim.Native.Nat.{ℕ, ◌≤◌, ◌<◌}
use native.Mathlib.Decide.{ℕ_discrete}
use native.Mathlib.Omega.{arith}
use mathlib.Core.Path.{◌≡◌, refl, ap, sym, ◌∙◌}
use mathlib.Core.Bool.{Bool, true, false, ◌&&◌, cond, false≢true}
use mathlib.Core.List.{List}
use mathlib.Core.Logic.{◌≢◌}
use lib.Dec.{eqb, leb, ltb}
use lib.ListN.{length}
use borrow.Author.Tests.{eqb-true, eq-eqb, ltb-true, ltb-false, lt-ltb, le-ltb, leb-true, le-leb}
use Rattle.frame.proofs.BoolLaws.{and_left, and_right, and_false}
use Rattle.frame.proofs.LeastLaws.{least_is, least_same}
use Rattle.text.specs.Bytes.{same}
use Rattle.text.proofs.ByteLaws.{same_refl, same_sym}
use Rattle.identifier.specs.Identifier.{name_up_to}
use Rattle.ledger.specs.Row.{row_size, free, live, cancelled, cancellation, number_room, largest_quantity, state, filled_row, number, is_side, row_form}
use Rattle.ledger.specs.Sound.{row_count, compartment_size, rows_of, sound_compartment}
use Rattle.ledger.specs.Lookup.{has_number, is_live, free_row, row_by_number, live_row}
use Rattle.ledger.proofs.RowLaws.{name_short}
use Rattle.ledger.proofs.SoundLaws.{sound_size, sound_rows, rows_sound, row_length, put_size, put_here, put_there, filled_row_lem}
use Rattle.ledger.proofs.SoundLaws.{Relinked, new_sound, linked_sound, linked_number}
use Rattle.ledger.proofs.SoundLaws.{first_row_lem, free_row_free, filled_before, fresh_number, live_before}
use Rattle.booking.specs.Booking.{new_row, entered, relinked, relinked_at, cancelled_by, can_book, booked}
use Rattle.booking.proofs.RowLaws.{relinked_length, relinked_row, new_length, new_state, new_number, new_partner, new_form}

-- what holds where a booking can be made
pub record Possible (f : ℕ) (n c : List ℕ) : Type 0 where
  pub sized : length c ≡ compartment_size
  pub inside : f < row_count
  pub short : length n ≤ number_room

module _ {f : ℕ} {n c : List ℕ} where
  pub can_book_lem : can_book f n c ≡ true → Possible f n c
  unfolding can_book
  can_book_lem h =
      let rest : ltb f row_count && leb (length n) number_room ≡ true = and_right (eqb (length c) compartment_size) _ h in
      record {
        sized = eqb-true _ _ (and_left (eqb (length c) compartment_size) _ h);
        inside = ltb-true _ _ (and_left (ltb f row_count) _ rest);
        short = leb-true _ _ (and_right (ltb f row_count) _ rest);
      }

  pub possible_book : Possible f n c → can_book f n c ≡ true
  unfolding can_book
  possible_book P = rw (eq-eqb _ _ P.sized, lt-ltb _ _ P.inside) (le-leb _ _ P.short)

-- after a new row is entered
module _ (f : ℕ) (n : List ℕ) (q s : ℕ) (c : List ℕ) (P : Possible f n c) where
  pub entered_size : length (entered f n q s c) ≡ compartment_size
  unfolding entered
  entered_size = put_size f (new_row n q s) c P.sized P.inside (new_length n q s P.short)

  entered_here : rows_of (entered f n q s c) f ≡ new_row n q s
  unfolding entered
  entered_here = put_here f (new_row n q s) c P.sized P.inside (new_length n q s P.short)

  entered_there : (k : ℕ) → k < row_count → k ≢ f → rows_of (entered f n q s c) k ≡ rows_of c k
  unfolding entered
  entered_there k kh = put_there f (new_row n q s) c P.sized P.inside (new_length n q s P.short) k

-- after row k is relinked
module _ (k s p : ℕ) (c : List ℕ) (sized : length c ≡ compartment_size) (kh : k < row_count) where
  long : length (relinked s p (rows_of c k)) ≡ row_size
  long = relinked_length s p (rows_of c k) (row_length c sized k kh)

  relinked_size : length (relinked_at k s p c) ≡ compartment_size
  unfolding relinked_at
  relinked_size = put_size k (relinked s p (rows_of c k)) c sized kh long

  relinked_here : rows_of (relinked_at k s p c) k ≡ relinked s p (rows_of c k)
  unfolding relinked_at
  relinked_here = put_here k (relinked s p (rows_of c k)) c sized kh long

  relinked_there : (j : ℕ) → j < row_count → j ≢ k → rows_of (relinked_at k s p c) j ≡ rows_of c j
  unfolding relinked_at
  relinked_there j jh = put_there k (relinked s p (rows_of c k)) c sized kh long j

-- after rows f and p are linked
module _ (f p : ℕ) (c : List ℕ) (sized : length c ≡ compartment_size) (fh : f < row_count) (ph : p < row_count) where
  half : List ℕ
  half = relinked_at f cancellation p c

  half_size : length half ≡ compartment_size
  unfolding half
  half_size = relinked_size f cancellation p c sized fh

  linked_size : length (cancelled_by f p c) ≡ compartment_size
  unfolding cancelled_by half
  linked_size = relinked_size p cancelled f half half_size ph

  cancellation_here : p ≢ f → rows_of (cancelled_by f p c) f ≡ relinked cancellation p (rows_of c f)
  unfolding cancelled_by half
  cancellation_here ne = relinked_there p cancelled f half half_size ph f fh (λ e. ne (sym e)) ∙ relinked_here f cancellation p c sized fh

  cancelled_here : p ≢ f → rows_of (cancelled_by f p c) p ≡ relinked cancelled f (rows_of c p)
  unfolding cancelled_by half
  cancelled_here ne =
      relinked_here p cancelled f half half_size ph ∙ ap (relinked cancelled f) (relinked_there f cancellation p c sized fh p ph ne)

  linked_there : (k : ℕ) → k < row_count → k ≢ p → k ≢ f → rows_of (cancelled_by f p c) k ≡ rows_of c k
  unfolding cancelled_by half
  linked_there k kh np nf = relinked_there p cancelled f half half_size ph k kh np ∙ relinked_there f cancellation p c sized fh k kh nf

-- the cases of a booking
module _ (f : ℕ) (n : List ℕ) (q s p : ℕ) (c : List ℕ) where
  pub booked_not : can_book f n c ≡ false → c ≡ booked f n q s p c
  unfolding booked
  booked_not h = rw h

  pub booked_original : can_book f n c ≡ true → row_count ≤ p → entered f n q s c ≡ booked f n q s p c
  unfolding booked
  booked_original h g = rw (h, le-ltb _ _ g)

  pub booked_cancellation : can_book f n c ≡ true → p < row_count → cancelled_by f p (entered f n q s c) ≡ booked f n q s p c
  unfolding booked
  booked_cancellation h g = rw (h, lt-ltb _ _ g)

  -- what holds of the compartment where nothing is booked, of an original and of a cancellation holds of the booking
  by_cases : (P : List ℕ → Type 0) → (can_book f n c ≡ false → P c) → (can_book f n c ≡ true → row_count ≤ p → P (entered f n q s c))
      → (can_book f n c ≡ true → p < row_count → P (cancelled_by f p (entered f n q s c))) → P (booked f n q s p c)
  unfolding booked
  by_cases P none original cancellation = go (can_book f n c) (ltb p row_count) refl refl
    where
      go : (a b : Bool) → can_book f n c ≡ a → ltb p row_count ≡ b → P (cond a (cond b (cancelled_by f p (entered f n q s c)) (entered f n q s c)) c)
      go true true h g = cancellation h (ltb-true _ _ g)
      go true false h g = original h (ltb-false _ _ g)
      go false b h g = none h

  pub booked_length : length (booked f n q s p c) ≡ length c
  booked_length =
      by_cases (λ d. length d ≡ length c) (λ h. refl) (λ h g. entered_size f n q s c (can_book_lem h) ∙ sym (can_book_lem h).sized)
      (λ h g. let P = can_book_lem h in linked_size f p (entered f n q s c) (entered_size f n q s c P) P.inside g ∙ sym P.sized)

-- where a number is found, by the rows
number_found : (c m : List ℕ) (k : ℕ) → length c ≡ compartment_size → k < row_count → ((j : ℕ) → j < k → has_number (rows_of c) m j ≡ false)
    → has_number (rows_of c) m k ≡ true → row_by_number c m ≡ k
unfolding row_by_number
number_found c m k z kh f e = first_row_lem c (has_number (rows_of c) m) z ∙ least_is row_count (has_number (rows_of c) m) k kh f e

numbers_agree : (c d m : List ℕ) → length c ≡ compartment_size → length d ≡ compartment_size
    → ((k : ℕ) → k < row_count → has_number (rows_of c) m k ≡ has_number (rows_of d) m k) → row_by_number c m ≡ row_by_number d m
unfolding row_by_number
numbers_agree c d m z y f =
    first_row_lem c (has_number (rows_of c) m) z
    ∙ least_same row_count (has_number (rows_of c) m) (has_number (rows_of d) m) f ∙ sym (first_row_lem d (has_number (rows_of d) m) y)

other_number : (m n : List ℕ) → same m n ≡ false → same n m ≡ false
other_number m n e = same_sym n m ∙ e

module _ (f : ℕ) (n : List ℕ) (q s p : ℕ) (c : List ℕ)
    (sound : sound_compartment c ≡ true) (named : name_up_to number_room n ≡ true) (bounded : q ≤ largest_quantity) (sided : is_side s ≡ true)
    (first : free_row c ≡ f) (room : f < row_count) (fresh : row_by_number c n ≡ row_count) (lives : p < row_count → state (rows_of c p) ≡ live) where
  sized : length c ≡ compartment_size
  sized = sound_size c sound

  short : length n ≤ number_room
  short = name_short number_room n named

  possible : Possible f n c
  possible = record { sized = sized; inside = room; short = short }

  freed : state (rows_of c f) ≡ free
  freed = rw first at (free_row_free c (rw first room))

  earlier : (j : ℕ) → j < f → state (rows_of c j) ≢ free
  earlier j h = filled_before c sized j (rw first h)

  differs : (j : ℕ) → j < f → same (number (rows_of c j)) n ≡ false
  differs j h = fresh_number c n sized fresh j (omega arith) (earlier j h)

  -- the compartment with the new row
  grown : List ℕ
  grown = entered f n q s c

  grown_size : length grown ≡ compartment_size
  unfolding grown
  grown_size = entered_size f n q s c possible

  grown_new : rows_of grown f ≡ new_row n q s
  unfolding grown
  grown_new = entered_here f n q s c possible

  grown_old : (k : ℕ) → k < row_count → k ≢ f → rows_of grown k ≡ rows_of c k
  unfolding grown
  grown_old = entered_there f n q s c possible

  grown_state : state (rows_of grown f) ≡ live
  grown_state = rw grown_new (new_state n q s short)

  grown_number : number (rows_of grown f) ≡ n
  grown_number = rw grown_new (new_number n q s short)

  grown_sound : sound_compartment grown ≡ true
  grown_sound =
      rows_sound grown grown_size
      (new_sound (rows_of c) (rows_of grown) f room (sound_rows c sound) freed earlier
      (rw grown_new (new_form n q s short named bounded sided)) grown_state (rw grown_new (new_partner n q s short)) grown_old
      (λ j h. rw grown_number (differs j h)))

  grown_found : row_by_number grown n ≡ f
  grown_found =
      number_found grown n f grown_size room (λ j h. rw (grown_old j (omega arith) (omega arith), differs j h) (and_false (filled_row (rows_of c j))))
      (rw (grown_state, grown_number) (same_refl n))

  grown_others : (m : List ℕ) → same m n ≡ false → row_by_number grown m ≡ row_by_number c m
  grown_others m e = numbers_agree grown c m grown_size sized (λ k kh. go k kh (ℕ_discrete k f))
    where
      go : (k : ℕ) → k < row_count → Dec (k ≡ f) → has_number (rows_of grown) m k ≡ has_number (rows_of c) m k
      go k kh (yes q) = rw (q, grown_number, other_number m n e, freed) (and_false (filled_row (rows_of grown f)))
      go k kh (no ne) = rw (grown_old k kh ne)

  grown_live : live_row grown n ≡ f
  unfolding live_row
  grown_live =
      first_row_lem grown (is_live (rows_of grown) n) grown_size
      ∙ least_is row_count (is_live (rows_of grown) n) f room
      (λ j h. rw (grown_old j (omega arith) (omega arith), differs j h) (and_false (eqb (state (rows_of c j)) live)))
      (rw (grown_state, grown_number) (same_refl n))

  -- and with its row linked to row p
  module _ (ph : p < row_count) where
    before : p < f
    before = live_before c sound p f ph (lives ph) freed

    apart : p ≢ f
    apart = omega (arith, before)

    joined : List ℕ
    joined = cancelled_by f p grown

    joined_size : length joined ≡ compartment_size
    unfolding joined
    joined_size = linked_size f p grown grown_size room ph

    named_live : state (rows_of grown p) ≡ live
    named_live = rw (grown_old p ph apart) (lives ph)

    live_form : (k : ℕ) → k < row_count → state (rows_of grown k) ≡ live → row_form (rows_of grown k) ≡ true
    live_form k kh e = (filled_row_lem (rows_of grown) k (omega arith) (sound_rows grown grown_sound k kh)).form

    at_f : Relinked cancellation p (rows_of grown f) (rows_of joined f)
    unfolding joined
    at_f =
        rw (cancellation_here f p grown grown_size room ph apart)
        (relinked_row cancellation p (rows_of grown f) (row_length grown grown_size f room) (live_form f room grown_state)
        (omega arith) (omega arith) (omega arith))

    at_p : Relinked cancelled f (rows_of grown p) (rows_of joined p)
    unfolding joined
    at_p =
        rw (cancelled_here f p grown grown_size room ph apart)
        (relinked_row cancelled f (rows_of grown p) (row_length grown grown_size p ph) (live_form p ph named_live)
        (omega arith) (omega arith) (omega arith))

    elsewhere : (k : ℕ) → k < row_count → k ≢ p → k ≢ f → rows_of joined k ≡ rows_of grown k
    unfolding joined
    elsewhere = linked_there f p grown grown_size room ph

    joined_sound : sound_compartment joined ≡ true
    joined_sound =
        rows_sound joined joined_size
        (linked_sound (rows_of grown) (rows_of joined) p f before room (sound_rows grown grown_sound) named_live grown_state at_p at_f elsewhere)

    joined_number : (m : List ℕ) → row_by_number joined m ≡ row_by_number grown m
    joined_number m =
        numbers_agree joined grown m joined_size grown_size
        (linked_number (rows_of grown) (rows_of joined) p f before room (sound_rows grown grown_sound) named_live grown_state at_p at_f elsewhere m)

  -- what holds of both holds of the booking
  booked_has : (P : List ℕ → Type 0) → P grown → ((ph : p < row_count) → P (joined ph)) → P (booked f n q s p c)
  unfolding joined grown
  booked_has P original cancellation =
      by_cases f n q s p c P (λ h. absurd (false≢true (sym h ∙ possible_book possible))) (λ h g. original) (λ h. cancellation)

  pub booked_sound : sound_compartment (booked f n q s p c) ≡ true
  booked_sound = booked_has (λ e. sound_compartment e ≡ true) grown_sound joined_sound

  -- a cancellation leaves the row that it names cancelled
  pub named_cancelled : p < row_count → state (rows_of (booked f n q s p c) p) ≡ cancelled
  unfolding joined grown
  named_cancelled ph =
      by_cases f n q s p c (λ e. state (rows_of e p) ≡ cancelled) (λ h. absurd (false≢true (sym h ∙ possible_book possible)))
      (λ h g. absurd (omega arith)) (λ h g. (at_p g).stated)

  booked_number : (m : List ℕ) → row_by_number (booked f n q s p c) m ≡ row_by_number grown m
  booked_number m = booked_has (λ e. row_by_number e m ≡ row_by_number grown m) refl (λ ph. joined_number ph m)

  -- the new number is found in its row, and every other number where it was
  pub booked_found : row_by_number (booked f n q s p c) n ≡ f
  booked_found = booked_number n ∙ grown_found

  pub others_found : (m : List ℕ) → same m n ≡ false → row_by_number (booked f n q s p c) m ≡ row_by_number c m
  others_found m e = booked_number m ∙ grown_others m e

  -- an original stands live in its row
  pub original_live : row_count ≤ p → live_row (booked f n q s p c) n ≡ f
  original_live h = booked_has (λ e. live_row e n ≡ f) grown_live (λ ph. absurd (omega arith))

-- What quantity stands in a filled row, 0 included, is asked neither of a sound compartment nor by what is looked up in one.
-- Assumes nothing.
use Prim.Native.Nat.{ℕ, ◌+◌, ◌≤◌, ◌<◌}
use native.Mathlib.Decide.{ℕ_discrete}
use native.Mathlib.Omega.{arith}
use mathlib.Core.Path.{◌≡◌, ap, sym, ◌∙◌}
use mathlib.Core.Bool.{Bool, true}
use mathlib.Core.List.{List}
use mathlib.Core.Logic.{◌≢◌}
use lib.ListN.{length, take, drop, set}
use lib.Seq.{drop-drop, set-get_or}
use borrow.Author.Tests.{eqb-false, not-true}
use Rattle.frame.specs.Every.{every}
use Rattle.frame.proofs.EveryLaws.{every_same}
use Rattle.frame.proofs.LeastLaws.{least_same}
use Rattle.text.specs.Number.{little_endian, number_at}
use Rattle.text.proofs.NumberLaws.{put_length, number_put_lem, put_front, put_back}
use Rattle.ledger.specs.Row.{row_size, free, largest_quantity, state_place, quantity_place, partner_place, side_place}
use Rattle.ledger.specs.Row.{state, filled_row, number, partner, row_form}
use Rattle.ledger.specs.Sound.{row_count, compartment_size, Rows, rows_of, points_back, linked, precedes, sound_row, sound_compartment}
use Rattle.ledger.specs.Lookup.{first_row, is_free, has_number, is_live, free_row, row_by_number, live_row}
use Rattle.ledger.specs.Quantity.{with_quantity, with_quantity_at}
use Rattle.ledger.proofs.RowLaws.{Form, form_parts, kept_state, kept_number, kept_form}
use Rattle.ledger.proofs.SoundLaws.{sound_size, sound_rows, rows_sound, row_length, put_size, put_here, put_there}
use Rattle.ledger.proofs.SoundLaws.{Filled, filled_row_lem, row_filled, first_row_lem}

-- a row with another quantity: its state, its number and its partner stay, and so does its form
module _ (q : ℕ) (w : List ℕ) (sized : length w ≡ row_size) where
  abbrev v : List ℕ
  v = with_quantity q w

  length_kept : length v ≡ row_size
  unfolding with_quantity
  length_kept = put_length 8 quantity_place q w ∙ sized

  room : quantity_place + 8 ≤ length w
  room = omega (arith, sized)

  begins : take quantity_place v ≡ take quantity_place (set w state_place (state w))
  unfolding with_quantity
  begins = rw set-get_or (put_front 8 quantity_place q w room)

  behind : drop partner_place v ≡ drop partner_place w
  unfolding with_quantity
  behind = put_back 8 quantity_place q w room

  ends : drop side_place v ≡ drop side_place w
  ends = sym (drop-drop 2 partner_place v) ∙ ap (drop 2) behind ∙ drop-drop 2 partner_place w

  state_kept : state v ≡ state w
  state_kept = kept_state (state w) v w length_kept sized begins ends

  partner_kept : partner v ≡ partner w
  unfolding number_at
  partner_kept = rw (length_kept, sized) (ap (λ (l : List ℕ). little_endian (take 2 l)) behind)

  module _ (form : row_form w ≡ true) where
    number_kept : number v ≡ number w
    number_kept = kept_number (state w) v w length_kept sized begins ends form

    form_kept : q ≤ largest_quantity → row_form v ≡ true
    unfolding with_quantity
    form_kept bounded =
        let F : Form w = form_parts w form in
        kept_form (state w) v w length_kept sized begins ends form F.taken F.known (rw (number_put_lem 8 quantity_place q w room (omega arith)) bounded)

-- a sound compartment with another quantity in a filled row
module _ (k q : ℕ) (c : List ℕ) (sound : sound_compartment c ≡ true) (kh : k < row_count) (filled : filled_row (rows_of c k) ≡ true) where
  abbrev d : List ℕ
  d = with_quantity_at k q c

  abbrev ρ : Rows
  ρ = rows_of c

  abbrev σ : Rows
  σ = rows_of d

  sized : length c ≡ compartment_size
  sized = sound_size c sound

  long : length (with_quantity q (ρ k)) ≡ row_size
  long = length_kept q (ρ k) (row_length c sized k kh)

  d_sized : length d ≡ compartment_size
  unfolding with_quantity_at
  d_sized = put_size k (with_quantity q (ρ k)) c sized kh long

  here : σ k ≡ with_quantity q (ρ k)
  unfolding with_quantity_at
  here = put_here k (with_quantity q (ρ k)) c sized kh long

  there : (j : ℕ) → j ≢ k → σ j ≡ ρ j
  unfolding with_quantity_at
  there = put_there k (with_quantity q (ρ k)) c sized kh long

  taken : state (ρ k) ≢ free
  taken = eqb-false _ _ (not-true _ filled)

  filled_k : Filled ρ k
  filled_k = filled_row_lem ρ k taken (sound_rows c sound k kh)

  -- what row k keeps, every row keeps
  all_keep : {A : Type 0} (f : List ℕ → A) → f (with_quantity q (ρ k)) ≡ f (ρ k) → (j : ℕ) → f (σ j) ≡ f (ρ j)
  all_keep f e j = go (ℕ_discrete j k)
    where
      go : Dec (j ≡ k) → f (σ j) ≡ f (ρ j)
      go (yes r) = rw r (ap f here ∙ e)
      go (no n) = ap f (there j n)

  states : (j : ℕ) → state (σ j) ≡ state (ρ j)
  states = all_keep state (state_kept q (ρ k) (row_length c sized k kh))

  numbers : (j : ℕ) → number (σ j) ≡ number (ρ j)
  numbers = all_keep number (number_kept q (ρ k) (row_length c sized k kh) filled_k.form)

  partners : (j : ℕ) → partner (σ j) ≡ partner (ρ j)
  partners = all_keep partner (partner_kept q (ρ k) (row_length c sized k kh))

  linked_kept : (j : ℕ) → linked σ j ≡ linked ρ j
  unfolding linked points_back
  linked_kept j = rw (states j, partners j, states (partner (ρ j)), partners (partner (ρ j)))

  earlier_kept : (j : ℕ) → every j (precedes σ (number (σ j))) ≡ every j (precedes ρ (number (ρ j)))
  unfolding precedes
  earlier_kept j = every_same j _ _ (λ i h. rw (states i, numbers i, numbers j))

  -- the compartment is sound where the quantity keeps to its bound
  pub quantity_sound : q ≤ largest_quantity → sound_compartment d ≡ true
  unfolding sound_row
  quantity_sound bounded = rows_sound d d_sized (λ j jh. go j jh (ℕ_discrete j k))
    where
      changed : sound_row σ k ≡ true
      changed =
          row_filled σ k (rw (states k) taken)
          (record {
            form = rw here (form_kept q (ρ k) (row_length c sized k kh) filled_k.form bounded);
            earlier = earlier_kept k ∙ filled_k.earlier;
            link = linked_kept k ∙ filled_k.link;
          })

      go : (j : ℕ) → j < row_count → Dec (j ≡ k) → sound_row σ j ≡ true
      go j jh (yes r) = rw r changed
      go j jh (no n) = rw (earlier_kept j, linked_kept j, there j n) (sound_rows c sound j jh)

  -- the same rows are found
  found : (t u : ℕ → Bool) → ((j : ℕ) → j < row_count → t j ≡ u j) → first_row d t ≡ first_row c u
  found t u same = first_row_lem d t d_sized ∙ least_same row_count t u same ∙ sym (first_row_lem c u sized)

  pub quantity_free : free_row d ≡ free_row c
  unfolding free_row
  quantity_free = found (is_free σ) (is_free ρ) (λ j h. rw (states j))

  pub quantity_number : (n : List ℕ) → row_by_number d n ≡ row_by_number c n
  unfolding row_by_number
  quantity_number n = found (has_number σ n) (has_number ρ n) (λ j h. rw (states j, numbers j))

  pub quantity_live : (n : List ℕ) → live_row d n ≡ live_row c n
  unfolding live_row
  quantity_live n = found (is_live σ n) (is_live ρ n) (λ j h. rw (states j, numbers j))

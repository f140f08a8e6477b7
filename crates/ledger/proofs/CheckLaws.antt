-- Laws of the soundness check: what is known of a row after the sound and filled rows before it, of the rows from the first free one on, of links.
-- Assumes nothing.
use Prim.Native.Nat.{ℕ, zero, suc, ◌+◌, ◌-◌, ◌*◌, ◌≤◌, ◌<◌}
use native.Mathlib.Decide.{ℕ_discrete, dec_lt}
use native.Mathlib.Omega.{arith}
use mathlib.Core.Bool.{Bool, true, false, ◌&&◌, not}
use mathlib.Core.List.{List}
use mathlib.Core.Path.{◌≡◌, refl, ap, sym, ◌∙◌}
use borrow.Author.Tests.{ne_eqb, eqb-true, eqb-false, not-true}
use lib.Dec.{eqb, ltb}
use lib.ListN.{length, take, drop, drop_of_length-le}
use lib.Seq.{drop-drop}
use Rattle.frame.specs.Every.{every}
use Rattle.frame.specs.Parts.{part}
use Rattle.frame.proofs.BoolLaws.{and_assoc, and_goes, and_intro, and_left, and_right, and_stops, both_ways}
use Rattle.frame.proofs.EveryLaws.{every_at, every_intro}
use Rattle.text.specs.Class.{is_zero}
use Rattle.text.specs.Bytes.{all}
use Rattle.text.specs.Number.{number_at}
use Rattle.text.proofs.ByteLaws.{all_get, all_split}
use Rattle.ledger.specs.Row.{row_size, free, live, cancelled, cancellation, no_partner, state, filled_row, number, partner, row_form}
use Rattle.ledger.specs.Sound.{Rows, rows_of, row_count, compartment_size, points_back, linked, precedes, sound_row, FormAfterSound}
use Rattle.ledger.proofs.FormLaws.{same_words}
use Rattle.ledger.proofs.SoundLaws.{row_length, filled_row_lem, earlier_filled}

-- a filled row is sound where it has the form, another number than the rows before it, and the links that its state asks
sound_filled : (ρ : Rows) (k : ℕ) → filled_row (ρ k) ≡ true → sound_row ρ k ≡ (row_form (ρ k) && (every k (precedes ρ (number (ρ k))) && linked ρ k))
unfolding sound_row
sound_filled ρ k h = rw (not-true (eqb (state (ρ k)) free) h)

-- which test decides on a filled row, where the code has read the row w: its form, then its number, then its links
module _ (ρ : Rows) (k : ℕ) (full : filled_row (ρ k) ≡ true) {w : List ℕ} {form : Bool} (e : w ≡ ρ k) (f : form ≡ row_form w) where
  pub form_decides : form ≡ false → form ≡ sound_row ρ k
  form_decides h = f ∙ ap row_form e ∙ and_stops _ _ (sym (f ∙ ap row_form e) ∙ h) ∙ sym (sound_filled ρ k full)

  module _ (t : form ≡ true) {others : Bool} (g : others ≡ every k (precedes ρ (number (ρ k)))) where
    pub number_decides : others ≡ false → others ≡ sound_row ρ k
    number_decides h = and_goes _ (sym (f ∙ ap row_form e) ∙ t) (g ∙ and_stops _ _ (sym g ∙ h)) ∙ sym (sound_filled ρ k full)

    pub link_decides : others ≡ true → {link : Bool} → link ≡ linked ρ k → link ≡ sound_row ρ k
    link_decides h l = and_goes _ (sym (f ∙ ap row_form e) ∙ t) (and_goes _ (sym g ∙ h) l) ∙ sym (sound_filled ρ k full)

sound_free : (ρ : Rows) (k : ℕ) → state (ρ k) ≡ free → sound_row ρ k ≡ all is_zero (ρ k)
unfolding sound_row
sound_free ρ k e = rw e

-- A filled row, and the sound and filled rows before it, whose numbers are compared by their words.
module _ (c : List ℕ) (k : ℕ) (l : length c ≡ compartment_size) (a : FormAfterSound (rows_of c) k) where
  earlier_form : (j : ℕ) → j < k → row_form (rows_of c j) ≡ true
  earlier_form j m =
      and_left (row_form (rows_of c j)) _ (sym (sound_filled (rows_of c) j (every_at k _ a.after.filled j m)) ∙ every_at k _ a.after.sound j m)

  pub precedes_words : (j : ℕ) → j < k → {v w : List ℕ} {first second : ℕ} {r : Bool} → v ≡ rows_of c j → w ≡ rows_of c k
      → first ≡ number_at 8 2 w → second ≡ number_at 8 10 w → r ≡ (eqb (number_at 8 10 v) second && eqb (number_at 8 2 v) first)
      → precedes (rows_of c) (number (rows_of c k)) j ≡ not r
  unfolding precedes
  precedes_words j m {v} {w} {first} {second} {r} ev ew ef es er =
      let inside : j < row_count = omega (arith, a.after.within) in
      rw (every_at k (λ i. filled_row (rows_of c i)) a.after.filled j m)
      (ap not
      (same_words (rows_of c j) (rows_of c k) (row_length c l j inside) (row_length c l k a.after.within) (earlier_form j m) a.form
      ∙ sym (er ∙ rw (ev, es, ef, ew))))

all_later : (p : ℕ → Bool) (a b : ℕ) (s : List ℕ) → all p (drop a s) ≡ true → all p (drop (a + b) s) ≡ true
all_later p a b s h = rw (← drop-drop b a s) (and_right (all p (take b (drop a s))) _ (sym (all_split p b (drop a s)) ∙ h))

-- The rows from the first free one on are all zero in a sound compartment.
module _ (c : List ℕ) (l : length c ≡ compartment_size) where
  zero_rest : (m k : ℕ) → k + m ≡ row_count → ((j : ℕ) → k ≤ j → j < row_count → all is_zero (rows_of c j) ≡ true)
      → all is_zero (drop (k * row_size) c) ≡ true
  unfolding all part
  zero_rest zero k e f = let past : length c ≤ k * row_size = omega arith in rw (drop_of_length-le c past)
  zero_rest (suc m) k e f =
      let next : k * row_size + row_size ≡ suc k * row_size = omega arith in
      all_split is_zero row_size (drop (k * row_size) c)
      ∙ and_intro _ _ (f k (omega arith) (omega arith))
      (rw (drop-drop, next) (zero_rest m (suc k) (omega arith) (λ j g h. f j (omega arith) h)))

  zero_row : (k j : ℕ) → k ≤ j → all is_zero (drop (k * row_size) c) ≡ true → all is_zero (rows_of c j) ≡ true
  unfolding part
  zero_row k j h z =
      let there : k * row_size + (j - k) * row_size ≡ j * row_size = omega arith in
      let later : all is_zero (drop (j * row_size) c) ≡ true = rw there at (all_later is_zero (k * row_size) ((j - k) * row_size) c z) in
      and_left _ _ (sym (all_split is_zero row_size (drop (j * row_size) c)) ∙ later)

  zero_sound : (k j : ℕ) → k ≤ j → j < row_count → all is_zero (drop (k * row_size) c) ≡ true → sound_row (rows_of c) j ≡ true
  zero_sound k j g h z =
      let zeros : all is_zero (rows_of c j) ≡ true = zero_row k j g z in
      let start : 0 < length (rows_of c j) = rw (row_length c l j h) (omega arith) in
      sound_free (rows_of c) j (eqb-true _ _ (all_get is_zero (rows_of c j) 0 zeros start)) ∙ zeros

  sound_zero : (k j : ℕ) → k ≤ j → state (rows_of c k) ≡ free → sound_row (rows_of c) k ≡ true → sound_row (rows_of c) j ≡ true → all is_zero (rows_of c j) ≡ true
  sound_zero k j g e sk sj = go (eqb (state (rows_of c j)) free) refl (ℕ_discrete k j)
    where
      go : (b : Bool) → eqb (state (rows_of c j)) free ≡ b → Dec (k ≡ j) → all is_zero (rows_of c j) ≡ true
      go true p d = sym (sound_free (rows_of c) j (eqb-true _ _ p)) ∙ sj
      go false p (yes d) = rw (← d) (sym (sound_free (rows_of c) k e) ∙ sk)
      go false p (no n) = absurd (earlier_filled (rows_of c) j (filled_row_lem (rows_of c) j (eqb-false _ _ p) sj) k (omega arith) e)

  pub free_rest : (k : ℕ) → k < row_count → every k (sound_row (rows_of c)) ≡ true → state (rows_of c k) ≡ free
      → all is_zero (drop (k * row_size) c) ≡ every row_count (sound_row (rows_of c))
  free_rest k h s e =
      both_ways _ _
      (λ z. every_intro row_count _ (λ j m. go z j m (dec_lt j k)))
      (λ t. zero_rest (row_count - k) k (omega arith) (λ j g m. sound_zero k j g e (every_at row_count _ t k h) (every_at row_count _ t j m)))
    where
      go : all is_zero (drop (k * row_size) c) ≡ true → (j : ℕ) → j < row_count → Dec (j < k) → sound_row (rows_of c) j ≡ true
      go z j m (yes b) = every_at k _ s j b
      go z j m (no n) = zero_sound k j (omega arith) m z

-- The links that a row's state asks, where the code has read the row w and its partner p.
module _ (ρ : Rows) (k : ℕ) {w : List ℕ} {p : ℕ} (e : w ≡ ρ k) (q : p ≡ partner w) where
  pub live_linked : state w ≡ live → eqb p no_partner ≡ linked ρ k
  unfolding linked
  live_linked s = rw (← e, s, q)

  pub cancellation_linked : (state w ≡ live → ⊥) → state w ≡ cancellation → (ltb p k && points_back ρ p cancelled k) ≡ linked ρ k
  unfolding linked
  cancellation_linked n s = rw (← e, s, q)

  pub cancelled_linked : (state w ≡ live → ⊥) → (state w ≡ cancellation → ⊥)
      → (ltb k p && ltb p row_count && points_back ρ p cancellation k) ≡ linked ρ k
  unfolding linked
  cancelled_linked n m = rw (← e, ne_eqb (state w) live n, ne_eqb (state w) cancellation m, q) (sym (and_assoc (ltb k (partner w)) _ _))

-- Laws of the index: what it holds for a code, as the rows of the two lists are entered.
-- Assumes nothing.
use Prim.Native.Nat.{ℕ, zero, suc, ◌+◌, ◌-◌, ◌≤◌, ◌<◌}
use mathlib.Core.Bool.{Bool, true, false, ◌&&◌, ◌||◌, cond}
use mathlib.Core.List.{List, [], ◌∷◌, ◌++◌}
use mathlib.Core.Path.{◌≡◌, refl, ap, sym, subst, ◌∙◌}
use mathlib.Core.Logic.{◌≢◌}
use native.Mathlib.Numerals.{add-one}
use native.Mathlib.Decide.{dec_lt, ℕ_discrete}
use native.Mathlib.Omega.{arith}
use borrow.Author.Tests.{eq-eqb, ne_eqb, lt-ltb, le-ltb}
use lib.Dec.{eqb, ltb}
use lib.ListN.{length, get_or, take, drop, set, length-append, length-set, length-replicate, get_or-replicate, get_or-append}
use lib.Seq.{get_or-set_same, get_or-set_other, get_or_at, ext_get_or}
use Rattle.frame.proofs.BoolLaws.{and_false, and_intro}
use Rattle.text.specs.Class.{is_digit, is_text_byte}
use Rattle.text.specs.Bytes.{all}
use Rattle.texts.specs.Texts.{text_code_size, code_count, text_count, text_row, text_code, text_row_ok, texts_ok, row_among, row_number, holds_text}
use Rattle.texts.specs.Index.{index_size, blank_entry, member_base, entry_of, values_below, blank_index, index_of, is_listed, entry_in, names_row}
use Rattle.texts.specs.Steps.{Open, Entered}
use Rattle.texts.proofs.TextLaws.{row_most, row_away, row_here, row_none_yet, row_new, row_other, row_again, row_good, list_count}

-- the entry of a code by an index
pub entry_within : (rows : List ℕ) (code : ℕ) → code < code_count → get_or rows code 0 ≡ entry_in rows code
entry_within rows code h = rw (lt-ltb code code_count h) refl

pub entry_beyond : (rows : List ℕ) (code : ℕ) → code_count ≤ code → blank_entry ≡ entry_in rows code
entry_beyond rows code h = rw (le-ltb code code_count h) refl

-- an entry that lies above the base is that of a row
above_base : (base x y : ℕ) → y ≤ base → base < cond (ltb 0 x) (base + x) y → 0 < x
above_base base zero y h l = absurd (omega arith)
above_base base (suc x) y h l = omega arith

within_base : (base x y : ℕ) → cond (ltb 0 x) (base + x) y ≤ base → x ≡ 0
within_base base zero y l = refl
within_base base (suc x) y l = let over : base + suc x ≤ base = rw (lt-ltb 0 (suc x) (omega arith)) at l in absurd (omega arith)

-- nothing was entered yet
pub entered_none : (base : ℕ) (t rows : List ℕ) → Open base rows → Entered base 0 t rows rows
entered_none base t rows o = record { size = o.size; entries = λ code h. rw (row_none_yet t code) refl }

-- all rows were entered
pub entered_all : (base : ℕ) (t rows later : List ℕ) {k n : ℕ} → k ≡ n → Entered base k t rows later → Entered base n t rows later
entered_all base t rows later q e = subst (λ (m : ℕ). Entered base m t rows later) q e

-- the first k rows were entered, and row k has the code
module _ (base k : ℕ) (t rows later : List ℕ) (o : Open base rows) (e : Entered base k t rows later) {code : ℕ} (here : code ≡ text_code (text_row t k))
    (b : code < code_count) where
  entry : get_or later code 0 ≡ cond (ltb 0 (row_among k t code)) (base + row_among k t code) (get_or rows code 0)
  entry = e.entries code b

  pub entered_twice : base < get_or later code 0 → text_row_ok t k ≡ false
  entered_twice h =
      let some : 0 < row_among k t code = above_base base (row_among k t code) _ (o.low code b) (rw entry at h) in
      let first = row_here t code k some in
      let place : ℕ = row_among k t code - 1 in
      row_again t k place first.0 (subst (λ (n : ℕ). eqb (text_code (text_row t place)) n ≡ true) here first.1)

  fresh : get_or later code 0 ≤ base → row_among k t code ≡ 0
  fresh h = within_base base (row_among k t code) _ (rw entry at h)

  pub entered_good : all is_digit (take text_code_size (text_row t k)) ≡ true → all is_text_byte (drop text_code_size (text_row t k)) ≡ true
      → get_or later code 0 ≤ base → text_row_ok t k ≡ true
  entered_good d x h =
      row_good t k d x (λ j l. subst (λ (n : ℕ). eqb (text_code (text_row t j)) n ≡ false) here (row_away t code k (fresh h) j l))

  pub entered_more : get_or later code 0 ≤ base → Entered base (k + 1) t rows (set later code (base + (k + 1)))
  entered_more h =
      record { size = length-set later code (base + (k + 1)) ∙ e.size; entries = λ other l. go other l (ℕ_discrete other code) }
    where
      go : (other : ℕ) → other < code_count → Dec (other ≡ code) → get_or (set later code (base + (k + 1))) other 0
          ≡ cond (ltb 0 (row_among (k + 1) t other)) (base + row_among (k + 1) t other) (get_or rows other 0)
      go other l (yes q) =
          let inside : code < length later = rw e.size (omega arith) in
          let row : row_among (k + 1) t code ≡ k + 1 = rw add-one (row_new t code k (fresh h) (eq-eqb _ _ (sym here))) in
          rw (q, get_or-set_same later code (base + (k + 1)) 0 inside, row, lt-ltb 0 (k + 1) (omega arith)) refl
      go other l (no n) =
          let away : eqb (text_code (text_row t k)) other ≡ false = ne_eqb _ _ (λ z. n (sym z ∙ sym here)) in
          let row : row_among (k + 1) t other ≡ row_among k t other = rw add-one (row_other t other k away) in
          get_or-set_other later code other (base + (k + 1)) 0 n ∙ e.entries other l ∙ rw row refl

-- the values of f from 0 up to below n
values_count : (n : ℕ) (f : ℕ → ℕ) → length (values_below n f) ≡ n
unfolding values_below
values_count zero f = refl
values_count (suc n) f = length-append (values_below n f) (f n ∷ []) ∙ rw (values_count n f) (add-one n)

value_at : (n : ℕ) (f : ℕ → ℕ) (k : ℕ) → k < n → get_or (values_below n f) k 0 ≡ f k
unfolding values_below
value_at zero f k h = absurd (omega arith)
value_at (suc n) f k h = go (dec_lt k n) (value_at n f k)
  where
    go : Dec (k < n) → (k < n → get_or (values_below n f) k 0 ≡ f k) → get_or (values_below n f ++ (f n ∷ [])) k 0 ≡ f k
    go (yes l) e = get_or-append (values_below n f) (f n ∷ []) 0 k (rw (values_count n f) l) ∙ e l
    go (no g) e = let z : k ≡ n = omega arith in rw z (get_or_at (values_below n f) (f n) [] 0 n (values_count n f))

-- a blank index
blank_at : (code : ℕ) → code < index_size → get_or blank_index code 0 ≡ blank_entry
blank_at code h = get_or-replicate index_size code blank_entry 0 h

pub open_blank : (rows : List ℕ) → rows ≡ blank_index → Open blank_entry rows
open_blank rows e =
    record {
      size = ap length e ∙ length-replicate {A = ℕ} index_size blank_entry;
      within = omega arith;
      low = λ code h. rw (e, blank_at code (omega arith)) (omega arith);
    }

-- our list was entered in it: the entries are the numbers of its rows
module _ (ours blank rows : List ℕ) (z : blank ≡ blank_index) (e : Entered blank_entry (text_count ours) ours blank rows) where
  ours_entry : (code : ℕ) → code < code_count → get_or rows code 0 ≡ blank_entry + row_number ours code
  ours_entry code h =
      let old : get_or blank code 0 ≡ blank_entry = rw z (blank_at code (omega arith)) in
      e.entries code h ∙ ap (λ (y : ℕ). cond (ltb 0 (row_number ours code)) (blank_entry + row_number ours code) y) old ∙ own (row_number ours code)
    where
      own : (x : ℕ) → cond (ltb 0 x) (blank_entry + x) blank_entry ≡ blank_entry + x
      own zero = refl
      own (suc x) = rw (lt-ltb 0 (suc x) (omega arith)) refl

  pub open_ours : texts_ok ours ≡ true → Open member_base rows
  open_ours ok =
      record {
        size = e.size;
        within = omega arith;
        low = λ code h. rw (ours_entry code h) (omega (arith, row_most ours code (text_count ours), list_count ours ok));
      }

  -- the member's list was entered behind it
  module _ (member later : List ℕ) (m : Entered member_base (text_count member) member rows later) where
    both_entry : (code : ℕ) → code < code_count → get_or later code 0 ≡ entry_of member ours code
    both_entry code h =
        m.entries code h ∙ ap (λ (y : ℕ). cond (holds_text member code) (member_base + row_number member code) y) (ours_entry code h)

    both_filled : set later code_count 2 ≡ values_below code_count (entry_of member ours) ++ (2 ∷ [])
    both_filled = ext_get_or 0 _ _ sizes (λ i h. go i (dec_lt i code_count) (rw (length-set later code_count 2, m.size) at h))
      where
        whole : length (values_below code_count (entry_of member ours)) ≡ code_count
        whole = values_count code_count (entry_of member ours)

        sizes : length (set later code_count 2) ≡ length (values_below code_count (entry_of member ours) ++ (2 ∷ []))
        sizes = length-set later code_count 2 ∙ m.size ∙ sym (length-append (values_below code_count (entry_of member ours)) (2 ∷ []) ∙ rw whole refl)

        go : (i : ℕ) → Dec (i < code_count) → i < index_size
            → get_or (set later code_count 2) i 0 ≡ get_or (values_below code_count (entry_of member ours) ++ (2 ∷ [])) i 0
        go i (yes l) h =
            let other : i ≢ code_count = λ z. omega (arith, z, l) in
            get_or-set_other later code_count i 2 0 other ∙ both_entry i l
            ∙ sym (get_or-append (values_below code_count (entry_of member ours)) (2 ∷ []) 0 i (rw whole l) ∙ value_at code_count (entry_of member ours) i l)
        go i (no g) h =
            let last : i ≡ code_count = omega arith in
            let inside : code_count < length later = rw m.size (omega arith) in
            rw (last, get_or-set_same later code_count 2 0 inside) (sym (get_or_at (values_below code_count (entry_of member ours)) 2 [] 0 code_count whole))

-- the index of two lists
module _ (member ours : List ℕ) where
  pub member_broken : texts_ok member ≡ false → texts_ok member && texts_ok ours ≡ false
  member_broken e = rw e refl

  pub ours_broken : texts_ok ours ≡ false → texts_ok member && texts_ok ours ≡ false
  ours_broken e = rw e (and_false (texts_ok member))

  pub index_broken : texts_ok member && texts_ok ours ≡ false → blank_index ≡ index_of member ours
  unfolding index_of
  index_broken e = rw e refl

  index_whole : texts_ok member && texts_ok ours ≡ true → values_below code_count (entry_of member ours) ++ (2 ∷ []) ≡ index_of member ours
  unfolding index_of
  index_whole e = rw e refl

  pub index_filled : (blank rows later : List ℕ) → blank ≡ blank_index → texts_ok ours ≡ true → texts_ok member ≡ true
      → Entered blank_entry (text_count ours) ours blank rows → Entered member_base (text_count member) member rows later
      → set later code_count 2 ≡ index_of member ours
  index_filled blank rows later z o m e f = both_filled ours blank rows z e member later f ∙ index_whole (and_intro (texts_ok member) _ m o)

  -- its last entry says whether both lists are of their form
  pub index_listed : is_listed (index_of member ours) ≡ texts_ok member && texts_ok ours
  index_listed = go (texts_ok member && texts_ok ours) refl
    where
      go : (b : Bool) → texts_ok member && texts_ok ours ≡ b → is_listed (index_of member ours) ≡ b
      go true e =
          let last : get_or (index_of member ours) code_count 0 ≡ 2
          = ap (λ (rows : List ℕ). get_or rows code_count 0) (sym (index_whole e))
          ∙ get_or_at (values_below code_count (entry_of member ours)) 2 [] 0 code_count (values_count code_count (entry_of member ours)) in
          ap (λ (n : ℕ). ltb blank_entry n) last
      go false e =
          let last : get_or (index_of member ours) code_count 0 ≡ blank_entry
          = ap (λ (rows : List ℕ). get_or rows code_count 0) (sym (index_broken e)) ∙ blank_at code_count (omega arith) in
          ap (λ (n : ℕ). ltb blank_entry n) last

  -- the entry of a code, and whether one of the lists holds it
  module _ (code : ℕ) (ok : texts_ok member && texts_ok ours ≡ true) (h : code < code_count) where
    pub index_entry : entry_in (index_of member ours) code ≡ entry_of member ours code
    index_entry =
        let whole : length (values_below code_count (entry_of member ours)) ≡ code_count = values_count code_count (entry_of member ours) in
        sym (entry_within (index_of member ours) code h)
        ∙ ap (λ (rows : List ℕ). get_or rows code 0) (sym (index_whole ok))
        ∙ get_or-append (values_below code_count (entry_of member ours)) (2 ∷ []) 0 code (rw whole h)
        ∙ value_at code_count (entry_of member ours) code h

    pub index_holds : names_row (index_of member ours) code ≡ (holds_text member code || holds_text ours code)
    index_holds = ap (λ (n : ℕ). ltb blank_entry n) index_entry ∙ go (holds_text member code)
      where
        above : (n : ℕ) → ltb blank_entry (blank_entry + n) ≡ ltb 0 n
        above zero = refl
        above (suc n) = lt-ltb blank_entry (blank_entry + suc n) (omega arith) ∙ sym (lt-ltb 0 (suc n) (omega arith))

        go : (b : Bool) → ltb blank_entry (cond b (member_base + row_number member code) (blank_entry + row_number ours code)) ≡ (b || holds_text ours code)
        go true = lt-ltb blank_entry (member_base + row_number member code) (omega arith)
        go false = above (row_number ours code)

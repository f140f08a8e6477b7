-- Laws of the lists of texts: the code and the form of a row, the row that has a code, and the length of a text without trailing spaces.
-- Assumes nothing.
use Prim.Native.Nat.{ℕ, zero, suc, ◌+◌, ◌-◌, ◌*◌, ◌%◌, ◌≤◌, ◌<◌}
use mathlib.Core.Bool.{Bool, true, false, not, false≢true}
use mathlib.Core.List.{List, [], ◌∷◌}
use mathlib.Core.Path.{◌≡◌, refl, ap, sym, ◌∙◌}
use mathlib.Core.Logic.{◌≢◌}
use native.Mathlib.Nat.{zero-add, suc-add}
use native.Mathlib.Decide.{dec_lt}
use native.Mathlib.Omega.{arith}
use borrow.Author.Tests.{eq-eqb, ne_eqb, eqb-true, eqb-false, lt-ltb, le-ltb, le-leb, lt-leb, not-true}
use lib.Dec.{eqb, leb, lit<}
use lib.ListN.{length, get_or, take, drop, length-take, length-drop}
use lib.Seq.{drop-cons, drop-length, drop-drop, get_or-drop, get_or-take, length-take-le, take-nil, take-take}
use Rattle.frame.specs.Every.{every, least}
use Rattle.frame.specs.Parts.{part}
use Rattle.frame.proofs.BoolLaws.{and_left, and_right, and_intro, and_false}
use Rattle.frame.proofs.EveryLaws.{every_at, every_intro, every_fails}
use Rattle.frame.proofs.LeastLaws.{least_le, least_below, least_hit, least_is, least_none, least_passed}
use Rattle.frame.proofs.PartLaws.{part_length, part_lent}
use Rattle.frame.proofs.PigeonLaws.{too_many}
use Rattle.text.specs.Class.{is_digit, is_space, is_text_byte}
use Rattle.text.specs.Bytes.{all}
use Rattle.text.proofs.ByteLaws.{all_get, all_split, all_weaker, all_parts, digit_low, digit_high}
use Rattle.decimal.specs.Decimal.{digits_value_after}
use Rattle.decimal.proofs.DecimalLaws.{number_below}
use Rattle.texts.specs.Texts.{text_row_size, text_code_size, code_count, text_count, text_row, text_code, text_form, text_row_ok, texts_ok, row_among, trimmed}
use Rattle.texts.specs.Texts.{has_row, text_at, text_start}

-- what every byte of a list passes, those of its front and of its rest pass
pub all_front : (p : ℕ → Bool) (n : ℕ) (s : List ℕ) → all p s ≡ true → all p (take n s) ≡ true
all_front p n s e = and_left (all p (take n s)) _ (sym (all_split p n s) ∙ e)

all_rest : (p : ℕ → Bool) (n : ℕ) (s : List ℕ) → all p s ≡ true → all p (drop n s) ≡ true
all_rest p n s e = and_right (all p (take n s)) _ (sym (all_split p n s) ∙ e)

-- the code of a row that begins with four digits
module _ (w : List ℕ) (size : length w ≡ text_row_size) where
  pub code_digit : (i : ℕ) → i < text_code_size → all is_digit (take text_code_size w) ≡ true → is_digit (get_or w i 0) ≡ true
  code_digit i h e =
      let inside : i < length (take text_code_size w) = rw (length-take-le text_code_size w (omega arith)) h in
      rw (get_or-take text_code_size w i 0 h) at (all_get is_digit (take text_code_size w) i e inside)

  pub code_below : all is_digit (take text_code_size w) ≡ true → text_code w < code_count
  code_below e =
      let four : length (take text_code_size w) ≡ 4 = length-take-le text_code_size w (omega arith) in
      rw (zero-add, four) at (number_below (take text_code_size w) 0 0 (lit< tt) e)

-- the number that four digits write
pub code_value : (w : List ℕ) {a b c d : ℕ} → text_code_size ≤ length w
    → a ≡ get_or w 0 0 - 48 → b ≡ get_or w 1 0 - 48 → c ≡ get_or w 2 0 - 48 → d ≡ get_or w 3 0 - 48
    → a * 1000 + b * 100 + c * 10 + d ≡ text_code w
unfolding digits_value_after
code_value [] h p q r s = absurd (omega arith)
code_value (x ∷ []) h p q r s = absurd (omega arith)
code_value (x ∷ (y ∷ [])) h p q r s = absurd (omega arith)
code_value (x ∷ (y ∷ (z ∷ []))) h p q r s = absurd (omega arith)
code_value (x ∷ (y ∷ (z ∷ (u ∷ w)))) h p q r s = omega (arith, p, q, r, s)

-- the rows of a list lie in it
module _ (t : List ℕ) (k : ℕ) (h : k < text_count t) where
  pub row_inside : k * text_row_size + text_row_size ≤ length t
  row_inside = omega arith

  pub row_size : length (text_row t k) ≡ text_row_size
  row_size = part_length text_row_size k t row_inside

  pub row_lent : take (k * text_row_size + text_row_size - k * text_row_size) (drop (k * text_row_size) t) ≡ text_row t k
  row_lent = (part_lent text_row_size k t row_inside).0

  pub row_tested : {front : List ℕ} {r : Bool}
      → front ≡ take text_code_size (take (k * text_row_size + text_row_size - k * text_row_size) (drop (k * text_row_size) t))
      → r ≡ all is_digit front → all is_digit (take text_code_size (text_row t k)) ≡ r
  row_tested e q = sym (q ∙ ap (all is_digit) e ∙ ap (λ (w : List ℕ). all is_digit (take text_code_size w)) row_lent)

  pub row_ready : all is_digit (take text_code_size (text_row t k)) ≡ true
      → (length (take (k * text_row_size + text_row_size - k * text_row_size) (drop (k * text_row_size) t)) ≡ text_row_size)
      × (all is_digit (take text_code_size (take (k * text_row_size + text_row_size - k * text_row_size) (drop (k * text_row_size) t))) ≡ true)
  row_ready e = rw row_lent (row_size, e)

  pub row_code : {code : ℕ} → code ≡ text_code (take (k * text_row_size + text_row_size - k * text_row_size) (drop (k * text_row_size) t))
      → code ≡ text_code (text_row t k)
  row_code e = e ∙ ap text_code row_lent

  -- the text of a row of text bytes
  pub row_bytes : all is_text_byte t ≡ true → all is_text_byte (drop text_code_size (text_row t k)) ≡ true
  unfolding part
  row_bytes e = all_rest is_text_byte text_code_size _ (all_front is_text_byte text_row_size _ (all_rest is_text_byte (k * text_row_size) t e))

-- a row is all right where its form is and no row before it has its code
module _ (t : List ℕ) (k : ℕ) where
  pub row_unformed : all is_digit (take text_code_size (text_row t k)) ≡ false → text_row_ok t k ≡ false
  unfolding text_row_ok text_form
  row_unformed e = rw e refl

  pub row_again : (j : ℕ) → j < k → eqb (text_code (text_row t j)) (text_code (text_row t k)) ≡ true → text_row_ok t k ≡ false
  unfolding text_row_ok
  row_again j h e =
      rw (every_fails k (λ i. not (eqb (text_code (text_row t i)) (text_code (text_row t k)))) j h (rw e refl)) (and_false (text_form (text_row t k)))

  pub row_good : all is_digit (take text_code_size (text_row t k)) ≡ true → all is_text_byte (drop text_code_size (text_row t k)) ≡ true
      → ((j : ℕ) → j < k → eqb (text_code (text_row t j)) (text_code (text_row t k)) ≡ false) → text_row_ok t k ≡ true
  unfolding text_row_ok text_form
  row_good d b away =
      rw (d, b) (every_intro k (λ i. not (eqb (text_code (text_row t i)) (text_code (text_row t k)))) (λ j h. rw (away j h) refl))

  module _ (ok : text_row_ok t k ≡ true) where
    row_form : text_form (text_row t k) ≡ true
    unfolding text_row_ok
    row_form = and_left (text_form (text_row t k)) _ ok

    pub row_digits : all is_digit (take text_code_size (text_row t k)) ≡ true
    unfolding text_form
    row_digits = and_left (all is_digit (take text_code_size (text_row t k))) _ row_form

    pub row_text : all is_text_byte (drop text_code_size (text_row t k)) ≡ true
    unfolding text_form
    row_text = and_right (all is_digit (take text_code_size (text_row t k))) _ row_form

    row_alone : (j : ℕ) → j < k → text_code (text_row t j) ≢ text_code (text_row t k)
    unfolding text_row_ok
    row_alone j h =
        let others = and_right (text_form (text_row t k)) _ ok in
        eqb-false _ _ (not-true _ (every_at k (λ i. not (eqb (text_code (text_row t i)) (text_code (text_row t k)))) others j h))

    -- digits are bytes of texts
    row_all : all is_text_byte (text_row t k) ≡ true
    row_all =
        let digits = all_weaker is_digit is_text_byte digit_text (take text_code_size (text_row t k)) row_digits in
        all_split is_text_byte text_code_size (text_row t k) ∙ and_intro (all is_text_byte (take text_code_size (text_row t k))) _ digits row_text
      where
        digit_text : (b : ℕ) → is_digit b ≡ true → is_text_byte b ≡ true
        digit_text b e =
            let low = digit_low b e in
            let high = digit_high b e in
            rw (le-leb 0x20 b (omega (arith, low)), le-leb b 0x7E (omega (arith, high)), ne_eqb b 39 (λ z. omega (arith, low, z))) refl

-- a list that is all right: its size, its rows, its bytes, and how many rows it has
module _ (t : List ℕ) (ok : texts_ok t ≡ true) where
  list_whole : length t ≡ text_count t * text_row_size
  unfolding texts_ok
  list_whole = let none : length t % text_row_size ≡ 0 = eqb-true _ _ (and_left (eqb (length t % text_row_size) 0) _ ok) in omega (arith, none)

  pub list_rows : (k : ℕ) → k < text_count t → text_row_ok t k ≡ true
  unfolding texts_ok
  list_rows = every_at (text_count t) (text_row_ok t) (and_right (eqb (length t % text_row_size) 0) _ ok)

  list_bytes : all is_text_byte t ≡ true
  list_bytes =
      all_parts is_text_byte text_row_size t (text_count t) list_whole
      ∙ every_intro (text_count t) (λ k. all is_text_byte (text_row t k)) (λ k h. row_all t k (list_rows k h))

  -- more rows than there are codes have one twice
  pub list_count : text_count t ≤ code_count
  list_count = go (dec_lt code_count (text_count t))
    where
      go : Dec (code_count < text_count t) → text_count t ≤ code_count
      go (yes h) =
          absurd
          (too_many code_count (λ k. text_code (text_row t k))
          (λ k l. code_below (text_row t k) (row_size t k (omega arith)) (row_digits t k (list_rows k (omega arith))))
          (λ j k l m. row_alone t k (list_rows k (omega arith)) j l))
      go (no g) = omega arith

-- what makes a list broken
module _ (t : List ℕ) where
  refuted : (b : Bool) → (b ≡ true → ⊥) → false ≡ b
  refuted true f = absurd (f refl)
  refuted false f = refl

  pub broken_size : length t % text_row_size ≢ 0 → false ≡ texts_ok t
  unfolding texts_ok
  broken_size n = rw (ne_eqb _ _ n) refl

  pub broken_count : code_count < text_count t → false ≡ texts_ok t
  broken_count h = refuted (texts_ok t) (λ ok. omega (arith, h, list_count t ok))

  pub broken_bytes : all is_text_byte t ≡ false → false ≡ texts_ok t
  broken_bytes e = refuted (texts_ok t) (λ ok. false≢true (sym e ∙ list_bytes t ok))

  pub rows_decide : length t % text_row_size ≡ 0 → {r : Bool} → r ≡ every (text_count t) (text_row_ok t) → r ≡ texts_ok t
  unfolding texts_ok
  rows_decide e h = rw (eq-eqb _ _ e) h

-- the number of the row that has a code
module _ (t : List ℕ) (code : ℕ) where
  abbrev pub has_code : ℕ → Bool
  has_code j = eqb (text_code (text_row t j)) code

  row_first : (n k : ℕ) → k < n → ((j : ℕ) → j < k → has_code j ≡ false) → has_code k ≡ true → row_among n t code ≡ suc k
  unfolding row_among
  row_first n k h away here = rw (least_is n has_code k h away here, lt-ltb k n h) refl

  row_none : (n : ℕ) → ((j : ℕ) → j < n → has_code j ≡ false) → row_among n t code ≡ 0
  unfolding row_among
  row_none n away = rw (least_none n has_code away, le-ltb n n (omega arith)) refl

  -- the two cases: a first row has it, or none has it
  row_cases : (n : ℕ) {P : Type 0}
      → ((k : ℕ) → k < n → ((j : ℕ) → j < k → has_code j ≡ false) → has_code k ≡ true → P)
      → (((j : ℕ) → j < n → has_code j ≡ false) → P) → P
  row_cases n {P} some none = go (dec_lt (least n has_code) n)
    where
      go : Dec (least n has_code < n) → P
      go (yes h) = some (least n has_code) h (least_below n has_code) (least_hit n has_code h)
      go (no g) = none (λ j h. least_below n has_code j (omega (arith, g, h)))

  pub row_most : (n : ℕ) → row_among n t code ≤ n
  row_most n = row_cases n (λ k h away here. rw (row_first n k h away here) h) (λ away. rw (row_none n away) (omega arith))

  pub row_away : (n : ℕ) → row_among n t code ≡ 0 → (j : ℕ) → j < n → has_code j ≡ false
  row_away n e =
      row_cases n (λ k h away here. absurd (omega (arith, e, row_first n k h away here))) (λ away. away)

  pub row_here : (n : ℕ) → 0 < row_among n t code → (row_among n t code - 1 < n) × (has_code (row_among n t code - 1) ≡ true)
  row_here n p =
      row_cases n
      (λ k h away here. let e : row_among n t code - 1 ≡ k = omega (arith, row_first n k h away here) in rw e (h, here))
      (λ away. absurd (omega (arith, p, row_none n away)))

  -- with one row more
  pub row_none_yet : row_among 0 t code ≡ 0
  row_none_yet = row_none 0 (λ j h. absurd (omega arith))

  pub row_new : (k : ℕ) → row_among k t code ≡ 0 → has_code k ≡ true → row_among (suc k) t code ≡ suc k
  row_new k e here = row_first (suc k) k (omega arith) (row_away k e) here

  pub row_other : (k : ℕ) → has_code k ≡ false → row_among (suc k) t code ≡ row_among k t code
  row_other k e =
      row_cases k
      (λ j h away here. row_first (suc k) j (omega arith) away here ∙ sym (row_first k j h away here))
      (λ away. row_none (suc k) (λ j h. last away j (dec_lt j k) h) ∙ sym (row_none k away))
    where
      last : ((j : ℕ) → j < k → has_code j ≡ false) → (j : ℕ) → Dec (j < k) → j < suc k → has_code j ≡ false
      last away j (yes l) h = away j l
      last away j (no g) h = let z : j ≡ k = omega arith in rw z e

-- how long a text is without its trailing spaces, as a loop from its end finds it: what lies behind place n are spaces
module _ (w : List ℕ) (n : ℕ) (h : n ≤ length w) (e : all is_space (drop n w) ≡ true) where
  trimmed_is : ((j : ℕ) → j < n → all is_space (drop j w) ≡ false) → n ≡ trimmed w
  unfolding trimmed
  trimmed_is away = go (dec_lt n (length w))
    where
      go : Dec (n < length w) → n ≡ trimmed w
      go (yes l) = sym (least_is (length w) (λ k. all is_space (drop k w)) n l away e)
      go (no g) = least_passed (length w) (λ k. all is_space (drop k w)) n h (omega arith) away

  pub trimmed_stop : 0 < n → get_or w (n - 1) 0 ≢ 32 → n ≡ trimmed w
  trimmed_stop p ne = trimmed_is (λ j l. go j l _ refl)
    where
      go : (j : ℕ) → j < n → (b : Bool) → all is_space (drop j w) ≡ b → b ≡ false
      go j l true q =
          let there : j + (n - 1 - j) ≡ n - 1 = omega arith in
          let space : is_space (get_or (drop j w) (n - 1 - j) 0) ≡ true = all_get is_space (drop j w) (n - 1 - j) q (rw length-drop (omega arith)) in
          absurd (ne (eqb-true _ _ (rw (get_or-drop, there) at space)))
      go j l false q = refl

  pub trimmed_go : 0 < n → get_or w (n - 1) 0 ≡ 32 → all is_space (drop (n - 1) w) ≡ true
  unfolding all
  trimmed_go p s =
      let next : suc (n - 1) ≡ n = omega arith in
      let apart : drop (n - 1) w ≡ get_or w (n - 1) 0 ∷ drop n w
      = drop-cons w (n - 1) 0 (omega arith) ∙ ap (λ (k : ℕ). get_or w (n - 1) 0 ∷ drop k w) next in
      ap (all is_space) apart ∙ and_intro (is_space (get_or w (n - 1) 0)) _ (eq-eqb _ _ s) e

  pub trimmed_end : n ≤ 0 → n ≡ trimmed w
  trimmed_end z = trimmed_is (λ j l. absurd (omega arith))

pub trimmed_all : (w : List ℕ) → all is_space (drop (length w) w) ≡ true
unfolding all
trimmed_all w = rw (drop-length w) refl

pub trimmed_most : (w : List ℕ) → trimmed w ≤ length w
unfolding trimmed
trimmed_most w = least_le (length w) _

pub trimmed_room : (n : ℕ) (s : List ℕ) {r : ℕ} → r ≡ trimmed (take n s) → r ≤ n
trimmed_room n s e =
    let size : length (take n s) ≤ n = simp length-take (omega arith) in
    rw e (omega (arith, size, trimmed_most (take n s)))

-- there is no row of number 0, nor of a number above that of the last
pub row_below : (t : List ℕ) (n : ℕ) → n < 1 → has_row t n ≡ false
row_below t n h = rw (lt-leb 1 n h) refl

pub row_above : (t : List ℕ) (n : ℕ) → text_count t < n → has_row t n ≡ false
row_above t n h = rw (lt-leb n (text_count t) h) (and_false (leb 1 n))

-- the text of a row that is not there
module _ (t : List ℕ) (n : ℕ) (e : has_row t n ≡ false) where
  pub text_none : [] ≡ text_at t n
  unfolding text_at
  text_none = rw e refl

  pub start_none : 0 ≡ text_start t n
  unfolding text_start
  start_none = rw e refl

-- the text of a row that is there
module _ (t : List ℕ) (n : ℕ) (low : 1 ≤ n) (high : n ≤ text_count t) where
  pub row_there : has_row t n ≡ true
  row_there = and_intro (leb 1 n) _ (le-leb 1 n low) (le-leb n (text_count t) high)

  pub start_there : n * text_row_size - text_row_size + text_code_size ≡ text_start t n
  unfolding text_start
  start_there = rw row_there (omega arith)

  pub text_there : take (trimmed (drop text_code_size (text_row t (n - 1)))) (drop text_code_size (text_row t (n - 1))) ≡ text_at t n
  unfolding text_at
  text_there = rw row_there refl

  -- what is lent from the text's start to the end of its row, and to the end of the text
  pub text_lent : take (n * text_row_size - (n * text_row_size - text_row_size + text_code_size)) (drop (n * text_row_size - text_row_size + text_code_size) t)
      ≡ drop text_code_size (text_row t (n - 1))
  unfolding part
  text_lent =
      let size : n * text_row_size - (n * text_row_size - text_row_size + text_code_size) ≡ 76 = omega arith in
      let start : n * text_row_size - text_row_size + text_code_size ≡ (n - 1) * text_row_size + text_code_size = omega arith in
      let rest : List ℕ = drop ((n - 1) * text_row_size) t in
      rw (size, start) (ap (take 76) (sym (drop-drop text_code_size ((n - 1) * text_row_size) t)) ∙ sym (drop_front text_code_size 76 rest))
    where
      drop_front : (n m : ℕ) (l : List ℕ) → drop n (take (n + m) l) ≡ take m (drop n l)
      drop_front zero m l = rw (zero-add m) refl
      drop_front (suc n) m [] = rw (take-nil (suc n + m), take-nil m) refl
      drop_front (suc n) m (x ∷ l) = rw (suc-add n m) (drop_front n m l)

  pub text_room : {r : ℕ}
      → r ≡ trimmed (take (n * text_row_size - (n * text_row_size - text_row_size + text_code_size)) (drop (n * text_row_size - text_row_size + text_code_size) t))
      → n * text_row_size - text_row_size + text_code_size + r ≤ length t
  text_room {r} e =
      let start : ℕ = n * text_row_size - text_row_size + text_code_size in
      let room : r ≤ n * text_row_size - start = trimmed_room _ (drop start t) e in
      omega (arith, room, low, high)

  pub text_cut : {r : ℕ}
      → r ≡ trimmed (take (n * text_row_size - (n * text_row_size - text_row_size + text_code_size)) (drop (n * text_row_size - text_row_size + text_code_size) t))
      → take (n * text_row_size - text_row_size + text_code_size + r - (n * text_row_size - text_row_size + text_code_size))
      (drop (n * text_row_size - text_row_size + text_code_size) t) ≡ text_at t n
  text_cut {r} e =
      let start : ℕ = n * text_row_size - text_row_size + text_code_size in
      let room : r ≤ n * text_row_size - start = trimmed_room _ (drop start t) e in
      let size : start + r - start ≡ r = omega arith in
      ap (λ (m : ℕ). take m (drop start t)) size
      ∙ sym (take-take r (n * text_row_size - start) (drop start t) room)
      ∙ ap (take r) text_lent
      ∙ ap (λ (m : ℕ). take m (drop text_code_size (text_row t (n - 1)))) (e ∙ ap trimmed text_lent)
      ∙ text_there

-- what the length of a text is proved by
pub ruleset trimming = (trimmed_all, trimmed_stop, trimmed_go, trimmed_end)

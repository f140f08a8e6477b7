-- Laws of the lines of a body: the record at a place, then the records from its line's end; and the count of records up to the first apostrophe.
-- Assumes nothing.
use Prim.Native.Nat.{ℕ, zero, suc, ◌+◌, ◌-◌, ◌<◌, ◌≤◌}
use mathlib.Core.Bool.{Bool, true, false, ◌&&◌, not, cond, false≢true}
use mathlib.Core.List.{List, [], ◌∷◌, ◌++◌}
use mathlib.Core.Path.{◌≡◌, refl, ap, sym, ◌∙◌}
use native.Mathlib.Nat.{zero-add, suc-add, le_of_suc-le-suc}
use native.Mathlib.Omega.{arith}
use borrow.Author.Tests.{ne_eqb, eqb-true, le-leb, lt-leb}
use lib.Dec.{eqb, leb}
use lib.ListN.{length, take, drop, get_or, length-drop, drop_of_length-le}
use lib.Seq.{drop-cons, drop-drop, take-add, take-take, take-nil, length-take-le}
use Rattle.frame.proofs.BoolLaws.{and_left, and_right, and_false}
use Rattle.text.specs.declared.Class.{Class}
use Rattle.text.specs.declared.Class.TheVariants.{RecordByte, BodyByte}
use Rattle.text.specs.Class.{belongs_to, is_record_byte, is_body_byte}
use Rattle.std.specs.Prelude.{Option, Some, None}
use Rattle.std.proofs.lemmas.Option.{none-some}
use Rattle.envelope.specs.declared.Span.{Span}
use Rattle.envelope.specs.Pieces.{between, run_of, begins, text_end, on}
use Rattle.envelope.specs.Body.{Records, broken, records, with_record, with_byte, crlf, records_of, line_end, record_at, apostrophe_from, counted, lines_at}
use Rattle.envelope.specs.Envelope.{listed}
use Rattle.envelope.proofs.PieceLaws.{run_within, picked, text_found}

-- the records of l, whose first line is at its front
abbrev Stepped : List ℕ → Type 0
Stepped l =
    let n = run_of RecordByte l in
    records_of l ≡ cond (begins crlf (drop n l)) (with_record (take n l) (records_of (drop (suc (suc n)) l))) broken

byte_front : (b : ℕ) (r : List ℕ) (x : Bool) (l : Records) → with_byte b (cond x (with_record r l) broken) ≡ cond x (with_record (b ∷ r) l) broken
byte_front b r true broken = refl
byte_front b r true (records rs) = refl
byte_front b r false l = refl

alone : (b : ℕ) (t : Bool) → is_record_byte b ≡ t → Stepped (b ∷ [])
unfolding records_of run_of begins
alone b true e = rw e
alone b false e = rw (e, and_false (eqb b 13))

further : (b c : ℕ) (s : List ℕ) (t : Bool) → is_record_byte b ≡ t → Stepped (c ∷ s) → Stepped (b ∷ c ∷ s)
unfolding records_of run_of begins
further b c s true e h =
    let n = run_of RecordByte (c ∷ s) in
    rw e (ap (with_byte b) h ∙ byte_front b (take n (c ∷ s)) (begins crlf (drop n (c ∷ s))) (records_of (drop (suc n) s)))
further b c s false e h = rw e

lines_step : (l : List ℕ) → 0 < length l → Stepped l
lines_step [] h = absurd (omega arith)
lines_step (b ∷ []) h = alone b (is_record_byte b) refl
lines_step (b ∷ c ∷ s) h = further b c s (is_record_byte b) refl (lines_step (c ∷ s) (omega arith))

on_cond : {A : Type 0} (x : Bool) (p : ℕ) (a : A) (f : ℕ → A) → on (cond x (Some p) None) a f ≡ cond x (f p) a
on_cond true p a f = refl
on_cond false p a f = refl

-- the record at a place of s, and the records from its line's end
lines_at_lem : (s : List ℕ) (p : ℕ) → p < length s
    → records_of (drop p s) ≡ on (line_end s p) broken (λ q. with_record (record_at s p) (records_of (drop q s)))
unfolding line_end text_end
lines_at_lem s p h =
    let n = run_of RecordByte (drop p s) in
    let e : suc (suc n) ≡ n + 2 = omega arith in
    let f : p + (n + 2) ≡ p + n + 2 = omega arith in
    lines_step (drop p s) (rw length-drop (omega arith))
    ∙ rw (e, drop-drop n p s, drop-drop (n + 2) p s, f) (sym (on_cond (begins crlf (drop (p + n) s)) _ _ _))

pub lines_on : (s : List ℕ) (p q : ℕ) → p < length s → line_end s p ≡ Some q → records_of (drop p s) ≡ with_record (record_at s p) (records_of (drop q s))
lines_on s p q h e = lines_at_lem s p h ∙ rw e

pub lines_off : (s : List ℕ) (p : ℕ) → p < length s → line_end s p ≡ None → records_of (drop p s) ≡ broken
lines_off s p h e = lines_at_lem s p h ∙ rw e

pub lines_end : (s : List ℕ) (p : ℕ) → length s ≤ p → records_of (drop p s) ≡ records []
unfolding records_of
lines_end s p h = rw (drop_of_length-le s h)

pub line_placed : (s : List ℕ) (p q : ℕ) → p ≤ length s → line_end s p ≡ Some q → (q ≡ p + run_of RecordByte (drop p s) + 2) × (q ≤ length s)
unfolding line_end
line_placed s p q h e =
    let f : run_of RecordByte (drop p s) ≤ length s - p = rw length-drop at (run_within RecordByte (drop p s)) in
    text_found s (p + run_of RecordByte (drop p s)) q (omega arith) crlf e

-- the line at a place, where it is there, ends with the two bytes behind its record
pub line_found : (s : List ℕ) (p : ℕ) {e : ℕ} → p < length s → (line_end s p ≡ None → ⊥) → e ≡ p + run_of RecordByte (drop p s)
    → (line_end s p ≡ Some (e + 2)) × (e + 2 ≤ length s)
line_found s p {e} more there end = go (line_end s p) refl
  where
    go : (piece : Option ℕ) → line_end s p ≡ piece → (line_end s p ≡ Some (e + 2)) × (e + 2 ≤ length s)
    go (Some q) found =
        let placed = line_placed s p q (omega arith) found in
        let same : q ≡ e + 2 = omega arith in
        (found ∙ ap Some same, omega arith)
    go None found = absurd (there found)

-- a line that ends at a place is its record, then CR LF
begins_front : (t l : List ℕ) → begins t l ≡ true → take (length t) l ≡ t
unfolding begins
begins_front [] l e = refl
begins_front (a ∷ t) [] e = absurd (false≢true e)
begins_front (a ∷ t) (b ∷ l) e = (λ i. eqb-true b a (and_left (eqb b a) _ e) i ∷ begins_front t l (and_right (eqb b a) _ e) i)

pub line_bytes : (s : List ℕ) (p q : ℕ) → line_end s p ≡ Some q → take (q - p) (drop p s) ≡ record_at s p ++ crlf
unfolding line_end text_end
line_bytes s p q e =
    let n = run_of RecordByte (drop p s) in
    let w = picked (begins crlf (drop (p + n) s)) (p + n + 2) q e in
    let size : q - p ≡ n + 2 = omega (arith, w.1) in
    let behind : take 2 (drop n (drop p s)) ≡ crlf = rw (drop-drop n p s) (begins_front crlf (drop (p + n) s) w.0) in
    ap (λ (m : ℕ). take m (drop p s)) size ∙ take-add n 2 (drop p s) ∙ ap (λ (t : List ℕ). record_at s p ++ t) behind

-- a body of the layout, seen from the start of a line: its line ends, and the records are the one at its place, and those from its end on
module _ (s : List ℕ) (p : ℕ) (h : p < length s) (whole : records_of (drop p s) ≡ records (listed (records_of (drop p s)))) where
  pub line_there : line_end s p ≡ None → ⊥
  line_there e =
      let off : records_of (drop p s) ≡ broken = lines_off s p h e in
      let z : ◌≡◌ {A = ℕ} 0 1 = cc in
      omega arith

  with_record_lem : (r : List ℕ) (rs : Records) → with_record r rs ≡ records (listed (with_record r rs))
      → (rs ≡ records (listed rs)) × (listed (with_record r rs) ≡ r ∷ listed rs)
  with_record_lem r broken e = let z : ◌≡◌ {A = ℕ} 0 1 = cc in absurd (omega arith)
  with_record_lem r (records rs) e = (refl, refl)

  pub lines_split : (q : ℕ) → line_end s p ≡ Some q
      → (records_of (drop q s) ≡ records (listed (records_of (drop q s)))) × (listed (records_of (drop p s)) ≡ record_at s p ∷ listed (records_of (drop q s)))
  lines_split q e =
      let on = lines_on s p q h e in
      let w = with_record_lem (record_at s p) (records_of (drop q s)) (sym on ∙ whole ∙ ap (λ (r : Records). records (listed r)) on) in
      (w.0, ap listed on ∙ w.1)

-- The body is read in one pass, up to the first apostrophe: a line of the file before it is a line of the body.
run_record : (l : List ℕ) → run_of BodyByte l ≡ run_of RecordByte l + run_of BodyByte (drop (run_of RecordByte l) l)
unfolding run_of
run_record [] = refl
run_record (b ∷ l) = go (is_record_byte b) refl (run_record l)
  where
    go : (x : Bool) → is_record_byte b ≡ x → run_of BodyByte l ≡ run_of RecordByte l + run_of BodyByte (drop (run_of RecordByte l) l)
        → let n = cond x (suc (run_of RecordByte l)) 0 in run_of BodyByte (b ∷ l) ≡ n + run_of BodyByte (drop n (b ∷ l))
    go true e h = rw (and_right (not (eqb b 13) && not (eqb b 10)) (is_body_byte b) e) (omega (arith, h))
    go false e h = omega arith

run_crlf : (l : List ℕ) → begins crlf l ≡ true → run_of BodyByte l ≡ 2 + run_of BodyByte (drop 2 l)
unfolding run_of begins
run_crlf [] e = absurd (false≢true e)
run_crlf (b ∷ []) e = absurd (false≢true (sym (and_false (eqb b 13)) ∙ e))
run_crlf (b ∷ c ∷ l) e =
    rw (eqb-true b 13 (and_left (eqb b 13) _ e), eqb-true c 10 (and_left (eqb c 10) _ (and_right (eqb b 13) _ e))) (omega arith)

apostrophe : (b : ℕ) → is_body_byte b ≡ false → b ≡ 39
apostrophe b e = go (eqb b 39) refl e
  where
    go : (x : Bool) → eqb b 39 ≡ x → not x ≡ false → b ≡ 39
    go true p q = eqb-true b 39 p
    go false p q = absurd (false≢true (sym q))

begins_taken : (l : List ℕ) → begins crlf (take (run_of BodyByte l) l) ≡ begins crlf l
unfolding run_of begins
begins_taken [] = refl
begins_taken (b ∷ []) = go (is_body_byte b) refl
  where
    go : (x : Bool) → is_body_byte b ≡ x → begins crlf (take (cond x 1 0) (b ∷ [])) ≡ begins crlf (b ∷ [])
    go true e = refl
    go false e = sym (and_false (eqb b 13))
begins_taken (b ∷ c ∷ l) = go (is_body_byte b) (is_body_byte c) refl refl
  where
    go : (x y : Bool) → is_body_byte b ≡ x → is_body_byte c ≡ y
        → begins crlf (take (cond x (suc (cond y (suc (run_of BodyByte l)) 0)) 0) (b ∷ c ∷ l)) ≡ begins crlf (b ∷ c ∷ l)
    go true true e f = refl
    go true false e f = rw (apostrophe c f) refl
    go false y e f = rw (apostrophe b e) refl

run_taken : (k : Class) (l : List ℕ) (m : ℕ) → run_of k l ≤ m → run_of k (take m l) ≡ run_of k l
unfolding run_of
run_taken k [] m h = rw (take-nil m) refl
run_taken k (b ∷ l) zero h = omega arith
run_taken k (b ∷ l) (suc m) h = go (belongs_to k b) h (run_taken k l m)
  where
    go : (x : Bool) → cond x (suc (run_of k l)) 0 ≤ suc m → (run_of k l ≤ m → run_of k (take m l) ≡ run_of k l)
        → cond x (suc (run_of k (take m l))) 0 ≡ cond x (suc (run_of k l)) 0
    go true g f = ap suc (f (le_of_suc-le-suc g))
    go false g f = refl

drop_taken : (n m : ℕ) (l : List ℕ) → drop n (take (n + m) l) ≡ take m (drop n l)
drop_taken zero m l = rw (zero-add m) refl
drop_taken (suc n) m [] = rw (take-nil (suc n + m), take-nil m) refl
drop_taken (suc n) m (x ∷ l) = rw (suc-add n m) (drop_taken n m l)

module _ (l : List ℕ) where
  -- the length of its first record, and of the body from the end of that
  abbrev record_length : ℕ
  record_length = run_of RecordByte l

  abbrev left : ℕ
  left = run_of BodyByte (drop record_length l)

  abbrev body : List ℕ
  body = take (run_of BodyByte l) l

  same_run : run_of RecordByte body ≡ record_length
  same_run = run_taken RecordByte l (run_of BodyByte l) (omega (arith, run_record l))

  behind : drop record_length body ≡ take left (drop record_length l)
  behind = rw (run_record l) (drop_taken record_length left l)

  first_line : 0 < run_of BodyByte l
      → records_of body ≡ cond (begins crlf (drop record_length l)) (with_record (take record_length l) (records_of (drop (suc (suc record_length)) body))) broken
  first_line h =
      lines_step body (rw (length-take-le (run_of BodyByte l) l (run_within BodyByte l)) h)
      ∙ rw (same_run, behind, begins_taken (drop record_length l), take-take record_length (run_of BodyByte l) l (omega (arith, run_record l))) refl

  rest_of : begins crlf (drop record_length l) ≡ true
      → (run_of BodyByte l ≡ (record_length + 2) + run_of BodyByte (drop (record_length + 2) l))
      × (drop (suc (suc record_length)) body ≡ take (run_of BodyByte (drop (record_length + 2) l)) (drop (record_length + 2) l))
  rest_of e =
      let k = run_of BodyByte (drop (record_length + 2) l) in
      let two : left ≡ 2 + k = run_crlf (drop record_length l) e ∙ rw (drop-drop 2 record_length l) refl in
      let whole : run_of BodyByte l ≡ (record_length + 2) + k = omega (arith, run_record l, two) in
      let next : suc (suc record_length) ≡ record_length + 2 = omega arith in
      (whole, rw (whole, next) (drop_taken (record_length + 2) k l))

-- What is counted from a place on: n records stand before it.
abbrev count_from : ℕ → ℕ → ℕ → Records → Option Span
count_from n first end broken = None
count_from n first end (records rs) = Some (record { first = first; end = end; records = n + length rs })

unfoldable pub lines_from : List ℕ → ℕ → ℕ → ℕ → Option Span
lines_from s first n p =
    let end = apostrophe_from s p in cond (leb (length s) end) None (count_from n first end (records_of (between s p end)))

count_none : (first end : ℕ) (l : Records) → counted first end l ≡ count_from 0 first end l
count_none first end broken = refl
count_none first end (records rs) = ap (λ (k : ℕ). Some (record { first = first; end = end; records = k })) (omega arith)

count_record : (n first end : ℕ) (r : List ℕ) (l : Records) → count_from n first end (with_record r l) ≡ count_from (n + 1) first end l
count_record n first end r broken = refl
count_record n first end r (records rs) = ap (λ (k : ℕ). Some (record { first = first; end = end; records = k })) (omega arith)

body_bytes : (s : List ℕ) (p : ℕ) → between s p (apostrophe_from s p) ≡ take (run_of BodyByte (drop p s)) (drop p s)
body_bytes s p = let e : p + run_of BodyByte (drop p s) - p ≡ run_of BodyByte (drop p s) = omega arith in rw e refl

absent : (x : Bool) (p : ℕ) → cond x (Some p) None ≡ None → x ≡ false
absent true p e = absurd (none-some p (sym e))
absent false p e = refl

either : (x : Bool) → cond {A = Option Span} x None None ≡ None
either true = refl
either false = refl

module _ (s : List ℕ) (first n p : ℕ) where
  pub count_start : lines_at s first ≡ lines_from s first 0 first
  unfolding lines_at lines_from
  count_start = ap (cond (leb (length s) (apostrophe_from s first)) None) (count_none first _ (records_of (between s first (apostrophe_from s first))))

  pub count_end : length s ≤ p → lines_from s first n p ≡ None
  unfolding lines_from
  count_end h = let l : length s ≤ apostrophe_from s p = omega arith in rw (le-leb _ _ l) refl

  module _ (h : p < length s) where
    pub count_apostrophe : get_or s p 0 ≡ 39 → lines_from s first n p ≡ Some (record { first = first; end = p; records = n })
    unfolding run_of records_of lines_from
    count_apostrophe e =
        let none : run_of BodyByte (drop p s) ≡ 0 = rw (drop-cons s p 0, e) refl in
        let at : apostrophe_from s p ≡ p = omega (arith, none) in
        let empty : between s p p ≡ [] = (let z : p - p ≡ 0 = omega arith in rw z refl) in
        rw (at, lt-leb _ _ h, empty) (ap (λ (k : ℕ). Some (record { first = first; end = p; records = k })) (omega arith))

    module _ (other : get_or s p 0 ≡ 39 → ⊥) where
      begun : 0 < run_of BodyByte (drop p s)
      unfolding run_of
      begun = rw (drop-cons s p 0, ne_eqb _ 39 other) (omega arith)

      pub count_more : (q : ℕ) → line_end s p ≡ Some q → lines_from s first n p ≡ lines_from s first (n + 1) q
      unfolding line_end text_end lines_from
      count_more q e =
          let l = drop p s in
          let w = picked (begins crlf (drop (p + run_of RecordByte l) s)) (p + run_of RecordByte l + 2) q e in
          let ended : begins crlf (drop (run_of RecordByte l) l) ≡ true = rw (drop-drop (run_of RecordByte l) p s) w.0 in
          let r = rest_of l ended in
          let sum : p + (run_of RecordByte l + 2) ≡ q = omega (arith, w.1) in
          let there : drop (run_of RecordByte l + 2) l ≡ drop q s = drop-drop (run_of RecordByte l + 2) p s ∙ ap (λ (k : ℕ). drop k s) sum in
          let run : run_of BodyByte (drop (run_of RecordByte l + 2) l) ≡ run_of BodyByte (drop q s) = ap (run_of BodyByte) there in
          let place : apostrophe_from s p ≡ apostrophe_from s q = omega (arith, r.0, run, w.1) in
          let lines : records_of (between s p (apostrophe_from s p)) ≡ with_record (record_at s p) (records_of (between s q (apostrophe_from s q))) =
          ap records_of (body_bytes s p) ∙ first_line l begun
          ∙ rw (ended, r.1, there) (ap (λ (x : List ℕ). with_record (record_at s p) (records_of x)) (sym (body_bytes s q))) in
          (λ i. cond (leb (length s) (place i)) None (count_from n first (place i) (lines i)))
          ∙ ap (cond (leb (length s) (apostrophe_from s q)) None) (count_record n first _ (record_at s p) (records_of (between s q (apostrophe_from s q))))

      pub count_off : line_end s p ≡ None → lines_from s first n p ≡ None
      unfolding line_end text_end lines_from
      count_off e =
          let l = drop p s in
          let off = absent (begins crlf (drop (p + run_of RecordByte l) s)) (p + run_of RecordByte l + 2) e in
          let lost : begins crlf (drop (run_of RecordByte l) l) ≡ false = rw (drop-drop (run_of RecordByte l) p s) off in
          let lines : records_of (between s p (apostrophe_from s p)) ≡ broken = ap records_of (body_bytes s p) ∙ first_line l begun ∙ rw lost refl in
          rw lines (either (leb (length s) (apostrophe_from s p)))

-- what the count of a body's lines is proved by
pub ruleset counting = (line_placed, count_start, count_end, count_apostrophe, count_more, count_off)

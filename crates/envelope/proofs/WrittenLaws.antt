-- What was written is read back at its place: a text, a part, the records of a body, and a whole envelope.
-- Assumes nothing.
use Prim.Native.Nat.{ℕ, suc, ◌+◌, ◌-◌, ◌<◌, ◌≤◌}
use mathlib.Core.Bool.{Bool, true, false, ◌&&◌, not, cond}
use mathlib.Core.List.{List, [], ◌∷◌, ◌++◌, append_assoc}
use mathlib.Core.Path.{◌≡◌, refl, ap, sym, ◌∙◌}
use native.Mathlib.Omega.{arith}
use borrow.Author.Tests.{eq-eqb, le-leb, lt-leb, le-ltb, leb-true, eqb-true}
use lib.Dec.{eqb, leb}
use lib.ListN.{length, drop, length-drop}
use lib.Seq.{drop-append_seam, take-append_seam, drop-drop}
use Rattle.frame.specs.Reply.{accepted}
use Rattle.frame.proofs.BoolLaws.{and_left, and_right, and_intro}
use Rattle.text.specs.declared.Class.{Class}
use Rattle.text.specs.declared.Class.TheVariants.{Digit, CapitalOrDigit, WordByte, BodyByte}
use Rattle.text.specs.Class.{belongs_to, is_record_byte, is_body_byte, is_word_byte, is_digit, is_capital_or_digit}
use Rattle.text.specs.Bytes.{all, same}
use Rattle.text.specs.Text.{bytes}
use Rattle.text.proofs.ByteLaws.{same_refl}
use Rattle.identifier.specs.Identifier.{name_up_to}
use Rattle.calendar.specs.Calendar.{digits_exactly, real_date, real_minute}
use Rattle.envelope.specs.declared.Parts.{Parts}
use Rattle.envelope.specs.declared.Span.{Span}
use Rattle.envelope.specs.declared.Layout.{Layout}
use Rattle.std.specs.Prelude.{Some}
use Rattle.envelope.specs.Pieces.{between, run_of, begins, text_end, part_end, part_then}
use Rattle.envelope.specs.Body.{records, crlf, records_of, lines_at, body_at}
use Rattle.envelope.specs.Envelope.{record_count_limit, head_of, tail_of, layout_of, body_stage, envelope_of, sender_of, control_word_of, listed, records_from}
use Rattle.envelope.specs.Written.{Envelope, Formed, ReadsBack, lines_then, written, control_word, all_records}

begins_self : (t q : List ℕ) → begins t (t ++ q) ≡ true
unfolding begins
begins_self [] q = refl
begins_self (a ∷ t) q = rw (eq-eqb a a refl) (begins_self t q)

-- a run of written bytes ends where another byte follows
run_written : (k : Class) (w q : List ℕ) → all (belongs_to k) w ≡ true → run_of k q ≡ 0 → run_of k (w ++ q) ≡ length w
unfolding run_of all
run_written k [] q a z = z
run_written k (b ∷ w) q a z =
    rw (and_left (belongs_to k b) _ a) (ap suc (run_written k w q (and_right (belongs_to k b) _ a) z))

-- A text or a part at a place, and what follows it: the rest from its end on.
module _ (s : List ℕ) (at : ℕ) where
  rest_at : (w q : List ℕ) → drop at s ≡ w ++ q → drop (at + length w) s ≡ q
  rest_at w q e = sym (drop-drop (length w) at s) ∙ ap (drop (length w)) e ∙ drop-append_seam w q

  pub text_written : (t q : List ℕ) → drop at s ≡ t ++ q → (text_end s at t ≡ Some (at + length t)) × (drop (at + length t) s ≡ q)
  unfolding text_end
  text_written t q e = (rw (e, begins_self t q) refl, rest_at t q e)

  module _ (k : Class) (lo hi : ℕ) (w q : List ℕ) (a : all (belongs_to k) w ≡ true) (l : lo ≤ length w) (h : length w ≤ hi) where
    pub part_written : run_of k q ≡ 0 → drop at s ≡ w ++ q
        → (part_end s at k lo hi ≡ Some (at + length w)) × (between s at (at + length w) ≡ w) × (drop (at + length w) s ≡ q)
    unfolding part_end
    part_written z e =
        let m : at + length w - at ≡ length w = omega arith in (
          rw (e, run_written k w q a z, le-leb _ _ l, le-leb _ _ h) refl,
          rw (m, e) (take-append_seam w q),
          rest_at w q e,
        )

  -- a part with a byte behind it that is not of its class
  pub then_written : (k : Class) (lo hi : ℕ) (w : List ℕ) (b : ℕ) (q : List ℕ) → all (belongs_to k) w ≡ true → lo ≤ length w → length w ≤ hi
      → belongs_to k b ≡ false → drop at s ≡ w ++ (b ∷ q)
      → (part_then s at k lo hi (b ∷ []) ≡ Some (at + length w + 1)) × (between s at (at + length w + 1 - 1) ≡ w) × (drop (at + length w + 1) s ≡ q)
  unfolding part_then text_end begins run_of
  then_written k lo hi w b q a l h z e =
      let p = part_written k lo hi w (b ∷ q) a l h (rw z refl) e in
      let m : at + length w + 1 - 1 ≡ at + length w = omega arith in (
        rw (p.0, p.2, eq-eqb b b refl) refl,
        rw m p.1,
        sym (drop-drop 1 (at + length w) s) ∙ ap (drop 1) p.2,
      )

-- records with CR LF behind each are read back as those records
record_back : (r b : List ℕ) (rs : List (List ℕ)) → all is_record_byte r ≡ true → records_of b ≡ records rs → records_of (r ++ (13 ∷ 10 ∷ b)) ≡ records (r ∷ rs)
unfolding records_of begins all
record_back [] b rs a e = rw e refl
record_back (x ∷ []) b rs a e = rw (and_left (is_record_byte x) _ a, record_back [] b rs refl e) refl
record_back (x ∷ y ∷ r) b rs a e =
    rw (and_left (is_record_byte x) _ a, record_back (y ∷ r) b rs (and_right (is_record_byte x) _ a) e) refl

pub records_back : (rs : List (List ℕ)) → all_records rs ≡ true → records_of (lines_then rs []) ≡ records rs
unfolding lines_then records_of
records_back [] a = refl
records_back (r ∷ rs) a =
    record_back r (lines_then rs []) rs (and_left (all is_record_byte r) _ a) (records_back rs (and_right (all is_record_byte r) _ a))

lines_then_lem : (rs : List (List ℕ)) (rest : List ℕ) → lines_then rs rest ≡ lines_then rs [] ++ rest
unfolding lines_then
lines_then_lem [] rest = refl
lines_then_lem (r ∷ rs) rest = rw (lines_then_lem rs rest) (sym (append_assoc r (13 ∷ 10 ∷ lines_then rs []) rest))

all_joined : (p : ℕ → Bool) (a b : List ℕ) → all p a ≡ true → all p b ≡ true → all p (a ++ b) ≡ true
unfolding all
all_joined p [] b h k = k
all_joined p (x ∷ a) b h k = and_intro (p x) _ (and_left (p x) _ h) (all_joined p a b (and_right (p x) _ h) k)

-- no record has an apostrophe, and neither have their lines
record_body : (r : List ℕ) → all is_record_byte r ≡ true → all is_body_byte r ≡ true
unfolding all
record_body [] a = refl
record_body (x ∷ r) a =
    let b = and_right (not (eqb x 13) && not (eqb x 10)) (is_body_byte x) (and_left (is_record_byte x) _ a) in
    and_intro (is_body_byte x) _ b (record_body r (and_right (is_record_byte x) _ a))

lines_body : (rs : List (List ℕ)) → all_records rs ≡ true → all is_body_byte (lines_then rs []) ≡ true
unfolding lines_then all
lines_body [] a = refl
lines_body (r ∷ rs) a =
    all_joined is_body_byte r _ (record_body r (and_left (all is_record_byte r) _ a)) (lines_body rs (and_right (all is_record_byte r) _ a))

-- a place with something behind it lies within the list
place_within : (s : List ℕ) (p b : ℕ) (q : List ℕ) → drop p s ≡ b ∷ q → length s ≡ p + suc (length q)
place_within s p b q e = let n : length s - p ≡ suc (length q) = sym (length-drop p s) ∙ ap length e in omega (arith, n)

stopped : (t : List ℕ) → run_of BodyByte (39 ∷ t) ≡ 0
unfolding run_of
stopped t = refl

-- the body of written records, and the tail behind it
module _ (s : List ℕ) (at : ℕ) (rs : List (List ℕ)) (t : List ℕ) (a : all_records rs ≡ true) (e : drop at s ≡ crlf ++ lines_then rs (39 ∷ t)) where
  abbrev pub first_at : ℕ
  first_at = at + 2

  abbrev pub end_at : ℕ
  end_at = first_at + length (lines_then rs [])

  lines_there : drop first_at s ≡ lines_then rs [] ++ (39 ∷ t)
  lines_there = (text_written s at crlf (lines_then rs (39 ∷ t)) e).1 ∙ lines_then_lem rs (39 ∷ t)

  pub tail_there : drop end_at s ≡ 39 ∷ t
  tail_there = rest_at s first_at (lines_then rs []) (39 ∷ t) lines_there

  pub records_there : records_of (between s first_at end_at) ≡ records rs
  records_there =
      let m : end_at - first_at ≡ length (lines_then rs []) = omega arith in
      rw (m, lines_there, take-append_seam (lines_then rs []) (39 ∷ t)) (records_back rs a)

  pub body_there : body_at s at ≡ Some (record { first = first_at; end = end_at; records = length rs })
  unfolding body_at lines_at
  body_there =
      let run : run_of BodyByte (drop first_at s) ≡ length (lines_then rs []) =
      rw lines_there (run_written BodyByte (lines_then rs []) (39 ∷ t) (lines_body rs a) (stopped t)) in
      let inside : end_at < length s = omega (arith, place_within s end_at 39 t tail_there) in
      rw ((text_written s at crlf (lines_then rs (39 ∷ t)) e).0, run, lt-leb _ _ inside, records_there) refl

-- the tail, at the end of the file
pub tail_back : (s : List ℕ) (at : ℕ) (w : List ℕ) → all is_word_byte w ≡ true → 1 ≤ length w → length w ≤ 14
    → drop at s ≡ bytes "'UNT+3+BWA'UNZ+1+" ++ (w ++ bytes "'") → (tail_of s at ≡ Some (at + 17)) × (between s (at + 17) (length s - 1) ≡ w)
unfolding tail_of
tail_back s at w a l h e =
    let p1 = text_written s at (bytes "'UNT+3+BWA'UNZ+1+") (w ++ bytes "'") e in
    let p2 = then_written s (at + 17) WordByte 1 14 w 39 [] a l h refl p1.1 in
    let long : length s ≡ at + 17 + length w + 1 = place_within s (at + 17 + length w) 39 [] (rest_at s (at + 17) w (39 ∷ []) p1.1) in
    (rw (p1.0, p2.0, eq-eqb _ _ (sym long)) refl, rw long p2.1)

-- what the forms of the parts give
name_form : (s : List ℕ) → name_up_to 8 s ≡ true → (all is_capital_or_digit s ≡ true) × (1 ≤ length s) × (length s ≤ 8)
unfolding name_up_to
name_form s h =
    let lengths = leb 1 (length s) && leb (length s) 8 in
    let l = and_left lengths _ h in
    (and_right lengths _ h, leb-true _ _ (and_left (leb 1 (length s)) _ l), leb-true _ _ (and_right (leb 1 (length s)) _ l))

word_form : (s : List ℕ) → control_word s ≡ true → (all is_word_byte s ≡ true) × (1 ≤ length s) × (length s ≤ 14)
word_form s h =
    let lengths = leb 1 (length s) && leb (length s) 14 in
    let l = and_left lengths _ h in
    (and_right lengths _ h, leb-true _ _ (and_left (leb 1 (length s)) _ l), leb-true _ _ (and_right (leb 1 (length s)) _ l))

digit_form : (n : ℕ) (s : List ℕ) → digits_exactly n s ≡ true → (all is_digit s ≡ true) × (n ≤ length s) × (length s ≤ n)
unfolding digits_exactly
digit_form n s h =
    let l = eqb-true (length s) n (and_left (eqb (length s) n) _ h) in
    (and_right (eqb (length s) n) _ h, omega (arith, l), omega (arith, l))

class_stops : (class rest : List ℕ) → run_of WordByte class ≡ 0 → run_of WordByte (class ++ (crlf ++ rest)) ≡ 0
unfolding run_of
class_stops [] rest z = refl
class_stops (b ∷ class) rest z = go (is_word_byte b) z
  where
    go : (x : Bool) → cond x (suc (run_of WordByte class)) 0 ≡ 0 → cond x (suc (run_of WordByte (class ++ (crlf ++ rest)))) 0 ≡ 0
    go true e = absurd (omega arith)
    go false e = refl

module _ (e : Envelope) where
  -- what follows the class, and the layout from the start
  abbrev closing : List ℕ
  closing = bytes "'UNT+3+BWA'UNZ+1+" ++ (e.word ++ bytes "'")

  layout : drop 0 (written e)
      ≡ bytes "UNB+UNOA:1+" ++ (e.sender ++ (43 ∷ (e.receiver ++ (43 ∷ (e.date ++ (58 ∷ (e.time ++ (43 ∷ (e.word
      ++ (e.class ++ (crlf ++ lines_then e.records closing)))))))))))
  unfolding written
  layout = refl

  -- A whole envelope reads back as what it was written from.
  pub read_back : Formed e → (h : Parts) × ((b : Span) × ((last : ℕ) × ReadsBack e h b last))
  unfolding head_of
  read_back f =
      let s = written e in
      let sender = name_form e.sender f.sender in
      let receiver = name_form e.receiver f.receiver in
      let date = digit_form 8 e.date f.date in
      let time = digit_form 4 e.time f.time in
      let word = word_form e.word f.word in
      let a2 : ℕ = 11 + length e.sender + 1 in
      let a3 : ℕ = a2 + length e.receiver + 1 in
      let a4 : ℕ = a3 + length e.date + 1 in
      let a5 : ℕ = a4 + length e.time + 1 in
      let a6 : ℕ = a5 + length e.word in
      let a7 : ℕ = a6 + length e.class in
      let p1 = text_written s 0 (bytes "UNB+UNOA:1+") _ layout in
      let p2 = then_written s 11 CapitalOrDigit 1 8 e.sender 43 _ sender.0 sender.1 sender.2 refl p1.1 in
      let p3 = then_written s a2 CapitalOrDigit 1 8 e.receiver 43 _ receiver.0 receiver.1 receiver.2 refl p2.2 in
      let p4 = then_written s a3 Digit 8 8 e.date 58 _ date.0 date.1 date.2 refl p3.2 in
      let p5 = then_written s a4 Digit 4 4 e.time 43 _ time.0 time.1 time.2 refl p4.2 in
      let p6 = part_written s a5 WordByte 1 14 e.word _ word.0 word.1 word.2 (class_stops e.class _ f.class) p5.2 in
      let p7 = text_written s a6 e.class _ p6.2 in
      let rest : drop a7 s ≡ crlf ++ lines_then e.records closing = p7.1 in
      let first = first_at s a7 e.records _ f.records rest in
      let end = end_at s a7 e.records _ f.records rest in
      let p9 = tail_back s end e.word word.0 word.1 word.2 (tail_there s a7 e.records _ f.records rest) in (
        record { sender = 11; receiver = a2; date = a3; time = a4; word = a5; word_end = a6; end = a7 },
        (
          record { first = first; end = end; records = length e.records },
          (
            end + 17,
            record {
              head = rw (p1.0, p2.0, p3.0, p4.0, p5.0, p6.0, p7.0) refl;
              sender = p2.1;
              receiver = p3.1;
              date = p4.1;
              time = p5.1;
              word = p6.1;
              body = body_there s a7 e.records _ f.records rest;
              records = records_there s a7 e.records _ f.records rest;
              count = refl;
              tail = p9.0;
              last_word = p9.1;
            },
          ),
        ),
      )

  -- A report that is written to ATBWA with a real date and time, of at most 1,024 records, is opened as its sender's, with its word and its records.
  pub report_back : Formed e → e.receiver ≡ bytes "ATBWA" → real_date e.date ≡ true → real_minute e.time ≡ true
      → length e.records ≤ record_count_limit
      → (l : Layout) × ((envelope_of e.class (written e) ≡ accepted l)
      × ((sender_of (written e) l ≡ e.sender) × (control_word_of (written e) l ≡ e.word) × (records_from (written e) l ≡ e.records)))
  unfolding envelope_of body_stage records_from
  report_back f to date time few =
      let r = read_back f in
      let h = r.0 in
      let b = r.1.0 in
      let back = r.1.1.1 in
      let count : b.records ≤ record_count_limit = rw back.count few in
      let words : same (between (written e) h.word h.word_end) (between (written e) r.1.1.0 (length (written e) - 1)) ≡ true =
      rw (back.word, back.last_word) (same_refl e.word) in
      let receiver : same (between (written e) h.receiver (h.date - 1)) (bytes "ATBWA") ≡ true = rw (back.receiver, to) (same_refl (bytes "ATBWA")) in (
        layout_of h b,
        (
          rw (back.head, back.date, date, back.time, time, receiver, back.body, back.tail, words, le-ltb _ _ count) refl,
          (back.sender, back.word, ap listed back.records),
        ),
      )

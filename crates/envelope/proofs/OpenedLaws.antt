-- Laws of an opened report: its parts lie one after another within the file, its sender is a name, its word a control word, and its
-- records are as many as it says.
-- Assumes nothing.
use Prim.Native.Nat.{ℕ, ◌-◌, ◌<◌, ◌≤◌, zero-le}
use mathlib.Core.Bool.{Bool, true, false, ◌&&◌, cond}
use mathlib.Core.List.{List}
use mathlib.Core.Path.{◌≡◌, refl, ap, sym, subst, ◌∙◌}
use native.Mathlib.Omega.{arith}
use borrow.Author.Tests.{leb-false, eqb-true, ltb-false}
use lib.Dec.{eqb, leb, ltb}
use lib.ListN.{length, drop}
use Rattle.frame.specs.Reply.{Reply, refused, accepted}
use Rattle.text.specs.declared.Class.TheVariants.{CapitalOrDigit, WordByte}
use Rattle.text.specs.Bytes.{same}
use Rattle.text.specs.Text.{bytes}
use Rattle.identifier.specs.Identifier.{name_up_to}
use Rattle.calendar.specs.Calendar.{real_date, real_minute}
use Rattle.envelope.specs.declared.Parts.{Parts}
use Rattle.envelope.specs.declared.Span.{Span}
use Rattle.envelope.specs.declared.Layout.{Layout}
use Rattle.std.specs.Prelude.{Option, Some, None}
use Rattle.std.proofs.lemmas.Option.{none-some, same_Some}
use Rattle.envelope.specs.Pieces.{between, text_end, on, part_end, part_then}
use Rattle.envelope.specs.Body.{Records, broken, records, crlf, records_of, apostrophe_from, counted, lines_at, body_at}
use Rattle.envelope.specs.Envelope.{record_count_limit, head_of, tail_of, Ordered, layout_of, word_stage, tail_stage, body_stage}
use Rattle.envelope.specs.Envelope.{date_stage, envelope_of, sender_of, control_word_of, listed, records_from}
use Rattle.envelope.specs.Written.{control_word}
use Rattle.envelope.proofs.PieceLaws.{run_form, found, picked, text_found, part_found, then_found}

refused_report : (n : ℕ) (l : Layout) → refused n ≡ accepted l → ⊥
refused_report n l e = let z : ◌≡◌ {A = ℕ} 0 1 = cc in omega arith

report_is : (a l : Layout) → accepted a ≡ accepted l → a ≡ l
report_is a l e = cc

-- a test that comes to v, not by its other branch
taken : {A : Type 0} (x : Bool) (a b v : A) → (b ≡ v → ⊥) → cond x a b ≡ v → (x ≡ true) × (a ≡ v)
taken true a b v n e = (refl, e)
taken false a b v n e = absurd (n e)

passed : {A : Type 0} (x : Bool) (a b v : A) → (a ≡ v → ⊥) → cond x a b ≡ v → (x ≡ false) × (b ≡ v)
passed true a b v n e = absurd (n e)
passed false a b v n e = (refl, e)

-- a part of 1 to 8 capitals or digits that ends in a plus; a control word
name_found : (s : List ℕ) (p q : ℕ) → p ≤ length s → part_then s p CapitalOrDigit 1 8 (bytes "+") ≡ Some q → name_up_to 8 (between s p (q - 1)) ≡ true
unfolding name_up_to
name_found s p q h e =
    let w = then_found s p q h CapitalOrDigit 1 8 (bytes "+") e in
    run_form CapitalOrDigit 1 8 (q - 1 - p) (drop p s) (omega (arith, w.0)) w.1 w.2

word_found : (s : List ℕ) (p q : ℕ) → p ≤ length s → part_end s p WordByte 1 14 ≡ Some q → control_word (between s p q) ≡ true
word_found s p q h e = let w = part_found s p q h WordByte 1 14 e in run_form WordByte 1 14 (q - p) (drop p s) (omega (arith, w.0)) w.1 w.2

-- what a head that was read is: its parts lie one after another, its sender is a name, and its word a control word
abbrev HeadRead : List ℕ → Parts → Type 0
HeadRead s h = Ordered s h × (name_up_to 8 (between s h.sender (h.receiver - 1)) ≡ true) × (control_word (between s h.word h.word_end) ≡ true)

pub head_read : (s class : List ℕ) (h : Parts) → head_of s class ≡ Some h → HeadRead s h
unfolding head_of
head_read s class h e =
    let n = none-some h in
    let w1 = found _ _ _ _ n e in
    let w2 = found _ _ _ _ n w1.1.1 in
    let w3 = found _ _ _ _ n w2.1.1 in
    let w4 = found _ _ _ _ n w3.1.1 in
    let w5 = found _ _ _ _ n w4.1.1 in
    let w6 = found _ _ _ _ n w5.1.1 in
    let w7 = found _ _ _ _ n w6.1.1 in
    let p1 = text_found s 0 w1.0 zero-le _ w1.1.0 in
    let p2 = then_found s w1.0 w2.0 p1.1 _ _ _ _ w2.1.0 in
    let p3 = then_found s w2.0 w3.0 p2.3 _ _ _ _ w3.1.0 in
    let p4 = then_found s w3.0 w4.0 p3.3 _ _ _ _ w4.1.0 in
    let p5 = then_found s w4.0 w5.0 p4.3 _ _ _ _ w5.1.0 in
    let p6 = part_found s w5.0 w6.0 p5.3 _ _ _ w6.1.0 in
    let p7 = text_found s w6.0 w7.0 p6.3 _ w7.1.0 in
    subst (λ (x : Parts). HeadRead s x) (same_Some _ h w7.1.1) (
      record {
        sender = omega (arith, p2.0);
        receiver = omega (arith, p3.0);
        date = omega (arith, p4.0);
        time = omega (arith, p5.0);
        word = omega (arith, p6.0);
        word_end = omega (arith, p7.0);
        end = p7.1;
      },
      name_found s w1.0 w2.0 p1.1 w2.1.0,
      word_found s w5.0 w6.0 p5.3 w6.1.0,
    )

-- the word of a tail begins before the last byte of the file
pub tail_placed : (s : List ℕ) (at word : ℕ) → at ≤ length s → tail_of s at ≡ Some word → word < length s
unfolding tail_of
tail_placed s at word h e =
    let w1 = found _ _ _ _ (none-some word) e in
    let w2 = found _ _ _ _ (none-some word) w1.1.1 in
    let w3 = picked (eqb w2.0 (length s)) w1.0 word w2.1.1 in
    let p1 = text_found s at w1.0 h _ w1.1.0 in
    let p2 = then_found s w1.0 w2.0 p1.1 _ _ _ _ w2.1.0 in
    omega (arith, p2.0, w3.1, eqb-true w2.0 (length s) w3.0)

-- a body that was read: its records lie within the file, before the apostrophe that ends them, and are as many as it says
pub record Bounded (s : List ℕ) (b : Span) : Type 0 where
  pub order : b.first ≤ b.end
  pub within : b.end < length s
  pub counts : records_of (between s b.first b.end) ≡ records (listed (records_of (between s b.first b.end)))
  pub count : length (listed (records_of (between s b.first b.end))) ≡ b.records

counted_bounded : (s : List ℕ) (first end : ℕ) (r : Records) (b : Span) → first ≤ end → end < length s → records_of (between s first end) ≡ r
    → counted first end r ≡ Some b → Bounded s b
counted_bounded s first end broken b o w q e = absurd (none-some b e)
counted_bounded s first end (records rs) b o w q e =
    subst (λ (x : Span). Bounded s x) (same_Some _ b e)
    (record { order = o; within = w; counts = q ∙ ap (λ (r : Records). records (listed r)) (sym q); count = ap (λ (r : Records). length (listed r)) q })

pub body_bounded : (s : List ℕ) (at : ℕ) (b : Span) → body_at s at ≡ Some b → Bounded s b
unfolding body_at lines_at
body_bounded s at b e =
    let w1 = found (text_end s at crlf) _ _ (lines_at s) (none-some b) e in
    let first = w1.0 in
    let end = apostrophe_from s first in
    let w2 = passed (leb (length s) end) _ _ _ (none-some b) w1.1.1 in
    let l : end < length s = leb-false _ _ w2.0 in
    counted_bounded s first end (records_of (between s first end)) b (omega arith) l refl w2.1

-- what an opened report is
pub record Whole (s : List ℕ) (l : Layout) : Type 0 where
  pub order : l.first ≤ l.end
  pub within : l.end ≤ length s
  pub counts : records_of (between s l.first l.end) ≡ records (records_from s l)
  pub count : length (records_from s l) ≡ l.records
  pub few : l.records ≤ record_count_limit
  pub from : l.sender ≤ l.sender_end
  pub inside : l.sender_end ≤ length s
  pub named : name_up_to 8 (sender_of s l) ≡ true
  pub word_order : l.word ≤ l.word_end
  pub word_within : l.word_end ≤ length s
  pub worded : control_word (control_word_of s l) ≡ true

body_whole : (s : List ℕ) (h : Parts) (l : Layout) → HeadRead s h → body_stage s h ≡ accepted l → Whole s l
unfolding body_stage records_from
body_whole s h l r e =
    let o = r.0 in
    let w1 = found (body_at s h.end) _ _ (tail_stage s h) (refused_report 8 l) e in
    let b = w1.0 in
    let w2 = found (tail_of s b.end) _ _ (word_stage s h b) (refused_report 9 l) w1.1.1 in
    let w3 = taken (same (between s h.word h.word_end) (between s w2.0 (length s - 1))) _ _ _ (refused_report 10 l) w2.1.1 in
    let w4 = passed (ltb record_count_limit b.records) _ _ _ (refused_report 11 l) w3.1 in
    let p = body_bounded s h.end b w1.1.0 in
    subst (λ (x : Layout). Whole s x) (report_is (layout_of h b) l w4.1)
    (record {
      order = p.order;
      within = omega (arith, p.within);
      counts = p.counts;
      count = p.count;
      few = ltb-false _ _ w4.0;
      from = omega (arith, o.sender);
      inside = omega (arith, o.sender, o.receiver, o.date, o.time, o.word, o.word_end, o.end);
      named = r.1;
      word_order = o.word;
      word_within = omega (arith, o.word_end, o.end);
      worded = r.2;
    })

pub opened_whole : (class s : List ℕ) (l : Layout) → envelope_of class s ≡ accepted l → Whole s l
unfolding envelope_of
opened_whole class s l e =
    let w1 = found (head_of s class) _ _ (date_stage s) (refused_report 5 l) e in
    let h = w1.0 in
    let r = head_read s class h w1.1.0 in
    let real = real_date (between s h.date (h.time - 1)) && real_minute (between s h.time (h.word - 1)) in
    let w2 = taken real _ _ _ (refused_report 6 l) w1.1.1 in
    let w3 = taken (same (between s h.receiver (h.date - 1)) (bytes "ATBWA")) _ _ _ (refused_report 7 l) w2.1 in
    body_whole s h l r w3.1

-- an envelope is refused by 5 to 11
record FromFive (r : Reply Layout) : Type 0 where
  bound : (n : ℕ) → r ≡ refused n → (5 ≤ n) × (n ≤ 11)

five_refused : (k : ℕ) → 5 ≤ k → k ≤ 11 → FromFive (refused k)
five_refused k low high = record { bound = λ n e. let same : k ≡ n = cc in rw (← same) (low, high) }

five_accepted : (l : Layout) → FromFive (accepted l)
five_accepted l = record { bound = λ n e. absurd (refused_report n l (sym e)) }

five_test : (x : Bool) {a b : Reply Layout} → FromFive a → FromFive b → FromFive (cond x a b)
five_test true f g = f
five_test false f g = g

five_on : {P : Type 0} (x : Option P) {none : Reply Layout} {f : P → Reply Layout} → FromFive none → ((p : P) → FromFive (f p)) → FromFive (on x none f)
five_on (Some p) f g = g p
five_on None f g = f

from_five : (class s : List ℕ) → FromFive (envelope_of class s)
unfolding envelope_of body_stage
from_five class s =
    five_on (head_of s class) (five_refused 5 (omega arith) (omega arith)) (λ h.
    five_test (real_date (between s h.date (h.time - 1)) && real_minute (between s h.time (h.word - 1)))
    (five_test (same (between s h.receiver (h.date - 1)) (bytes "ATBWA"))
    (five_on (body_at s h.end) (five_refused 8 (omega arith) (omega arith)) (λ b.
    five_on (tail_of s b.end) (five_refused 9 (omega arith) (omega arith)) (λ word.
    five_test (same (between s h.word h.word_end) (between s word (length s - 1)))
    (five_test (ltb record_count_limit b.records) (five_refused 11 (omega arith) (omega arith)) (five_accepted (layout_of h b)))
    (five_refused 10 (omega arith) (omega arith)))))
    (five_refused 7 (omega arith) (omega arith)))
    (five_refused 6 (omega arith) (omega arith)))

pub refused_from_five : (class s : List ℕ) (n : ℕ) → envelope_of class s ≡ refused n → (5 ≤ n) × (n ≤ 11)
refused_from_five class s n e = (from_five class s).bound n e

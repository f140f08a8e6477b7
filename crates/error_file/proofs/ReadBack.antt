-- An accepted error file reads back as an envelope of its class: what was read from the report and its answers, line by line.
-- Assumes nothing.
use Prim.Native.Nat.{ℕ, zero, suc, ◌+◌, ◌/◌, ◌%◌, ◌<◌}
use native.Mathlib.Nat.{mod-lt}
use native.Mathlib.Omega.{arith}
use mathlib.Core.Bool.{Bool, true, false, ◌&&◌, not, cond}
use mathlib.Core.List.{List, [], ◌∷◌, ◌++◌}
use mathlib.Core.Path.{◌≡◌, refl, ap, ◌∙◌}
use borrow.Author.Tests.{lt-ltb, ne_eqb, leb-true}
use lib.Dec.{eqb, leb, lit<}
use Rattle.frame.specs.Reply.{Reply, refused, accepted}
use Rattle.frame.proofs.BoolLaws.{and_left, and_right, and_intro}
use Rattle.frame.proofs.ReplyLaws.{past_accepted}
use Rattle.text.specs.declared.Class.TheVariants.{WordByte}
use Rattle.text.specs.Class.{is_record_byte, is_text_byte}
use Rattle.text.specs.Bytes.{all}
use Rattle.text.specs.Text.{bytes}
use Rattle.text.proofs.ByteLaws.{all_append, all_weaker}
use Rattle.identifier.specs.Identifier.{name_up_to}
use Rattle.envelope.specs.declared.Layout.{Layout}
use Rattle.envelope.specs.Pieces.{run_of}
use Rattle.envelope.specs.Envelope.{report_class, report_of, sender_of, control_word_of, records_from}
use Rattle.envelope.specs.Written.{Formed, all_records}
use Rattle.envelope.proofs.OpenedLaws.{opened_whole}
use Rattle.envelope.proofs.RecordLaws.{listed_records}
use Rattle.envelope.proofs.WrittenLaws.{read_back}
use Rattle.io.specs.Digits.{last_digits, hex_digit_ascii}
use Rattle.page.specs.Number.{code_text}
use Rattle.texts.specs.Texts.{texts_ok, text_of}
use Rattle.texts.proofs.HandedLaws.{text_bytes}
use Rattle.error_file.specs.ErrorFile.{code_in, code_line, error_lines, error_envelope, error_class, error_for, error_file_of, ErrorReadsBack}
use Rattle.error_file.proofs.ErrorLaws.{date_digits, minute_digits, Free, flaw_free}

-- digits, and bytes of a text, are bytes of a record
other : (b n : ℕ) → (b ≡ n → ⊥) → not (eqb b n) ≡ true
other b n ne = ap not (ne_eqb b n ne)

record_byte : (b : ℕ) → (b ≡ 13 → ⊥) → (b ≡ 10 → ⊥) → (b ≡ 39 → ⊥) → is_record_byte b ≡ true
record_byte b r n a = and_intro (not (eqb b 13) && not (eqb b 10)) _ (and_intro (not (eqb b 13)) _ (other b 13 r) (other b 10 n)) (other b 39 a)

text_record : (b : ℕ) → is_text_byte b ≡ true → is_record_byte b ≡ true
text_record b e =
    let range = and_left (leb 0x20 b && leb b 0x7E) _ e in
    let low = leb-true 0x20 b (and_left (leb 0x20 b) _ range) in
    let none = and_right (leb 0x20 b && leb b 0x7E) _ e in
    and_intro (not (eqb b 13) && not (eqb b 10)) _
    (and_intro (not (eqb b 13)) _ (other b 13 (λ z. omega (arith, z, low))) (other b 10 (λ z. omega (arith, z, low)))) none

glyph_record : (n : ℕ) → is_record_byte (hex_digit_ascii (n % 10)) ≡ true
glyph_record n =
    let small : n % 10 < 10 = mod-lt n (lit< tt) in
    rw (lt-ltb (n % 10) 10 small) (record_byte (48 + n % 10) (λ z. omega (arith, z)) (λ z. omega (arith, z)) (λ z. omega (arith, z)))

digits_record : (k n : ℕ) → all is_record_byte (last_digits 10 k n) ≡ true
unfolding all
digits_record zero n = refl
digits_record (suc k) n =
    all_append is_record_byte (last_digits 10 k (n / 10)) _
    ∙ and_intro _ _ (digits_record k (n / 10)) (and_intro (is_record_byte (hex_digit_ascii (n % 10))) true (glyph_record n) refl)

-- the lines of an error file are in form
module _ (member ours : List ℕ) (lists : texts_ok member && texts_ok ours ≡ true) where
  line_record : (code : ℕ) → all is_record_byte (code_line member ours code) ≡ true
  unfolding code_text all
  line_record code =
      all_append is_record_byte (code_text code ++ bytes "-") (text_of member ours code)
      ∙ and_intro _ _ (all_append is_record_byte (code_text code) (bytes "-") ∙ and_intro (all is_record_byte (code_text code)) _ (digits_record 4 code) refl)
      (all_weaker is_text_byte is_record_byte text_record (text_of member ours code) (text_bytes member ours code lists))

  lines_record : (answers : List ℕ) (k : ℕ) (rs : List (List ℕ)) → all_records rs ≡ true → all_records (error_lines member ours answers k rs) ≡ true
  unfolding error_lines
  lines_record answers k [] f = refl
  lines_record answers k (r ∷ rs) f = go (eqb (code_in answers k) 0) (lines_record answers (suc k) rs (and_right (all is_record_byte r) _ f))
    where
      rest : List (List ℕ)
      rest = error_lines member ours answers (suc k) rs

      go : (none : Bool) → all_records rest ≡ true → all_records (cond none rest (r ∷ code_line member ours (code_in answers k) ∷ rest)) ≡ true
      go true e = e
      go false e =
          and_intro (all is_record_byte r) _ (and_left (all is_record_byte r) _ f)
          (and_intro (all is_record_byte (code_line member ours (code_in answers k))) _ (line_record (code_in answers k)) e)

-- the head of an error file is in form
class_apart : run_of WordByte error_class ≡ 0
unfolding run_of
class_apart = refl

bureau_named : name_up_to 8 (bytes "ATBWA") ≡ true
unfolding name_up_to all
bureau_named = refl

written_same : (s t : List ℕ) → accepted s ≡ accepted t → t ≡ s
written_same s t e = cc

module _ (member ours answers date time report : List ℕ) where
  error_formed : (l : Layout) → report_of report ≡ accepted l → Free member ours answers date time l.records
      → Formed (error_envelope member ours answers date time (sender_of report l) (control_word_of report l) (records_from report l))
  unfolding records_from
  error_formed l e free =
      let whole = opened_whole report_class report l e in
      record {
        sender = bureau_named;
        receiver = whole.named;
        date = date_digits date free.dated;
        time = minute_digits time free.timed;
        word = whole.worded;
        class = class_apart;
        records = lines_record member ours free.lists answers 0 (records_from report l) (listed_records _);
      }

  -- an accepted error file reads back
  pub error_reads_back : (room : ℕ) (text : List ℕ) → error_file_of member ours answers date time report room ≡ accepted text
      → ErrorReadsBack member ours answers date time report text
  unfolding error_file_of
  error_reads_back room text e = go (report_of report) refl (past_accepted _ _ text e).1
    where
      go : (o : Reply Layout) → report_of report ≡ o → error_for member ours answers date time report room o ≡ accepted text
          → ErrorReadsBack member ours answers date time report text
      go (refused n) q f = let z : ◌≡◌ {A = ℕ} 0 1 = cc in absurd (omega arith)
      go (accepted l) q f =
          let (none, fits) = past_accepted _ _ text f in
          let is = (past_accepted _ _ text fits).1 in
          let back = read_back _ (error_formed l q (flaw_free member ours answers date time l.records none)) in
          record {
            layout = l;
            opened = q;
            writes = written_same _ _ is;
            head = back.0;
            body = back.1.0;
            last = back.1.1.0;
            back = back.1.1.1;
          }

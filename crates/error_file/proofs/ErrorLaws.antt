-- Laws of the writer's refusals, of the length of its file, and of what it returns and leaves.
-- Assumes nothing.
use Prim.Native.Nat.{ℕ, ◌+◌, ◌*◌, ◌≤◌, ◌<◌, zero-le}
use native.Mathlib.Nat.{zero-add}
use native.Mathlib.Omega.{arith}
use mathlib.Core.Bool.{Bool, true, false, ◌&&◌, ◌||◌}
use mathlib.Core.List.{List, [], ◌∷◌}
use mathlib.Core.Logic.{◌≢◌}
use mathlib.Core.Path.{◌≡◌, refl, ap, sym, ◌∙◌}
use borrow.Author.Tests.{le-leb, lt-leb, eqb-true, not-true}
use lib.Dec.{eqb, leb}
use lib.ListN.{length, get_or, take, length-take, length-drop}
use Rattle.frame.specs.Every.{every}
use Rattle.frame.specs.Reply.{refused, accepted, unless, first_of}
use Rattle.frame.proofs.BoolLaws.{and_left, and_right}
use Rattle.std.specs.List.{list_all, range_with_len}
use Rattle.std.proofs.lemmas.List.FromFn.{length-range_with_len, get_or-range_with_len}
use lib.Seq.{take_all}
use Rattle.frame.proofs.ListLaws.{list_all_front}
use Rattle.frame.proofs.EveryLaws.{every_at, every_same}
use Rattle.frame.proofs.ReplyLaws.{unless_none, first_none, past_refused, past_none, past_holds, past_fails}
use Rattle.text.specs.Text.{bytes}
use Rattle.calendar.specs.Calendar.{digits_exactly, real_date, real_minute, two_at}
use Rattle.failures.specs.Codes.{is_no_code}
use Rattle.failures.proofs.CodeLaws.{code_known}
use Rattle.answer.specs.Answer.{answer_size}
use Rattle.envelope.specs.declared.Layout.{Layout}
use Rattle.std.specs.Prelude.{Result, Err}
use Rattle.refusal.specs.declared.Refusal.{Refusal}
use Rattle.refusal.specs.Refusal.{number_of}
use Rattle.envelope.specs.Pieces.{between}
use Rattle.envelope.specs.Envelope.{file_limit, report_class, report_of, opened_as, sender_of, control_word_of, records_from}
use Rattle.envelope.specs.Written.{lines_then}
use Rattle.envelope.proofs.OpenedLaws.{Whole, opened_whole}
use Rattle.page.specs.declared.Page.{Page as Lent}
use Rattle.page.specs.Lent.{with_text}
use Rattle.page.specs.Page.{WriteOutcome, write_outcome, wrote_into, fitted}
use Rattle.page.proofs.LentLaws.{with_both}
use Rattle.texts.specs.Texts.{code_count, texts_ok}
use Rattle.texts.specs.Index.{index_of, is_listed}
use Rattle.texts.proofs.IndexLaws.{index_listed, index_holds}
use Rattle.enclosing.specs.Enclosing.{head_text, tail_text}
use Rattle.enclosing.proofs.EnclosingLaws.{written_pieces, written_length}
use Rattle.error_file.specs.ErrorFile.{code_in, known_code, answers_ok, has_text, error_class, error_lines, error_envelope}
use Rattle.error_file.specs.ErrorFile.{error_text, error_flaw, error_for, error_file_of}
use Rattle.error_file.specs.Steps.{is_named, Lined}

-- a test of the numbers below n, in the words of the library
pub every_below : (n : ℕ) (p : ℕ → Bool) → list_all p (range_with_len 0 n) ≡ every n p
every_below n p =
    let size : length (range_with_len 0 n) ≡ n = length-range_with_len 0 n in
    let whole : take n (range_with_len 0 n) ≡ range_with_len 0 n = take_all n (range_with_len 0 n) (omega (arith, size)) in
    let number : (k : ℕ) → k < length (range_with_len 0 n) → p k ≡ p (get_or (range_with_len 0 n) k 0)
    = λ k h. ap p (sym (get_or-range_with_len 0 n k 0 (omega (arith, size)) ∙ zero-add k)) in
    ap (list_all p) (sym whole) ∙ list_all_front p (range_with_len 0 n) 0 p number n (omega (arith, size))

-- the answers of a report have codes of four digits
known_code_lem : (n : ℕ) (answers : List ℕ) → answers_ok n answers ≡ true → (k : ℕ) → k < n → code_in answers k < code_count
unfolding answers_ok
known_code_lem n answers e k h =
    let known = every_at n (known_code answers) (and_right (eqb (length answers) (n * answer_size)) _ e) k h in
    let digits = code_known (code_in answers k) (not-true (is_no_code (code_in answers k)) known) in
    omega (arith, digits)

-- a date and a time are digits, so many as they are
pub date_digits : (s : List ℕ) → real_date s ≡ true → digits_exactly 8 s ≡ true
unfolding real_date
date_digits s e = and_left (digits_exactly 8 s) _ e

pub minute_digits : (s : List ℕ) → real_minute s ≡ true → digits_exactly 4 s ≡ true
unfolding real_minute
minute_digits s e = and_left (digits_exactly 4 s) _ (and_left (digits_exactly 4 s && leb (two_at s 0) 23) _ e)

pub digits_size : (n : ℕ) (s : List ℕ) → digits_exactly n s ≡ true → length s ≡ n
unfolding digits_exactly
digits_size n s e = eqb-true _ _ (and_left (eqb (length s) n) _ e)

-- where the parts of a report lie that was opened
pub report_parts : (report : List ℕ) (l : Layout) → accepted l ≡ report_of report
    → (l.sender ≤ l.sender_end) × (l.sender_end ≤ length report) × (l.word ≤ l.word_end) × (l.word_end ≤ length report)
    × (l.first ≤ l.end) × (l.end ≤ length report)
report_parts report l e =
    let w = opened_whole report_class report l (sym e) in (w.from, w.inside, w.word_order, w.word_within, w.order, w.within)

module _ (member ours answers date time : List ℕ) where
  -- the refusals by the index are those of the lists
  module _ (n : ℕ) where
    abbrev last : List ℕ
    last = unless (real_date date && real_minute time) 18 ∷ []

    named : answers_ok n answers ≡ true → texts_ok member && texts_ok ours ≡ true
        → every n (is_named (index_of member ours) answers) ≡ every n (λ k. has_text member ours (code_in answers k))
    named a t =
        every_same n _ _ (λ k h.
        ap (λ (b : Bool). eqb (code_in answers k) 0 || b) (index_holds member ours (code_in answers k) t (known_code_lem n answers a k h)))

    pub flaw_indexed : first_of
        (unless (answers_ok n answers) 15
        ∷ unless (is_listed (index_of member ours)) 16
        ∷ unless (every n (is_named (index_of member ours) answers)) 17
        ∷ unless (real_date date && real_minute time) 18
        ∷ [])
        ≡ error_flaw member ours answers date time n
    unfolding error_flaw first_of unless
    flaw_indexed = rw (index_listed member ours) (go (answers_ok n answers) (texts_ok member && texts_ok ours) refl refl)
      where
        go : (a t : Bool) → answers_ok n answers ≡ a → texts_ok member && texts_ok ours ≡ t
            → first_of (unless a 15 ∷ unless t 16 ∷ unless (every n (is_named (index_of member ours) answers)) 17 ∷ last)
            ≡ first_of (unless a 15 ∷ unless t 16 ∷ unless (every n (λ k. has_text member ours (code_in answers k))) 17 ∷ last)
        go false t p q = refl
        go true false p q = refl
        go true true p q = ap (λ (b : Bool). first_of (0 ∷ 0 ∷ unless b 17 ∷ last)) (named p q)

    pub flaw_by : {rows : List ℕ} {m : ℕ} → rows ≡ index_of member ours → m ≡ first_of
        (unless (answers_ok n answers) 15
        ∷ unless (is_listed rows) 16
        ∷ unless (every n (is_named rows answers)) 17
        ∷ unless (real_date date && real_minute time) 18
        ∷ [])
        → m ≡ error_flaw member ours answers date time n
    flaw_by e f = f ∙ rw e flaw_indexed

    -- what holds where none of 15 to 18 applies
    pub record Free : Type 0 where
      pub answered : answers_ok n answers ≡ true
      pub lists : texts_ok member && texts_ok ours ≡ true
      pub dated : real_date date ≡ true
      pub timed : real_minute time ≡ true

    pub flaw_free : error_flaw member ours answers date time n ≡ 0 → Free
    unfolding error_flaw
    flaw_free e =
        let (answered, two) = first_none _ _ e in
        let (lists, three) = first_none _ _ two in
        let (there, four) = first_none _ _ three in
        let real = unless_none _ 18 (omega arith) (first_none _ _ four).0 in
        record {
          answered = unless_none _ 15 (omega arith) answered;
          lists = unless_none _ 16 (omega arith) lists;
          dated = and_left (real_date date) _ real;
          timed = and_right (real_date date) _ real;
        }

  -- how long the file is
  pub error_length : (sender word : List ℕ) (rs : List (List ℕ)) → length date ≡ 8 → length time ≡ 4
      → 79 + length sender + 2 * length word + length (lines_then (error_lines member ours answers 0 rs) [])
      ≡ length (error_text member ours answers date time sender word rs)
  error_length sender word rs d t = omega (arith, d, t, written_length (error_envelope member ours answers date time sender word rs))

  -- its head, its lines and its tail, written one behind another
  pub error_written : (sender word : List ℕ) (rs : List (List ℕ)) (o : Lent) {p q r : Lent}
      → p ≡ with_text o (head_text (bytes "ATBWA") sender date time word error_class) → q ≡ with_text p (lines_then (error_lines member ours answers 0 rs) [])
      → r ≡ with_text q (tail_text word) → r ≡ with_text o (error_text member ours answers date time sender word rs)
  error_written sender word rs o e f g =
      g ∙ rw (f, e) (simp with_both (ap (with_text o) (written_pieces (error_envelope member ours answers date time sender word rs))))

  -- The body of a report to which none of them applies.
  pub report_lined : (report : List ℕ) (l : Layout) → Whole report l → length report ≤ file_limit → Free l.records
      → Lined answers (between report l.first l.end) 0 0
  unfolding records_from answers_ok
  report_lined report l whole short free =
      let count : 0 + length (records_from report l) ≡ l.records = zero-add _ ∙ whole.count in
      let known = and_right (eqb (length answers) (l.records * answer_size)) _ free.answered in
      record {
        within = zero-le;
        short = simp (length-take, length-drop) (omega (arith, short));
        whole = whole.counts;
        few = omega (arith, count, whole.few);
        known = ap (λ (n : ℕ). every n (known_code answers)) count ∙ known;
      }

  -- The returns of the writer, on the buffer that it is lent.
  module _ (report out : List ℕ) where
    abbrev due : WriteOutcome
    due = wrote_into out (error_file_of member ours answers date time report (length out))

    pub error_long : file_limit < length report → write_outcome (refused 1) out ≡ due
    unfolding error_file_of wrote_into
    error_long h = rw (past_fails 1 (error_for member ours answers date time report (length out) (report_of report)) (omega arith) (lt-leb _ _ h)) refl

    module _ (short : length report ≤ file_limit) where
      read_on : error_file_of member ours answers date time report (length out)
          ≡ error_for member ours answers date time report (length out) (report_of report)
      unfolding error_file_of
      read_on = past_holds 1 _ (le-leb _ _ short)

      pub error_unopened : {o : Result Layout Refusal} {why : Refusal} → opened_as o ≡ report_of report → o ≡ Err why
          → write_outcome (refused (number_of why)) out ≡ due
      unfolding wrote_into
      error_unopened q e = rw (read_on, ← q, e) refl

      module _ (l : Layout) (e : report_of report ≡ accepted l) where
        pub error_flawed : {n : ℕ} → n ≡ error_flaw member ours answers date time l.records → n ≢ 0 → write_outcome (refused n) out ≡ due
        unfolding wrote_into
        error_flawed f ne = rw (read_on, e, ← f, past_refused _ (fitted (length out) _) ne) refl

        pub error_on : {w : WriteOutcome} → error_flaw member ours answers date time l.records ≡ 0
            → w ≡ wrote_into out (fitted (length out)
            (error_text member ours answers date time (sender_of report l) (control_word_of report l) (records_from report l)))
            → w ≡ due
        error_on z f = f ∙ sym (rw (read_on, e, past_none _ _ z) refl)

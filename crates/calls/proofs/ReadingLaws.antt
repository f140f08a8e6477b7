-- Laws of what a file call comes to before any record is judged: its refusals in their order, and that no call which a file stands for is refused.
-- Assumes nothing.
use Prim.Native.Nat.{ℕ, ◌*◌, ◌≤◌, ◌<◌}
use native.Mathlib.Omega.{arith}
use mathlib.Core.List.{List, []}
use mathlib.Core.Logic.{◌≢◌}
use mathlib.Core.Path.{◌≡◌, refl, ap, sym, ◌∙◌}
use borrow.Author.Tests.{le-leb, lt-leb, leb-true}
use lib.ListN.{length, length-take, length-drop, length-map}
use Rattle.frame.specs.Reply.{Reply, refused, accepted, refusal_in}
use Rattle.frame.proofs.ReplyLaws.{unless_holds, unless_none, unless_never, first_passes, first_end, first_none, end_never, first_never}
use Rattle.frame.proofs.ReplyLaws.{past_refused, past_none, past_accepted, past_never, past_holds, past_fails, Numbered, accepted_numbered, past_numbered}
use Rattle.tables.specs.Tables.{Tables, tables_flaw}
use Rattle.tables.proofs.FlawLaws.{tables_never}
use Rattle.ledger.specs.Sound.{ledger_flaw}
use Rattle.answer.specs.Answer.{answer_size}
use Rattle.envelope.specs.declared.Layout.{Layout}
use Rattle.envelope.specs.Pieces.{between}
use Rattle.envelope.specs.Envelope.{file_limit, report_class, report_of, sender_of, records_from}
use Rattle.envelope.proofs.OpenedLaws.{Whole, opened_whole, refused_from_five}
use Rattle.calls.specs.Call.{Call, called, record_limit}
use Rattle.calls.specs.Filing.{lent_refusal, report_calls, opened_reading, reading_of, FileOutcome, file_outcome, carried_out, file_of}
use Rattle.calls.specs.FileSteps.{calls_from, Admitted, Open}
use Rattle.calls.proofs.RecordLaws.{body_admitted}

module _ (tables : Tables) (file : List ℕ) (held : ℕ) where
  -- none of refusals 1 to 4 applies
  pub lent_none : length file ≤ file_limit → tables_flaw tables ≡ 0 → held ≡ 0 → 0 ≡ lent_refusal tables file held
  unfolding lent_refusal
  lent_none h lent kept = first_passes _ (unless_holds 1 (le-leb _ _ h)) (first_passes _ lent (first_passes [] kept first_end))

  -- what holds of a file to which none of them applies
  pub record Lent : Type 0 where
    pub short : length file ≤ file_limit
    pub lent : tables_flaw tables ≡ 0
    pub kept : held ≡ 0

  pub lent_ok : lent_refusal tables file held ≡ 0 → Lent
  unfolding lent_refusal
  lent_ok e =
      let (short, others) = first_none _ _ e in
      let (lent, last) = first_none _ _ others in
      record { short = leb-true _ _ (unless_none _ 1 (omega arith) short); lent = lent; kept = (first_none _ [] last).0 }

  -- a file call is refused by them, or read on
  pub reading_lent : {n : ℕ} (room : ℕ) → n ≡ lent_refusal tables file held → n ≢ 0 → reading_of tables file room held ≡ refused n
  unfolding reading_of
  reading_lent room e ne = rw (← e) (past_refused _ _ ne)

  pub reading_on : (room : ℕ) → lent_refusal tables file held ≡ 0 → reading_of tables file room held ≡ opened_reading file room (report_of file)
  unfolding reading_of
  reading_on room e = past_none _ _ e

-- A report to which none of them applies: its body, whose records are all in form, and the calls that it stands for.
module _ (tables : Tables) (file : List ℕ) (held : ℕ) (free : Lent tables file held) (l : Layout) (e : report_of file ≡ accepted l) where
  abbrev body : List ℕ
  body = between file l.first l.end

  whole : Whole file l
  whole = opened_whole report_class file l e

  pub report_calls_lem : calls_from (sender_of file l) body 0 ≡ report_calls file l
  unfolding report_calls records_from
  report_calls_lem = refl

  pub report_admitted : Admitted tables (calls_from (sender_of file l) body 0)
  unfolding records_from
  report_admitted =
      let short : length body ≤ record_limit = (let h = free.short in simp (length-take, length-drop) (omega arith)) in
      body_admitted tables (sender_of file l) free.lent whole.named body short

  pub report_open : (m a : List ℕ) → ledger_flaw m ≡ 0 → l.records * answer_size ≤ length a → Open tables (sender_of file l) body l.records 0 0 m a
  unfolding records_from
  report_open m a h room =
      let count : length (calls_from (sender_of file l) body 0) ≡ l.records = length-map (records_from file l) (called (sender_of file l)) ∙ whole.count in
      record { whole = whole.counts; counted = omega arith; admitted = report_admitted; in_order = h; room = room }

-- no call that a file stands for is refused
module _ (tables : Tables) (file : List ℕ) (room : ℕ) (calls : List Call) where
  opened_admitted : Lent tables file 0 → (o : Reply Layout) → report_of file ≡ o → opened_reading file room o ≡ accepted calls → Admitted tables calls
  opened_admitted free (refused n) q h = let z : ◌≡◌ {A = ℕ} 0 1 = cc in absurd (omega arith)
  opened_admitted free (accepted l) q h =
      let told : accepted (report_calls file l) ≡ accepted calls = (past_accepted _ _ calls h).1 in
      let same : report_calls file l ≡ calls = cc in
      rw (← same, ← report_calls_lem tables file 0 free l q) (report_admitted tables file 0 free l q)

  pub standing_admitted : reading_of tables file room 0 ≡ accepted calls → Admitted tables calls
  unfolding reading_of
  standing_admitted e =
      let (lent, opened) = past_accepted _ _ calls e in
      opened_admitted (lent_ok tables file 0 lent) (report_of file) refl opened

-- a file is refused by a number, and not by 0
pub reading_numbered : (tables : Tables) (file : List ℕ) (room held : ℕ) → Numbered (reading_of tables file room held)
unfolding reading_of
reading_numbered tables file room held = past_numbered _ _ (opened (report_of file) refl)
  where
    opened : (o : Reply Layout) → report_of file ≡ o → Numbered (opened_reading file room o)
    opened (refused m) q n e = let here : m ≡ n = cc in let five = refused_from_five report_class file m q in omega arith
    opened (accepted l) q n e = past_numbered _ _ (accepted_numbered (report_calls file l)) n e

-- on a sound ledger no file is refused by 4
lent_never_four : (tables : Tables) (file : List ℕ) → lent_refusal tables file 0 ≢ 4
unfolding lent_refusal
lent_never_four tables file =
    first_never 4 _ _ (unless_never _ 1 4 (omega arith) (omega arith))
    (first_never 4 _ _ (tables_never tables 4 (omega arith)) (first_never 4 0 [] (omega arith) (end_never 4 (omega arith))))

pub reading_never_four : (tables : Tables) (file : List ℕ) (room : ℕ) → refusal_in (reading_of tables file room 0) ≢ 4
unfolding reading_of
reading_never_four tables file room = past_never _ _ 4 (lent_never_four tables file) (opened (report_of file) refl)
  where
    opened : (o : Reply Layout) → report_of file ≡ o → refusal_in (opened_reading file room o) ≢ 4
    opened (refused m) q = let five = refused_from_five report_class file m q in omega arith
    opened (accepted l) q = past_never _ _ 4 (unless_never _ 12 4 (omega arith) (omega arith)) (omega arith)

-- an opened report is whole
pub report_whole : (file : List ℕ) (l : Layout) → accepted l ≡ report_of file → Whole file l
report_whole file l e = opened_whole report_class file l (sym e)

-- The returns of the file call, on the ledger and the buffer that it is lent.
module _ (tables : Tables) (file l a : List ℕ) where
  pub file_lent : {n : ℕ} → n ≡ lent_refusal tables file (ledger_flaw l) → n ≢ 0 → file_outcome (refused n) l a ≡ file_of tables file l a
  unfolding file_of carried_out
  file_lent e ne = rw (reading_lent tables file (ledger_flaw l) (length a) e ne)

  module _ (free : lent_refusal tables file (ledger_flaw l) ≡ 0) where
    pub file_unopened : {r : ℕ} → refused r ≡ report_of file → file_outcome (refused r) l a ≡ file_of tables file l a
    unfolding file_of carried_out
    file_unopened q = rw (reading_on tables file (ledger_flaw l) (length a) free, ← q)

    module _ {y : Layout} (q : accepted y ≡ report_of file) where
      found : report_of file ≡ accepted y
      found = sym q

      pub file_full : length a < y.records * answer_size → file_outcome (refused 12) l a ≡ file_of tables file l a
      unfolding file_of carried_out
      file_full h =
          rw (reading_on tables file (ledger_flaw l) (length a) free, found, past_fails 12 (accepted (report_calls file y)) (omega arith) (lt-leb _ _ h)) refl

      abbrev ok : Lent tables file (ledger_flaw l)
      ok = lent_ok tables file (ledger_flaw l) free

      abbrev body_of : List ℕ
      body_of = between file y.first y.end

      pub file_open : y.records * answer_size ≤ length a → Open tables (sender_of file y) body_of y.records 0 0 l a
      file_open h = report_open tables file (ledger_flaw l) ok y found l a ok.kept h

      pub file_taken : {w : FileOutcome} → y.records * answer_size ≤ length a
          → w ≡ carried_out tables (accepted (calls_from (sender_of file y) body_of 0)) l a → w ≡ file_of tables file l a
      unfolding file_of
      file_taken h t =
          t ∙ rw (reading_on tables file (ledger_flaw l) (length a) free, found, past_holds 12 (accepted (report_calls file y)) (le-leb _ _ h))
          (ap (λ (calls : List Call). carried_out tables (accepted calls) l a) (report_calls_lem tables file (ledger_flaw l) ok y found))

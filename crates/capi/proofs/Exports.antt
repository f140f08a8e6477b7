-- Demand 3 of document 01 for the exported calls: one theorem about every list of them, refused ones included, those by 12 too.
-- Assumes nothing.
use Prim.Native.Nat.{ℕ}
use native.Mathlib.Omega.{arith}
use mathlib.Core.Bool.{Bool, true, false, not, cond}
use mathlib.Core.List.{List, [], ◌∷◌, ◌++◌, append-nil, map}
use mathlib.Core.Logic.{◌≢◌}
use mathlib.Core.Path.{◌≡◌, refl, ap, sym, ◌∙◌, subst}
use borrow.Author.Tests.{eqb-true, eqb-false, ne_eqb}
use lib.Dec.{eqb, ltb}
use lib.ListN.{length, drop}
use lib.Seq.{take_at}
use Rattle.frame.specs.Reply.{Reply, refused, accepted, refusal_in}
use Rattle.frame.specs.Isolation.{Outcome, single}
use Rattle.frame.specs.Earlier.{WithEarlier}
use Rattle.frame.proofs.BoolLaws.{and_intro}
use Rattle.frame.proofs.Consequences.{Decided, single_decided}
use Rattle.frame.proofs.ReplyLaws.{map_refusal, map_numbered}
use Rattle.text.specs.Bytes.{all}
use Rattle.tables.specs.Tables.{Tables}
use Rattle.ledger.specs.Sound.{sound_ledger, ledger_flaw}
use Rattle.ledger.proofs.LedgerLaws.{flaw_none}
use Rattle.answer.specs.Answer.{answer_size}
use Rattle.calls.specs.Call.{Call, called, refusal_of}
use Rattle.calls.specs.Judging.{booking, booking_rules, in_a_row}
use Rattle.calls.specs.Filing.{FileOutcome, reading_of, answers_in, file_of}
use Rattle.calls.specs.Mixed.{Request, record_call, book_call, request_store, request_answers, store_over, answers_over}
use Rattle.calls.proofs.CallLaws.{refusal_never_four}
use Rattle.calls.proofs.JudgingLaws.{in_a_row_lem, row_decided, booking_never_four}
use Rattle.calls.proofs.ListLaws.{single_answered, booking_answered}
use Rattle.calls.proofs.ReadingLaws.{reading_numbered, reading_never_four}
use Rattle.calls.proofs.Files.{demand3_files, file_told, over_append, over_in_order}
use Rattle.capi.specs.Exported.{single_export, file_export}
use Rattle.capi.specs.Exports.{Export, record_exported, book_exported, file_exported, one_answer, export_of, export_answers, store_through, answers_through}
use Rattle.capi.specs.Exports.{replies_through, export_requests, requests_over, short_or, sound_number, ExportsIsolated}
use Rattle.capi.proofs.ExportLaws.{file_kept}

module _ (tables : Tables) where
  -- an exported call leaves and answers what the requests do that it stands for, and returns what it returns on every sound ledger
  record Same (x : Export) (l : List ℕ) : Type 0 where
    store : (export_of tables x l).store ≡ store_over tables (export_requests tables x) l
    answers : export_answers tables x l ≡ answers_over tables (export_requests tables x) l
    number : (export_of tables x l).reply ≡ sound_number tables x

  -- a call of one record that comes to an outcome by its number, the same on every sound ledger, and stands for a request that comes to that outcome too
  module _ (x : Export) (q : Request) (a l : List ℕ) (number : ℕ) (o : Outcome (List ℕ) (List ℕ)) (decided : Decided number o l)
      (exports : export_of tables x l ≡ single_export o l a) (answer : export_answers tables x l ≡ one_answer (single_export o l a))
      (stands : export_requests tables x ≡ cond (ltb (length a) answer_size) [] (q ∷ [])) (told : sound_number tables x ≡ short_or tables a number)
      (left : request_store tables q l ≡ o.store) (answered : request_answers tables q l ≡ answers_in (o.reply ∷ []))
      (sized : number ≡ 0 → length (answers_in (o.reply ∷ [])) ≡ answer_size) where
    single_same : Same x l
    unfolding single_export answers_in
    single_same = go (ltb (length a) answer_size) (eqb number 0) refl refl
      where
        go : (short free : Bool) → ltb (length a) answer_size ≡ short → eqb number 0 ≡ free → Same x l
        go true true p f =
            let w = (decided.answers (eqb-true _ _ f)).1 in
            record { store = rw (exports, w, stands, p) refl; answers = rw (answer, w, stands, p) refl; number = rw (exports, w, told, p, f) refl }
        go false true p f =
            let w = decided.answers (eqb-true _ _ f) in
            let long : length w.0 ≡ answer_size = rw (w.1, append-nil) at (sized (eqb-true _ _ f)) in
            record {
              store = rw (exports, w.1, stands, p) (sym left);
              answers =
                  rw (answer, w.1, stands, p, answered, w.1)
                  (take_at w.0 (drop answer_size a) answer_size long ∙ sym (append-nil (w.0 ++ []) ∙ append-nil w.0));
              number = rw (exports, w.1, told, p) (sym (eqb-true _ _ f));
            }
        go true false p f =
            let no = decided.refuses (eqb-false _ _ f) in
            record { store = rw (exports, no, stands, p) refl; answers = rw (answer, no, stands, p, f) refl; number = rw (exports, no, told, p, f) refl }
        go false false p f =
            let no = decided.refuses (eqb-false _ _ f) in
            record {
              store = rw (exports, no, stands, p) (sym (left ∙ ap (λ (u : Outcome (List ℕ) (List ℕ)). u.store) no));
              answers = rw (answer, no, stands, p, f, answered, no) refl;
              number = rw (exports, no, told, p) refl;
            }

  file_same : (file a l : List ℕ) (word : ℕ) → ledger_flaw l ≡ 0 → Same (file_exported file a word) l
  unfolding file_export
  file_same file a l word h = go (file_of tables file l a).reply refl
    where
      told : refusal_in (file_of tables file l a).reply ≡ refusal_in (reading_of tables file (length a) 0)
      told =
          ap refusal_in (file_told tables file l a)
          ∙ map_refusal length (reading_of tables file (length a) (ledger_flaw l))
          ∙ ap (λ (n : ℕ). refusal_in (reading_of tables file (length a) n)) h

      go : (r : Reply ℕ) → (file_of tables file l a).reply ≡ r → Same (file_exported file a word) l
      go (refused n) e =
          let kept = file_kept tables file l a n e in
          let numbered = map_numbered length _ (reading_numbered tables file (length a) (ledger_flaw l)) n (sym (file_told tables file l a) ∙ e) in
          record {
            store = rw e (sym (ap (λ (o : FileOutcome). o.store) kept));
            answers = rw (e, ne_eqb n 0 numbered) refl;
            number = rw e (ap refusal_in (sym e) ∙ told);
          }
      go (accepted k) e = record { store = rw e refl; answers = rw (e, append-nil) refl; number = rw e (ap refusal_in (sym e) ∙ told) }

  export_same : (x : Export) (l : List ℕ) → ledger_flaw l ≡ 0 → Same x l
  export_same (record_exported sender s a) l h =
      let call : Call = called sender s in
      let number = ap (refusal_of tables call) h in
      let same = in_a_row_lem tables call l in
      single_same (record_exported sender s a) (record_call call) a l (refusal_of tables call 0) (in_a_row tables call l)
      (subst (λ (n : ℕ). Decided n (in_a_row tables call l) l) number (row_decided tables call l)) refl refl refl refl refl refl
      (λ free. rw same (single_answered tables call l (number ∙ free)))
  export_same (book_exported sender s earlier a) l h =
      let b : WithEarlier Call = booking (called sender s) earlier in
      let number = ap ((booking_rules tables).refusal b) h in
      single_same (book_exported sender s earlier a) (book_call b) a l ((booking_rules tables).refusal b 0) (single (booking_rules tables) b l)
      (subst (λ (n : ℕ). Decided n (single (booking_rules tables) b l) l) number (single_decided (booking_rules tables) b l)) refl refl refl refl refl refl
      (λ free. booking_answered tables b l (number ∙ free))
  export_same (file_exported file a word) l h = file_same file a l word h

  export_in_order : (x : Export) (l : List ℕ) → ledger_flaw l ≡ 0 → ledger_flaw (export_of tables x l).store ≡ 0
  export_in_order x l h = ap ledger_flaw (export_same x l h).store ∙ over_in_order tables (export_requests tables x) l h

  -- and so does a list of them
  through : (xs : List Export) (l : List ℕ) → ledger_flaw l ≡ 0 → (store_through tables xs l ≡ store_over tables (requests_over tables xs) l)
      × (answers_through tables xs l ≡ answers_over tables (requests_over tables xs) l) × (replies_through tables xs l ≡ map (sound_number tables) xs)
  through [] l h = (refl, refl, refl)
  through (x ∷ xs) l h =
      let one = export_same x l h in
      let rest = through xs (export_of tables x l).store (export_in_order x l h) in
      let qs : List Request = requests_over tables xs in
      let joined = over_append tables (export_requests tables x) qs l in (
        rest.0 ∙ ap (store_over tables qs) one.store ∙ sym joined.0,
        (λ i. one.answers i ++ (rest.1 ∙ ap (answers_over tables qs) one.store) i) ∙ sym joined.1,
        (λ i. one.number i ∷ rest.2 i),
      )

  short_never_four : (a : List ℕ) (n : ℕ) → n ≢ 4 → short_or tables a n ≢ 4
  short_never_four a n = go (ltb (length a) answer_size) (eqb n 0)
    where
      go : (short free : Bool) → n ≢ 4 → cond short (cond free 12 n) n ≢ 4
      go true true h = omega arith
      go true false h = h
      go false free h = h

  number_never_four : (x : Export) → sound_number tables x ≢ 4
  number_never_four (record_exported sender s a) = short_never_four a _ (refusal_never_four tables (called sender s))
  number_never_four (book_exported sender s earlier a) = short_never_four a _ (booking_never_four tables (booking (called sender s) earlier))
  number_never_four (file_exported file a word) = reading_never_four tables file (length a)

  never_four_lem : (xs : List Export) → all (λ n. not (eqb n 4)) (map (sound_number tables) xs) ≡ true
  unfolding all
  never_four_lem [] = refl
  never_four_lem (x ∷ xs) = and_intro _ _ (ap not (ne_eqb _ 4 (number_never_four x))) (never_four_lem xs)

  -- For every pair of tables, every list of exported calls, refused ones included, and every sound ledger: a call of one record whose buffer is too short is
  -- no step, and of the others demand 3 holds.
  pub demand3_exports : (xs : List Export) (l : List ℕ) → sound_ledger l ≡ true → ExportsIsolated tables xs l
  demand3_exports xs l h =
      let All-same = through xs l (flaw_none l h) in
      record {
        same_store = All-same.0;
        same_answers = All-same.1;
        same_replies = All-same.2;
        never_four = rw All-same.2 (never_four_lem xs);
        isolated = demand3_files tables (requests_over tables xs) l h;
      }

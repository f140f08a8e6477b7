-- Demand 3 of document 01 with files: one theorem about every list of single-record calls, booking calls and file calls, in any mix.
-- Assumes nothing.
use Prim.Native.Nat.{ℕ, ◌*◌}
use native.Mathlib.Omega.{arith}
use mathlib.Core.Bool.{Bool, true, false, not, cond}
use mathlib.Core.List.{List, [], ◌∷◌, ◌++◌, append_assoc, map}
use mathlib.Core.Logic.{◌≢◌}
use mathlib.Core.Path.{◌≡◌, refl, ap, sym, ◌∙◌}
use lib.Dec.{eqb}
use lib.ListN.{length}
use lib.Seq.{take_at}
use borrow.Author.Tests.{ne_eqb}
use Rattle.frame.specs.Reply.{Reply, refused, accepted, refusal_in, map_reply, past}
use Rattle.frame.specs.Isolation.{Outcome, single, replies, store_after}
use Rattle.frame.specs.Earlier.{WithEarlier}
use Rattle.frame.proofs.BoolLaws.{and_intro}
use Rattle.frame.proofs.ReplyLaws.{past_never, map_refusal}
use Rattle.frame.proofs.Consequences.{answered_once, after_append, replies_append}
use Rattle.text.specs.Bytes.{all}
use Rattle.tables.specs.Tables.{Tables}
use Rattle.ledger.specs.Sound.{sound_ledger, ledger_flaw}
use Rattle.ledger.proofs.LedgerLaws.{flaw_none}
use Rattle.answer.specs.Answer.{answer_size}
use Rattle.calls.specs.Call.{Call, refusal_of}
use Rattle.calls.specs.Rules.{rules}
use Rattle.calls.specs.Judging.{earlier_fits, booking_rules}
use Rattle.calls.specs.Filing.{reading_of, answers_in, carried_out, file_of}
use Rattle.calls.specs.Mixed.{Request, record_call, book_call, file_call, answers_of, request_store, request_answers, request_reply}
use Rattle.calls.specs.Mixed.{store_over, answers_over, replies_over, calls_of, request_calls, calls_over, sound_reply, FilesIsolated}
use Rattle.calls.proofs.CallLaws.{refusal_never_four}
use Rattle.calls.proofs.Demand3.{demand3}
use Rattle.calls.proofs.JudgingLaws.{in_a_row_lem, in_a_row_replies, in_a_row_ledger, booking_fits, booking_unfit, booking_never_four}
use Rattle.calls.proofs.ListLaws.{answers_append, after_in_order, answers_sized}
use Rattle.calls.proofs.ReadingLaws.{standing_admitted, reading_never_four}

module _ (tables : Tables) where
  -- a booking leaves and answers what its call does where the earlier answer fits, else nothing
  booking_stands : (b : WithEarlier Call) (l : List ℕ) → let calls = request_calls tables (book_call b) in
      ((single (booking_rules tables) b l).store ≡ store_after (rules tables) calls l)
      × (answers_in ((single (booking_rules tables) b l).reply ∷ []) ≡ answers_in (replies (rules tables) calls l))
  unfolding answers_in
  booking_stands b l = go (earlier_fits tables b.call b.earlier) refl
    where
      go : (f : Bool) → earlier_fits tables b.call b.earlier ≡ f → let calls : List Call = cond f (b.call ∷ []) [] in
          ((single (booking_rules tables) b l).store ≡ store_after (rules tables) calls l)
          × (answers_in ((single (booking_rules tables) b l).reply ∷ []) ≡ answers_in (replies (rules tables) calls l))
      go true e = rw (booking_fits tables b l e) (refl, refl)
      go false e = rw (booking_unfit tables b l e) (refl, refl)

  -- a request leaves and answers what the calls do that it stands for
  request_store_lem : (q : Request) (l : List ℕ) → ledger_flaw l ≡ 0 → request_store tables q l ≡ store_after (rules tables) (request_calls tables q) l
  unfolding file_of carried_out
  request_store_lem (record_call c) l h = ap (λ (o : Outcome (List ℕ) (List ℕ)). o.store) (in_a_row_lem tables c l)
  request_store_lem (book_call b) l h = (booking_stands b l).0
  request_store_lem (file_call file a) l h =
      ap (λ (n : ℕ). (carried_out tables (reading_of tables file (length a) n) l a).store) h
      ∙ go (reading_of tables file (length a) 0)
    where
      go : (w : Reply (List Call)) → (carried_out tables w l a).store ≡ store_after (rules tables) (calls_of tables w) l
      go (refused n) = refl
      go (accepted calls) = in_a_row_ledger tables calls l

  request_answers_lem : (q : Request) (l : List ℕ) → ledger_flaw l ≡ 0 → request_answers tables q l ≡ answers_in (replies (rules tables) (request_calls tables q) l)
  unfolding file_of carried_out answers_in
  request_answers_lem (record_call c) l h = ap (λ (o : Outcome (List ℕ) (List ℕ)). answers_in (o.reply ∷ [])) (in_a_row_lem tables c l)
  request_answers_lem (book_call b) l h = (booking_stands b l).1
  request_answers_lem (file_call file a) l h =
      ap (λ (n : ℕ). answers_of (carried_out tables (reading_of tables file (length a) n) l a)) h
      ∙ go (reading_of tables file (length a) 0) refl
    where
      go : (w : Reply (List Call)) → reading_of tables file (length a) 0 ≡ w
          → answers_of (carried_out tables w l a) ≡ answers_in (replies (rules tables) (calls_of tables w) l)
      go (refused n) e = refl
      go (accepted calls) e =
          rw (in_a_row_replies tables calls l)
          (take_at (answers_in (replies (rules tables) calls l)) _ (length calls * answer_size)
          (answers_sized tables calls l (standing_admitted tables file (length a) calls e) h))

  -- and so does a list of them
  store_over_lem : (qs : List Request) (l : List ℕ) → ledger_flaw l ≡ 0 → store_over tables qs l ≡ store_after (rules tables) (calls_over tables qs) l
  store_over_lem [] l h = refl
  store_over_lem (q ∷ qs) l h =
      let calls : List Call = request_calls tables q in
      ap (store_over tables qs) (request_store_lem q l h)
      ∙ store_over_lem qs (store_after (rules tables) calls l) (after_in_order tables calls l h)
      ∙ sym (after_append (rules tables) calls (calls_over tables qs) l)

  answers_over_lem : (qs : List Request) (l : List ℕ) → ledger_flaw l ≡ 0 → answers_over tables qs l ≡ answers_in (replies (rules tables) (calls_over tables qs) l)
  unfolding answers_in
  answers_over_lem [] l h = refl
  answers_over_lem (q ∷ qs) l h =
      let calls : List Call = request_calls tables q in
      let rest : List Call = calls_over tables qs in
      let next : List ℕ = store_after (rules tables) calls l in
      (λ i. request_answers_lem q l h i ++ answers_over tables qs (request_store_lem q l h i))
      ∙ ap (λ (w : List ℕ). answers_in (replies (rules tables) calls l) ++ w)
      (answers_over_lem qs next (after_in_order tables calls l h))
      ∙ sym (answers_append (replies (rules tables) calls l) (replies (rules tables) rest next))
      ∙ ap answers_in (sym (replies_append (rules tables) calls rest l))

  -- a file call returns the number of its refusal, or how many calls it stands for
  pub file_told : (file l a : List ℕ) → (file_of tables file l a).reply ≡ map_reply length (reading_of tables file (length a) (ledger_flaw l))
  unfolding file_of carried_out
  file_told file l a = go (reading_of tables file (length a) (ledger_flaw l))
    where
      go : (w : Reply (List Call)) → (carried_out tables w l a).reply ≡ map_reply length w
      go (refused n) = refl
      go (accepted calls) = refl

  -- on a ledger in order a request returns what it returns on every other
  request_reply_lem : (q : Request) (l : List ℕ) → ledger_flaw l ≡ 0 → request_reply tables q l ≡ sound_reply tables q
  request_reply_lem (record_call c) l h =
      ap (λ (o : Outcome (List ℕ) (List ℕ)). map_reply (λ a. 1) o.reply) (in_a_row_lem tables c l)
      ∙ answered_once (rules tables) c l
      ∙ ap (λ (n : ℕ). past (refusal_of tables c n) (accepted 1)) h
  request_reply_lem (book_call b) l h =
      answered_once (booking_rules tables) b l ∙ ap (λ (n : ℕ). past ((booking_rules tables).refusal b n) (accepted 1)) h
  request_reply_lem (file_call file a) l h = file_told file l a ∙ ap (λ (n : ℕ). map_reply length (reading_of tables file (length a) n)) h

  replies_over_lem : (qs : List Request) (l : List ℕ) → ledger_flaw l ≡ 0 → replies_over tables qs l ≡ map (sound_reply tables) qs
  replies_over_lem [] l h = refl
  replies_over_lem (q ∷ qs) l h =
      let calls : List Call = request_calls tables q in
      let next : ledger_flaw (request_store tables q l) ≡ 0 = ap ledger_flaw (request_store_lem q l h) ∙ after_in_order tables calls l h in
      rw (request_reply_lem q l h, replies_over_lem qs _ next) refl

  -- and that is never a refusal by 4
  sound_never_four : (q : Request) → refusal_in (sound_reply tables q) ≢ 4
  sound_never_four (record_call c) = past_never _ _ 4 (refusal_never_four tables c) (omega arith)
  sound_never_four (book_call b) = past_never _ _ 4 (booking_never_four tables b) (omega arith)
  sound_never_four (file_call file a) =
      λ e. reading_never_four tables file (length a) (sym (map_refusal length (reading_of tables file (length a) 0)) ∙ e)

  never_four_lem : (qs : List Request) → all (λ n. not (eqb n 4)) (map refusal_in (map (sound_reply tables) qs)) ≡ true
  unfolding all
  never_four_lem [] = refl
  never_four_lem (q ∷ qs) = and_intro _ _ (ap not (ne_eqb _ 4 (sound_never_four q))) (never_four_lem qs)

  -- For every pair of tables, every list of calls, bookings and files, refused ones included, and every sound ledger: a booking whose earlier answer fits is
  -- its call, a file is its records called singly, in order, by its sender; and each bank's answers and compartment are those of its lone copy.
  pub demand3_files : (qs : List Request) (l : List ℕ) → sound_ledger l ≡ true → FilesIsolated tables qs l
  demand3_files qs l h =
      record {
        same_store = store_over_lem qs l (flaw_none l h);
        same_answers = answers_over_lem qs l (flaw_none l h);
        same_replies = replies_over_lem qs l (flaw_none l h);
        never_four = rw (replies_over_lem qs l (flaw_none l h)) (never_four_lem qs);
        isolated = demand3 tables (calls_over tables qs) l h;
      }

  -- two lists of requests in a row; and a list leaves a ledger in order
  pub over_append : (ps qs : List Request) (l : List ℕ) → (store_over tables (ps ++ qs) l ≡ store_over tables qs (store_over tables ps l))
      × (answers_over tables (ps ++ qs) l ≡ answers_over tables ps l ++ answers_over tables qs (store_over tables ps l))
  over_append [] qs l = (refl, refl)
  over_append (p ∷ ps) qs l =
      let rest = over_append ps qs (request_store tables p l) in
      (rest.0, ap (λ (w : List ℕ). request_answers tables p l ++ w) rest.1 ∙ sym (append_assoc (request_answers tables p l) _ _))

  pub over_in_order : (qs : List Request) (l : List ℕ) → ledger_flaw l ≡ 0 → ledger_flaw (store_over tables qs l) ≡ 0
  over_in_order qs l h = ap ledger_flaw (store_over_lem qs l h) ∙ after_in_order tables (calls_over tables qs) l h

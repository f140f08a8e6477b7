-- Laws of judging and booking (document 02, Item 5): the answer of a judging fits its record, so that the old call is the two in a row; and a list of calls
-- whose earlier answers were judged on another ledger leaves what the calls themselves leave.
-- Assumes nothing.
use Prim.Native.Nat.{ℕ}
use native.Mathlib.Omega.{arith}
use mathlib.Core.Bool.{Bool, true, false}
use mathlib.Core.List.{List, [], ◌∷◌, map}
use mathlib.Core.Logic.{◌≢◌}
use mathlib.Core.Path.{◌≡◌, refl, ap, sym, ◌∙◌}
use borrow.Author.Tests.{eqb-true, eqb-false, eq-eqb, ne_eqb}
use lib.Dec.{eqb}
use lib.ListN.{length}
use Rattle.frame.specs.Reply.{refused, accepted}
use Rattle.frame.specs.Isolation.{Outcome, single, replies, store_after}
use Rattle.frame.specs.Earlier.{WithEarlier, earlier_refusal, AllFit}
use Rattle.frame.proofs.BoolLaws.{and_intro, and_goes}
use Rattle.frame.proofs.Isolation.{single_refused}
use Rattle.frame.proofs.Consequences.{Decided, single_decided}
use Rattle.frame.proofs.EarlierLaws.{earlier_first, earlier_unfit, earlier_none, earlier_refuses, earlier_fits_lem, fit_store, fit_replies}
use Rattle.frame.proofs.ReplyLaws.{unless_none, unless_never, first_none, end_never, first_never}
use Rattle.failures.specs.declared.Failures.{Failures}
use Rattle.failures.specs.Failures.{same_set, before_booking}
use Rattle.failures.proofs.FailureLaws.{same_self}
use Rattle.fields.specs.Fields.{is_whole, field_of}
use Rattle.tables.specs.Currencies.{is_money}
use Rattle.tables.specs.Tables.{Tables}
use Rattle.ledger.specs.Sound.{compartment, ledger_flaw, sound_ledger}
use Rattle.ledger.proofs.LedgerLaws.{flaw_none}
use Rattle.std.specs.Prelude.{Result, Ok, Err}
use Rattle.sender.proofs.SenderLaws.{failed_before}
use Rattle.checks.proofs.VerdictLaws.{record_before, failures_before, failures_small}
use Rattle.answer.specs.declared.Answer.{Answer}
use Rattle.answer.specs.Answer.{answer_size, answer_bytes, answer_at}
use Rattle.answer.proofs.AnswerLaws.{answer_length, set_read}
use Rattle.calls.specs.declared.judging.Formal.{Formal}
use Rattle.calls.specs.declared.judging.Foreseen.{Foreseen}
use Rattle.calls.specs.CallSteps.{foreseen_of, foreseen_by}
use Rattle.calls.specs.Call.{Call, refusal_of, checked_of, formal_of, answer_of, step_failures, step_answer}
use Rattle.calls.specs.Rules.{rules}
use Rattle.calls.specs.Judging.{booking, fits_failures, answer_in, earlier_fits, booking_rules, judged_of, in_a_row, replies_in_a_row, ledger_in_a_row, judged_on}
use Rattle.calls.proofs.CallLaws as law
use Rattle.calls.proofs.CallLaws.{formal_at, call_settled}

-- An earlier answer of sixteen bytes fits by its places 0 to 60 alone.
pub fits_by_places : (e d : List ℕ) (failed : Failures) → length e ≡ length d → before_booking (answer_at 0 e).failed ≡ before_booking (answer_at 0 d).failed
    → fits_failures e failed ≡ fits_failures d failed
unfolding fits_failures
fits_by_places e d failed long same = rw (long, same)

-- the returns of the code that looks at it
module _ (earlier : List ℕ) (failed : Failures) where
  pub fits_not : length earlier ≢ answer_size → false ≡ fits_failures earlier failed
  unfolding fits_failures
  fits_not ne = rw (ne_eqb _ _ ne) refl

  pub fits_told : {told : Answer} {set places : Failures} {r : Bool} → length earlier ≡ answer_size → told ≡ answer_at 0 earlier
      → set ≡ before_booking told.failed → places ≡ failed → r ≡ same_set set places → r ≡ fits_failures earlier failed
  unfolding fits_failures
  fits_told long t b p e = and_goes _ (eq-eqb _ _ long) (e ∙ rw (b, t, p))

module _ (tables : Tables) where
  -- places 0 to 60 of a call are before the booking
  formal_before : (call : Call) → before_booking (formal_of tables call).failed ≡ (formal_of tables call).failed
  unfolding checked_of
  formal_before call = go (checked_of tables call) refl
    where
      go : (k : Result ℕ Failures) → checked_of tables call ≡ k → before_booking (formal_of tables call).failed ≡ (formal_of tables call).failed
      go (Ok row) q = rw (formal_at tables call q) (record_before tables.reporters (is_money tables.currencies) row (field_of call.«record»))
      go (Err failed) q =
          let s = call.«record» in
          rw (formal_at tables call q) (failed_before tables.reporters call.sender (is_whole s) (field_of s 1) (field_of s 2) q)

  -- whatever its compartment holds, the answer to a record fits it
  answer_fits : (call : Call) (c : List ℕ) → earlier_fits tables call (answer_bytes (step_answer (formal_of tables call) call.«record» c)) ≡ true
  unfolding fits_failures step_answer answer_of step_failures
  answer_fits call c =
      let formal : Formal = formal_of tables call in
      let a : Answer = step_answer formal call.«record» c in
      let before = formal_before call in
      let set = set_read a (failures_small c formal.failed (field_of call.«record») before) in
      and_intro _ _ (eq-eqb _ _ (answer_length a))
      (rw (set, failures_before c formal.failed (field_of call.«record») before) (same_self formal.failed))

  -- a call that is not refused is answered, and its answer fits
  accepted_fits : (call : Call) (l : List ℕ) → refusal_of tables call (ledger_flaw l) ≡ 0
      → earlier_fits tables call (answer_in (single (rules tables) call l).reply) ≡ true
  accepted_fits call l free =
      rw (← call_settled tables call l free) (answer_fits call (compartment (formal_of tables call).row l))

  -- The answer of an accepted judging fits its record.
  pub judged_fits : (call : Call) (l a : List ℕ) → (judged_of tables call l).reply ≡ accepted a → earlier_fits tables call a ≡ true
  unfolding judged_of
  judged_fits call l a e = go (eqb n 0) refl
    where
      n : ℕ
      n = refusal_of tables call (ledger_flaw l)

      go : (b : Bool) → eqb n 0 ≡ b → earlier_fits tables call a ≡ true
      go true z = rw e at (accepted_fits call l (eqb-true n 0 z))
      go false z =
          let no : accepted a ≡ refused n
          = sym e ∙ ap (λ (o : Outcome (List ℕ) (List ℕ)). o.reply) (single_refused (rules tables) call l n refl (eqb-false n 0 z)) in
          let clash : ◌≡◌ {A = ℕ} 0 1 = cc in
          absurd (omega arith)

  -- The two in a row are the old call, its reply and its ledger, refused or not.
  pub in_a_row_lem : (call : Call) (l : List ℕ) → in_a_row tables call l ≡ single (rules tables) call l
  unfolding in_a_row judged_of
  in_a_row_lem call l = earlier_fits_lem (rules tables) (earlier_fits tables) 29 _ l (accepted_fits call l)

  -- and so are lists of them
  pub in_a_row_replies : (calls : List Call) (l : List ℕ) → replies_in_a_row tables calls l ≡ replies (rules tables) calls l
  in_a_row_replies [] l = refl
  in_a_row_replies (c ∷ cs) l = rw (in_a_row_lem c l, in_a_row_replies cs (single (rules tables) c l).store)

  pub in_a_row_ledger : (calls : List Call) (l : List ℕ) → ledger_in_a_row tables calls l ≡ store_after (rules tables) calls l
  in_a_row_ledger [] l = refl
  in_a_row_ledger (c ∷ cs) l = rw (in_a_row_lem c l) (in_a_row_ledger cs (single (rules tables) c l).store)

  -- A list whose earlier answers fit is the list of the old calls: the same replies, the same ledger.
  pub fitting_day : (bookings : List (WithEarlier Call)) (l : List ℕ) → AllFit (rules tables) (earlier_fits tables) 29 bookings
      → (replies (booking_rules tables) bookings l ≡ replies (rules tables) (map (λ b. b.call) bookings) l)
      × (store_after (booking_rules tables) bookings l ≡ store_after (rules tables) (map (λ b. b.call) bookings) l)
  fitting_day bookings l h =
      (fit_replies (rules tables) (earlier_fits tables) 29 bookings l h, fit_store (rules tables) (earlier_fits tables) 29 bookings l h)

  -- what was judged on a sound ledger fits, or is refused on every other too
  judged_all_fit : (calls : List Call) (morning : List ℕ) → sound_ledger morning ≡ true
      → AllFit (rules tables) (earlier_fits tables) 29 (judged_on tables morning calls)
  unfolding judged_of
  judged_all_fit [] morning h = tt
  judged_all_fit (c ∷ cs) morning h = (first, judged_all_fit cs morning h)
    where
      first : (n : ℕ) → refusal_of tables c n ≡ 0 → earlier_fits tables c (answer_in (single (rules tables) c morning).reply) ≡ true
      first n free =
          let kept : n ≡ 0 = (law.accepted tables c n free).kept in
          accepted_fits c morning (ap (refusal_of tables c) (flaw_none morning h ∙ sym kept) ∙ free)

  judged_calls : (calls : List Call) (morning : List ℕ) → map (λ b. b.call) (judged_on tables morning calls) ≡ calls
  judged_calls [] morning = refl
  judged_calls (c ∷ cs) morning = rw (judged_calls cs morning)

  -- A day judged in the morning, on any sound ledger, and booked in the evening, on any ledger, is answered and leaves what the old calls do in the evening.
  pub judged_day : (calls : List Call) (morning evening : List ℕ) → sound_ledger morning ≡ true → let bookings = judged_on tables morning calls in
      (replies (booking_rules tables) bookings evening ≡ replies (rules tables) calls evening)
      × (store_after (booking_rules tables) bookings evening ≡ store_after (rules tables) calls evening)
  judged_day calls morning evening h =
      let day = fitting_day (judged_on tables morning calls) evening (judged_all_fit calls morning h) in
      let same = judged_calls calls morning in
      (day.0 ∙ ap (λ (cs : List Call). replies (rules tables) cs evening) same, day.1 ∙ ap (λ (cs : List Call). store_after (rules tables) cs evening) same)

  -- what judging returns, refused or not: the reply of an outcome, beside the ledger as it was
  module _ (call : Call) (l : List ℕ) where
    abbrev unbooked : Outcome (List ℕ) (List ℕ) → Outcome (List ℕ) (List ℕ)
    unbooked o = record { reply = o.reply; store = l }

    pub judged_refused : {n : ℕ} → n ≡ refusal_of tables call (ledger_flaw l) → n ≢ 0 → record { reply = refused n; store = l } ≡ judged_of tables call l
    unfolding judged_of
    judged_refused e ne = ap unbooked (law.call_refused tables call l e ne)

    pub judged_answered : {f : Foreseen} → refusal_of tables call (ledger_flaw l) ≡ 0 → f ≡ foreseen_by tables call l
        → record { reply = accepted (answer_bytes f.answer); store = l } ≡ judged_of tables call l
    unfolding judged_of foreseen_of
    judged_answered free h =
        (λ i. record { reply = accepted (answer_bytes (h i).answer); store = l }) ∙ ap unbooked (law.call_settled tables call l free)

  -- one booking: by an earlier answer that fits it is the old call; by another it is refused and changes nothing
  module _ (b : WithEarlier Call) (l : List ℕ) where
    pub booking_fits : earlier_fits tables b.call b.earlier ≡ true → single (booking_rules tables) b l ≡ single (rules tables) b.call l
    booking_fits f = earlier_fits_lem (rules tables) (earlier_fits tables) 29 b l (λ free. f)

    pub booking_unfit : earlier_fits tables b.call b.earlier ≡ false
        → single (booking_rules tables) b l ≡ record { reply = refused ((booking_rules tables).refusal b (ledger_flaw l)); store = l }
    booking_unfit f =
        single_refused (booking_rules tables) b l _ refl (earlier_refuses (rules tables) (earlier_fits tables) 29 b (ledger_flaw l) (omega arith) f)

    -- one that is not refused fits, and is not refused as the old call either
    pub booking_free : (booking_rules tables).refusal b (ledger_flaw l) ≡ 0
        → (refusal_of tables b.call (ledger_flaw l) ≡ 0) × (earlier_fits tables b.call b.earlier ≡ true)
    unfolding earlier_refusal
    booking_free e =
        let (free, fits) = first_none _ _ e in
        (free, unless_none _ 29 (omega arith) (first_none _ [] fits).0)

  -- the returns of the booking call, of a record that is judged whole
  module _ (call : Call) (earlier l : List ℕ) where
    abbrev number : ℕ
    number = (booking_rules tables).refusal (booking call earlier) (ledger_flaw l)

    pub number_first : {n : ℕ} → n ≡ refusal_of tables call (ledger_flaw l) → n ≢ 0 → n ≡ number
    number_first e ne = e ∙ earlier_first (rules tables) (earlier_fits tables) 29 (booking call earlier) (ledger_flaw l) (λ z. ne (e ∙ z))

    module _ (free : refusal_of tables call (ledger_flaw l) ≡ 0) {f : Foreseen} (h : f ≡ foreseen_by tables call l) {fit : Bool}
        (g : fit ≡ fits_failures earlier (before_booking f.answer.failed)) where
      foreseen_before : before_booking f.answer.failed ≡ (formal_of tables call).failed
      unfolding step_failures
      foreseen_before =
          ap before_booking (law.foreseen_failures tables call l free h)
          ∙ failures_before _ (formal_of tables call).failed (field_of call.«record») (formal_before call)

      fit_earlier : fit ≡ earlier_fits tables call earlier
      fit_earlier = g ∙ ap (fits_failures earlier) foreseen_before

      pub number_unfit : fit ≡ false → 29 ≡ number
      number_unfit k = earlier_unfit (rules tables) (earlier_fits tables) 29 (booking call earlier) (ledger_flaw l) free (sym fit_earlier ∙ k)

      pub number_none : fit ≡ true → 0 ≡ number
      number_none k = earlier_none (rules tables) (earlier_fits tables) 29 (booking call earlier) (ledger_flaw l) free (sym fit_earlier ∙ k)

    pub booking_refused : {k : ℕ} → k ≡ number → k ≢ 0 → record { reply = refused k; store = l } ≡ single (booking_rules tables) (booking call earlier) l
    booking_refused {k} q ne = sym (single_refused (booking_rules tables) (booking call earlier) l k (sym q) ne)

  -- what the old call and judging come to, by the number of the call
  pub row_decided : (call : Call) (l : List ℕ) → Decided (refusal_of tables call (ledger_flaw l)) (in_a_row tables call l) l
  row_decided call l = rw (in_a_row_lem call l) (single_decided (rules tables) call l)

  pub judged_decided : (call : Call) (l : List ℕ) → Decided (refusal_of tables call (ledger_flaw l)) (judged_of tables call l) l
  unfolding judged_of
  judged_decided call l =
      let one = single_decided (rules tables) call l in
      record { answers = one.answers; refuses = λ ne. ap (unbooked call l) (one.refuses ne) }

  -- on a sound ledger no booking is refused by 4
  pub booking_never_four : (b : WithEarlier Call) → (booking_rules tables).refusal b 0 ≢ 4
  unfolding earlier_refusal
  booking_never_four b =
      first_never 4 _ _ (law.refusal_never_four tables b.call)
      (first_never 4 _ [] (unless_never (earlier_fits tables b.call b.earlier) 29 4 (omega arith) (omega arith)) (end_never 4 (omega arith)))

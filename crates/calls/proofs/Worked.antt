-- Worked inputs of document 01, through the calls: R1 and R5 called singly on the all-zero ledger, a future of document 02, Item 2, and the zeros of Item
-- 4 likewise, and files of the bodies of one and of two CR LF.
-- Assumes nothing.
use Prim.Native.Nat.{ℕ, ◌≤◌}
use native.Mathlib.Omega.{arith}
use mathlib.Core.Bool.{Bool, true}
use mathlib.Core.List.{List, [], ◌∷◌, ◌++◌, append-nil, map, head-eq_of_cons-eq, tail-eq_of_cons-eq}
use mathlib.Core.Path.{◌≡◌, refl, ap, sym, ◌∙◌}
use borrow.Author.Tests.{le-leb, leb-true}
use lib.Count.{count_trailing_zeros}
use lib.ListN.{length, drop, replicate}
use Rattle.frame.specs.Every.{every, least}
use Rattle.frame.specs.Parts.{part, put}
use Rattle.frame.specs.Reply.{accepted, unless, past}
use Rattle.frame.specs.Isolation.{Outcome}
use Rattle.frame.proofs.Isolation.{single_stranger, single_step}
use Rattle.frame.proofs.PartLaws.{part_replicate, put_own}
use Rattle.text.specs.Bytes.{all, same, position_of}
use Rattle.text.specs.Number.{little_endian, low_bytes, number_at}
use Rattle.text.specs.Order.{order_of}
use Rattle.text.specs.Search.{is_among, follows}
use Rattle.decimal.specs.Decimal.{decimal_of, decimal_at, whole_only, whole_and_part, digits_up_to, digits_value_after}
use Rattle.calendar.specs.Calendar.{digits_exactly, real_date, real_day, days_in, real_minute, real_second}
use Rattle.identifier.specs.Identifier.{bank_code, swift_form, completed, same_address, name_up_to}
use Rattle.identifier.specs.Isin.{isin_form, letter_value, digits_of, digits, weighted, digit_sum, check_digit_right}
use Rattle.failures.specs.Failures.{holds, is_empty, added, added_from}
use Rattle.failures.specs.Codes.{codes, code_at}
use Rattle.fields.specs.Fields.{semicolons_from, is_whole, field_start, field_end, field_place, field_of}
use Rattle.fields.specs.Forms.{letter}
use Rattle.fields.specs.Worked.{worked_record, r1, r5}
use Rattle.tables.specs.Reporters.{mailbox_of, mailbox_form, reporter_form, reporters_differ, reporter_ok, reporters_ok}
use Rattle.tables.specs.Reporters.{has_code, has_address, has_mailbox, row_by_code, row_by_address}
use Rattle.tables.specs.Currencies.{is_special, is_money, currency_ok, currencies_ok}
use Rattle.tables.specs.Tables.{tables_flaw}
use Rattle.tables.proofs.FlawLaws.{tables_pass}
use Rattle.ledger.specs.Sound.{compartment_size, ledger_size, sound_ledger, ledger_flaw}
use Rattle.ledger.specs.Lookup.{free_row, row_by_number, live_row}
use Rattle.ledger.proofs.LedgerLaws.{flaw_none}
use Rattle.ledger.proofs.EmptyLaws.{empty_ledger_lem}
use Rattle.booking.specs.Booking.{padded, new_row, entered, can_book, booked}
use Rattle.sender.specs.Sender.{reporter_row, reporter_tests, sender_tests, sender_check}
use Rattle.client.specs.Client.{lacks_form, same_party, client_tests}
use Rattle.trade.specs.Trade.{venue_form, trade_tests}
use Rattle.trade.specs.Instrument.{instrument_tests}
use Rattle.terms.specs.Terms.{terms_tests}
use Rattle.terms.specs.Capacity.{names_own, capacity_tests}
use Rattle.terms.specs.Derivative.{derivative_tests}
use Rattle.terms.specs.Marks.{mark_tests}
use Rattle.underlying.specs.Underlying.{asks_underlying, is_missing, is_theme, present_tests, underlying_tests}
use Rattle.checks.specs.Record.{client_group, trade_group, instrument_group, terms_group, capacity_group, derivative_group, underlying_group, marks_group}
use Rattle.checks.specs.Record.{record_tests, record_failures}
use Rattle.checks.specs.Booking.{named_row, booking_tests, booking_of}
use Rattle.checks.specs.Verdict.{failures_on, status_at}
use Rattle.answer.specs.Answer.{answer_size, answer_bytes}
use Rattle.envelope.specs.Pieces.{run_of, begins, text_end, part_end, part_then}
use Rattle.envelope.specs.Body.{crlf, records_of, lines_at, body_at}
use Rattle.envelope.specs.Envelope.{file_limit, head_of, tail_of, body_stage, envelope_of, report_of, records_from}
use Rattle.calls.specs.Call.{Call, called, record_form, refusal_of, checked_of, row_of, formal_of, answer_of, step_failures, step_answer, booked_as}
use Rattle.calls.specs.Call.{step_compartment}
use Rattle.calls.specs.Rules.{rules}
use Rattle.calls.specs.Judging.{in_a_row}
use Rattle.calls.specs.Demand3.{CallsIsolated}
use Rattle.calls.specs.Filing.{report_calls, opened_reading, reading_of, answers_in, file_outcome, carried_out, file_of}
use Rattle.calls.specs.Worked.{worked_reporters, worked_currencies, worked_tables, worked_sender, empty_ledger}
use Rattle.calls.specs.Worked.{booked_answer, r1_answer, r5_answer, future, future_answer, zero_quantity, zero_quantity_answer, zero_terms, zero_terms_answer}
use Rattle.calls.specs.Worked.{r1_row, r1_compartment, blank_answer, worked_file}
use Rattle.calls.proofs.CallLaws.{call_passes, accepted_call}
use Rattle.calls.proofs.Demand3.{demand3}
use Rattle.calls.proofs.JudgingLaws.{in_a_row_lem}
use Rattle.calls.proofs.ReadingLaws.{lent_none, reading_on}

-- The worked tables are as document 01 asks, and the all-zero ledger is sound: what theorem demand3 asks can be met.
pub worked_reporters_lem : reporters_ok worked_reporters ≡ true
unfolding worked_reporters reporters_ok reporter_ok reporter_form reporters_differ mailbox_of mailbox_form every part all same position_of bank_code swift_form name_up_to
worked_reporters_lem = refl

pub worked_currencies_lem : currencies_ok worked_currencies ≡ true
unfolding worked_currencies currencies_ok currency_ok is_special every part all same order_of follows
worked_currencies_lem = refl

worked_tables_lem : tables_flaw worked_tables ≡ 0
worked_tables_lem = tables_pass worked_tables worked_reporters_lem worked_currencies_lem

pub empty_sound : sound_ledger empty_ledger ≡ true
unfolding empty_ledger
empty_sound = empty_ledger_lem ledger_size refl

pub demand3_met : (calls : List Call) → CallsIsolated worked_tables calls empty_ledger
demand3_met calls = demand3 worked_tables calls empty_ledger empty_sound

-- of two lists, their second entries
second : {A : Type 0} {a b c d : A} {s t : List A} → a ∷ b ∷ s ≡ c ∷ d ∷ t → b ≡ d
second e = head-eq_of_cons-eq (tail-eq_of_cons-eq e)

-- a record called singly by the worked sender on the all-zero ledger
abbrev called_alone : List ℕ → Outcome (List ℕ) (List ℕ)
called_alone s = in_a_row worked_tables (called worked_sender s) empty_ledger

abbrev zeros : List ℕ
zeros = replicate compartment_size 0

zeros_part : part compartment_size 0 empty_ledger ≡ zeros
unfolding empty_ledger
zeros_part = part_replicate compartment_size 0 ledger_size 0 (omega arith)

-- a record in form is not refused there
not_refused : (s : List ℕ) → record_form s ≡ true → refusal_of worked_tables (called worked_sender s) (ledger_flaw empty_ledger) ≡ 0
unfolding name_up_to all
not_refused s form =
    let call : Call = called worked_sender s in
    sym (accepted_call worked_tables call (ledger_flaw empty_ledger) worked_tables_lem (flaw_none empty_ledger empty_sound)
    (call_passes call refl form))

-- what is computed of a record on a compartment of zeros: whether it is in form, the row that it passes for, its answer, the compartment after it
abbrev computed : List ℕ → Bool × ℕ × List ℕ × List ℕ
computed s = (
  record_form s,
  row_of (checked_of worked_tables (called worked_sender s)),
  answer_bytes (step_answer (formal_of worked_tables (called worked_sender s)) s zeros),
  step_compartment (formal_of worked_tables (called worked_sender s)) s zeros,
)

-- one that is in form and passes for row 0 is answered so, and leaves that compartment
on_zeros : (s : List ℕ) {answer c : List ℕ} → computed s ≡ (true, 0, answer, c) → called_alone s
    ≡ record { reply = accepted answer; store = put compartment_size 0 c empty_ledger }
on_zeros s e =
    let row = ap (λ p. p.1) e in
    in_a_row_lem worked_tables (called worked_sender s) empty_ledger
    ∙ single_step (rules worked_tables) (called worked_sender s) empty_ledger 0 (not_refused s (ap (λ p. p.0) e)) row (omega arith)
    ∙ (λ i. record {
      reply = accepted (answer_bytes (step_answer (formal_of worked_tables (called worked_sender s)) s (zeros_part i)));
      store = put compartment_size 0 (step_compartment (formal_of worked_tables (called worked_sender s)) s (zeros_part i)) empty_ledger;
    })
    ∙ (λ i. record { reply = accepted (e i).2; store = put compartment_size 0 (e i).3 empty_ledger })

steps : map computed (r1 ∷ r5 ∷ future ∷ zero_quantity ∷ zero_terms ∷ [])
    ≡ (true, 0, r1_answer, r1_compartment)
    ∷ (true, 0, r5_answer, zeros)
    ∷ (true, 0, future_answer, r1_compartment)
    ∷ (true, 0, zero_quantity_answer, zeros)
    ∷ (true, 0, zero_terms_answer, r1_compartment)
    ∷ []
unfolding worked_record worked_reporters worked_currencies booked_answer r5_answer future zero_quantity zero_quantity_answer zero_terms r1_row record_form checked_of
    sender_check sender_tests reporter_tests reporter_row row_by_code row_by_address has_mailbox mailbox_of least part put all same position_of decimal_of decimal_at
    whole_only whole_and_part digits_up_to digits_value_after digits_exactly real_date real_day days_in real_second bank_code swift_form completed same_address name_up_to
    isin_form letter_value digits_of digits weighted digit_sum check_digit_right holds is_empty added added_from codes code_at is_whole semicolons_from field_start
    field_end field_place field_of letter has_code has_address is_special is_money is_among lacks_form same_party client_tests venue_form trade_tests instrument_tests
    terms_tests names_own capacity_tests derivative_tests mark_tests asks_underlying is_missing is_theme present_tests underlying_tests client_group trade_group
    instrument_group terms_group capacity_group derivative_group underlying_group marks_group record_tests record_failures padded new_row entered can_book booked
    low_bytes number_at little_endian free_row row_by_number live_row named_row booking_tests booking_of formal_of failures_on status_at step_failures answer_of step_answer
    booked_as step_compartment answer_bytes count_trailing_zeros
steps = refl

-- R1 is booked in row 0 of compartment 0, and the rest of the ledger stays; R5 is answered with its set, and nothing is booked; a future with 0,125000 as
-- contract size is booked as R1 is. R1 with the quantity 0,0000 fails at place 34 alone; an option with zero at places 41, 50 and 51 is booked
pub worked :
    map (λ r. in_a_row worked_tables (called worked_sender r) empty_ledger) (r1 ∷ r5 ∷ future ∷ zero_quantity ∷ zero_terms ∷ [])
    ≡ record { reply = accepted r1_answer; store = put compartment_size 0 r1_compartment empty_ledger }
    ∷ record { reply = accepted r5_answer; store = empty_ledger }
    ∷ record { reply = accepted future_answer; store = put compartment_size 0 r1_compartment empty_ledger }
    ∷ record { reply = accepted zero_quantity_answer; store = empty_ledger }
    ∷ record { reply = accepted zero_terms_answer; store = put compartment_size 0 r1_compartment empty_ledger }
    ∷ []
worked =
    let rest = tail-eq_of_cons-eq steps in
    let last = tail-eq_of_cons-eq (tail-eq_of_cons-eq rest) in
    λ i.
    on_zeros r1 (head-eq_of_cons-eq steps) i
    ∷ not_booked r5 (second steps) i
    ∷ on_zeros future (second rest) i
    ∷ not_booked zero_quantity (head-eq_of_cons-eq last) i
    ∷ on_zeros zero_terms (second last) i
    ∷ []
  where
    kept : put compartment_size 0 zeros empty_ledger ≡ empty_ledger
    kept = ap (λ (c : List ℕ). put compartment_size 0 c empty_ledger) (sym zeros_part) ∙ put_own compartment_size 0 empty_ledger

    not_booked : (s : List ℕ) {answer : List ℕ} → computed s ≡ (true, 0, answer, zeros)
        → called_alone s ≡ record { reply = accepted answer; store = empty_ledger }
    not_booked s {answer} e = on_zeros s e ∙ (λ j. record { reply = accepted answer; store = kept j })

-- what the envelope of a file of either body comes to: no call; one call, of an empty record
module _ (room : ℕ) (one : answer_size ≤ room) where
  opened : map (λ body. opened_reading (worked_file body) room (report_of (worked_file body))) (crlf ∷ (crlf ++ crlf) ∷ [])
      ≡ accepted [] ∷ accepted (called worked_sender [] ∷ []) ∷ []
  unfolding worked_file envelope_of head_of tail_of body_stage body_at lines_at records_of records_from report_calls text_end part_end part_then run_of begins same real_date
      real_day days_in real_minute digits_exactly all past unless
  opened = rw (le-leb 0 room (omega arith), le-leb 16 room one) refl

-- the call of the empty record: it fails at place 0, and is answered whatever the ledger holds
blank_called : called_alone [] ≡ record { reply = accepted blank_answer; store = empty_ledger }
unfolding blank_answer record_form all low_bytes checked_of sender_check sender_tests is_whole semicolons_from added added_from holds is_empty answer_of codes code_at
    status_at count_trailing_zeros answer_bytes
blank_called =
    in_a_row_lem worked_tables (called worked_sender []) empty_ledger
    ∙ single_stranger (rules worked_tables) (called worked_sender []) empty_ledger (not_refused [] refl) (omega arith)

-- The file call: a body of one CR LF has no record; one of two holds one, answered 9001. Nothing is booked, and the rest of the buffer stays.
pub worked_bodies : (a : List ℕ) → answer_size ≤ length a → map (λ body. file_of worked_tables (worked_file body) empty_ledger a) (crlf ∷ (crlf ++ crlf) ∷ [])
    ≡ file_outcome (accepted 0) empty_ledger a ∷ file_outcome (accepted 1) empty_ledger (blank_answer ++ drop answer_size a) ∷ []
unfolding worked_file file_of carried_out answers_in
worked_bodies a one =
    let both = opened (length a) one in
    (λ i. carried_out worked_tables ((read crlf (leb-true _ _ refl) ∙ head-eq_of_cons-eq both) i) empty_ledger a
    ∷ carried_out worked_tables ((read (crlf ++ crlf) (leb-true _ _ refl) ∙ second both) i) empty_ledger a ∷ [])
    ∙ (λ i. file_outcome (accepted 0) empty_ledger a
    ∷ file_outcome (accepted 1) (blank_called i).store (answers_in ((blank_called i).reply ∷ []) ++ drop answer_size a) ∷ [])
    ∙ rw append-nil refl
  where
    read : (body : List ℕ) → length (worked_file body) ≤ file_limit → reading_of worked_tables (worked_file body) (length a) (ledger_flaw empty_ledger)
        ≡ opened_reading (worked_file body) (length a) (report_of (worked_file body))
    read body short =
        reading_on worked_tables (worked_file body) (ledger_flaw empty_ledger) (length a)
        (sym (lent_none worked_tables (worked_file body) (ledger_flaw empty_ledger) short worked_tables_lem
        (flaw_none empty_ledger empty_sound)))

-- Laws of the single-record call: its refusals, the sender check on a record's index, and the step on a compartment.
-- Assumes nothing.
use Prim.Native.Nat.{ℕ, ◌*◌, ◌+◌, ◌-◌, ◌≤◌, ◌<◌}
use native.Mathlib.Omega.{arith}
use mathlib.Core.Bool.{Bool, true, false, not, cond, false≢true}
use mathlib.Core.List.{List, [], ◌∷◌, ◌++◌}
use Rattle.std.specs.Prelude.{Option, Some, None, Result, Ok, Err}
use mathlib.Core.Logic.{◌≢◌}
use mathlib.Core.Path.{◌≡◌, refl, ap, subst, sym, ◌∙◌}
use borrow.Author.Tests.{leb-true}
use lib.Dec.{eqb, leb}
use lib.ListN.{length, take, drop}
use Rattle.frame.specs.Every.{least}
use Rattle.frame.specs.Isolation as I
use Rattle.frame.specs.Isolation.{Outcome}
use Rattle.frame.specs.Parts.{put}
use Rattle.frame.specs.Reply as R
use Rattle.frame.specs.Reply.{first_of}
use Rattle.frame.proofs.BoolLaws.{and_left}
use Rattle.frame.proofs.LeastLaws.{least_le}
use Rattle.frame.proofs.PartLaws.{part_lent, put_lent, put_own}
use Rattle.frame.proofs.ReplyLaws.{unless_holds, unless_none, unless_never, first_applies, first_passes, first_end, test_applies, test_passes}
use Rattle.frame.proofs.ReplyLaws.{first_last, first_none, end_never, first_never}
use Rattle.frame.proofs.Isolation.{single_refused, single_stranger, single_step}
use Rattle.decimal.specs.Decimal.{decimal_of, value_of}
use Rattle.identifier.specs.Identifier.{name_up_to}
use Rattle.failures.specs.declared.Failures.{Failures}
use Rattle.failures.specs.Failures.{is_empty}
use Rattle.fields.specs.declared.Place.{Place}
use Rattle.fields.specs.Fields.{is_whole, bytes_at, field_of, field_place, place_in, field_by, stops_of, is_whole_index}
use Rattle.fields.specs.Forms.{letter}
use Rattle.fields.proofs.FieldLaws.{field_by_lem, whole_index, placed, field_inside, cut_bytes}
use Rattle.tables.specs.Reporters.{reporters_ok}
use Rattle.tables.specs.Tables.{Tables, tables_flaw}
use Rattle.tables.proofs.FlawLaws.{tables_in_order, tables_never}
use Rattle.tables.specs.Currencies.{currencies_ok, is_money, found_money}
use Rattle.tables.proofs.CurrencyLaws.{found_money_lem}
use Rattle.tables.proofs.ReporterLaws.{rows_below}
use Rattle.ledger.specs.Sound.{bank_count, ledger_size, compartment_size, compartment, row_count, rows_of, sound_ledger, ledger_flaw}
use Rattle.ledger.specs.Lookup.{is_free, free_row}
use Rattle.ledger.proofs.LedgerLaws.{flawless, ledger_size_lem}
use Rattle.booking.specs.Booking.{booked}
use Rattle.sender.specs.Sender.{sender_check}
use Rattle.sender.proofs.SenderLaws.{passed_row, failed_some}
use Rattle.checks.specs.declared.Booking.{Booking}
use Rattle.checks.specs.Record.{record_failures}
use Rattle.checks.specs.Booking.{named_row, booking_of}
use Rattle.checks.specs.Verdict.{failures_on}
use Rattle.answer.specs.declared.Answer.{Answer}
use Rattle.answer.specs.Answer.{answer_bytes}
use Rattle.calls.specs.Call.{Call, called, record_limit, no_reporter, no_row, row_of, failed_of, record_form, call_flaw, refusal_of, checked_of, answer_of}
use Rattle.calls.specs.Call.{formal_in, formal_by, formal_of, booked_as, found_rows, step_failures, step_answer, step_compartment}
use Rattle.calls.specs.CallSteps.{Judged, entry_of, foreseen_of, foreseen_by, Fits, Settles, entered, settled}
use Rattle.calls.specs.declared.judging.Formal.{Formal}
use Rattle.calls.specs.declared.judging.Entry.{Entry}
use Rattle.calls.specs.declared.judging.Foreseen.{Foreseen}
use Rattle.calls.specs.Rules.{rules}

-- the first refusal of two lists of them, the first list's own first refusal given
first_joined : (ms ns : List ℕ) → first_of (first_of ms ∷ ns) ≡ first_of (ms ++ ns)
unfolding first_of
first_joined [] ns = refl
first_joined (m ∷ ms) ns = go (eqb m 0) refl (first_joined ms ns)
  where
    go : (b : Bool) → eqb m 0 ≡ b → first_of (first_of ms ∷ ns) ≡ first_of (ms ++ ns) → first_of (cond b (first_of ms) m ∷ ns) ≡ cond b (first_of (ms ++ ns)) m
    go true e h = h
    go false e h = rw e refl

-- What code finds that tests the tables, and then the ledger which it is lent.
module _ (tables : Tables) (l : List ℕ) where
  abbrev lent : ℕ
  lent = first_of (tables_flaw tables ∷ ledger_flaw l ∷ [])

  pub lent_tables : {n : ℕ} → n ≡ tables_flaw tables → n ≢ 0 → n ≡ lent
  lent_tables e ne = first_applies _ e ne

  module _ (e : 0 ≡ tables_flaw tables) {p : Bool} (f : p ≡ sound_ledger l) where
    pub lent_ledger : not p ≡ true → 4 ≡ lent
    unfolding ledger_flaw
    lent_ledger j = first_passes _ (sym e) (test_applies 4 [] (omega arith) f j)

    pub lent_none : not p ≡ false → 0 ≡ lent
    unfolding ledger_flaw
    lent_none j = first_passes _ (sym e) (test_passes 4 [] f j first_end)

-- What code finds that tests these first, and then the call's own sender and record.
module _ (tables : Tables) (call : Call) (held : ℕ) where
  pub refused_first : {k : ℕ} → k ≡ first_of (tables_flaw tables ∷ held ∷ []) → k ≢ 0 → k ≡ refusal_of tables call held
  unfolding refusal_of
  refused_first e ne = first_applies _ e ne ∙ first_joined (tables_flaw tables ∷ held ∷ []) (call_flaw call ∷ [])

  pub refused_last : {n : ℕ} → 0 ≡ first_of (tables_flaw tables ∷ held ∷ []) → n ≡ call_flaw call → n ≡ refusal_of tables call held
  unfolding refusal_of
  refused_last z e = first_passes _ (sym z) (first_last e) ∙ first_joined (tables_flaw tables ∷ held ∷ []) (call_flaw call ∷ [])

-- a call whose sender and record are in form
pub call_passes : (call : Call) → name_up_to 8 call.sender ≡ true → record_form call.«record» ≡ true → call_flaw call ≡ 0
unfolding call_flaw
call_passes call e f = sym (first_passes _ (unless_holds 13 e) (first_passes [] (unless_holds 14 f) first_end))

module _ (tables : Tables) (call : Call) (held : ℕ) where
  -- a call to which no refusal applies
  pub accepted_call : tables_flaw tables ≡ 0 → held ≡ 0 → call_flaw call ≡ 0 → 0 ≡ refusal_of tables call held
  unfolding refusal_of
  accepted_call lent kept called = first_passes _ lent (first_passes _ kept (first_passes [] called first_end))

  -- what holds of a call that is not refused
  pub record Accepted : Type 0 where
    pub listed : reporters_ok tables.reporters ≡ true
    pub ordered : currencies_ok tables.currencies ≡ true
    pub kept : held ≡ 0
    pub formed : record_form call.«record» ≡ true

  pub accepted : refusal_of tables call held ≡ 0 → Accepted
  unfolding refusal_of call_flaw
  accepted e =
      let (lent, others) = first_none _ _ e in
      let (kept, last) = first_none _ _ others in
      let (listed, ordered) = tables_in_order tables lent in
      let (named, formed) = first_none _ _ (first_none _ [] last).0 in
      record { listed = listed; ordered = ordered; kept = kept; formed = unless_none _ 14 (omega arith) (first_none _ [] formed).0 }

-- on a sound ledger no call is refused by 4
pub refusal_never_four : (tables : Tables) (call : Call) → refusal_of tables call 0 ≢ 4
unfolding refusal_of call_flaw
refusal_never_four tables call =
    let named = unless_never (name_up_to 8 call.sender) 13 4 (omega arith) (omega arith) in
    let formed = unless_never (record_form call.«record») 14 4 (omega arith) (omega arith) in
    let end = end_never 4 (omega arith) in
    first_never 4 _ _ (tables_never tables 4 (omega arith))
    (first_never 4 0 _ (omega arith) (first_never 4 _ [] (first_never 4 _ _ named (first_never 4 _ [] formed end)) end))

pub record_short : (s : List ℕ) → record_form s ≡ true → length s ≤ record_limit
unfolding record_form
record_short s h = leb-true _ _ (and_left (leb (length s) record_limit) _ h)

-- a field by the index of its record
pub indexed : (s stops : List ℕ) → stops ≡ stops_of s → (n : ℕ) → field_by s stops n ≡ field_of s n
indexed s stops e n = ap (λ (t : List ℕ). field_by s t n) e ∙ field_by_lem s n

-- the row for which a record passes is a bank's
pub passed_bank : (tables : Tables) (call : Call) {row : ℕ} → reporters_ok tables.reporters ≡ true → checked_of tables call ≡ Ok row → row < bank_count
unfolding checked_of
passed_bank tables call ok e =
    let s = call.«record» in
    omega (arith, rows_below tables.reporters ok, (passed_row tables.reporters call.sender (is_whole s) (field_of s 1) (field_of s 2) e).1)

-- places 0 to 60 by what the sender check has found of whether the record is whole and of its first two fields
pub formal_by_lem : (reporters : List ℕ) (money : List ℕ → Bool) (sender : List ℕ) (F : ℕ → List ℕ) {whole w : Bool} {f1 f2 : List ℕ}
    {k : Result ℕ Failures} {formal : Formal}
    → w ≡ whole → f1 ≡ F 1 → f2 ≡ F 2 → k ≡ sender_check reporters sender w f1 f2 → formal ≡ formal_in reporters money F k
    → formal ≡ formal_by reporters money sender whole F
unfolding formal_by
formal_by_lem reporters money sender F w p q e f = f ∙ ap (formal_in reporters money F) (e ∙ (λ i. sender_check reporters sender (w i) (p i) (q i)))

-- places 0 to 60 on what the index gives, with a search of the currency list in order
pub formal_same : (tables : Tables) (sender s stops : List ℕ) {formal : Formal} → stops ≡ stops_of s → currencies_ok tables.currencies ≡ true
    → formal ≡ formal_by tables.reporters (found_money tables.currencies) sender (is_whole_index stops) (field_by s stops)
    → formal ≡ formal_of tables (called sender s)
unfolding formal_by formal_of checked_of
formal_same tables sender s stops e ok f =
    f ∙ (λ i. formal_by tables.reporters (λ g. found_money_lem tables.currencies g ok i) sender ((ap is_whole_index e ∙ whole_index s) i)
    (λ n. indexed s stops e n i))

-- places 0 to 60 by what the sender check finds
module _ (tables : Tables) (call : Call) where
  abbrev judged : Result ℕ Failures → Formal
  judged = formal_in tables.reporters (is_money tables.currencies) (field_of call.«record»)

  pub formal_at : {k : Result ℕ Failures} → checked_of tables call ≡ k → formal_of tables call ≡ judged k
  unfolding formal_of
  formal_at q = ap judged q

  -- a record that does not pass it has a failure
  pub stranger_fails : {failed : Failures} → checked_of tables call ≡ Err failed → is_empty failed ≡ false
  unfolding checked_of
  stranger_fails q = let s = call.«record» in failed_some tables.reporters call.sender (is_whole s) (field_of s 1) (field_of s 2) q

  -- so a record without one passes it, and has none at places 7 to 60
  pub formal_passed : is_empty (formal_of tables call).failed ≡ true → let row = (formal_of tables call).row in
      (checked_of tables call ≡ Ok row) × (is_empty (record_failures tables.reporters (is_money tables.currencies) row (field_of call.«record»)) ≡ true)
  formal_passed = go (checked_of tables call) refl
    where
      go : (k : Result ℕ Failures) → checked_of tables call ≡ k → is_empty (formal_of tables call).failed ≡ true → let row = (formal_of tables call).row in
          (checked_of tables call ≡ Ok row)
          × (is_empty (record_failures tables.reporters (is_money tables.currencies) row (field_of call.«record»)) ≡ true)
      go (Ok row) q h = let f = formal_at q in rw f (q, rw f at h)
      go (Err failed) q h = absurd (false≢true (sym (stranger_fails q) ∙ ap (λ (f : Formal). is_empty f.failed) (sym (formal_at q)) ∙ h))

  -- the row fits an answer
  formal_small : reporters_ok tables.reporters ≡ true → (formal_of tables call).row < 256
  formal_small ok = go (checked_of tables call) refl
    where
      go : (k : Result ℕ Failures) → checked_of tables call ≡ k → (formal_of tables call).row < 256
      go (Ok row) q = let b : row < bank_count = passed_bank tables call ok q in rw (formal_at q) (omega arith)
      go (Err failed) q = rw (formal_at q) (omega arith)

  -- what is asked before the ledger is looked into, of a call that is not refused
  pub judged_ready : {formal : Formal} (stops l : List ℕ) → refusal_of tables call (ledger_flaw l) ≡ 0 → stops ≡ stops_of call.«record»
      → formal ≡ formal_of tables call → Judged formal call.«record» stops l
  judged_ready stops l free e f =
      let ok = accepted tables call (ledger_flaw l) free in
      record {
        row = rw f (formal_small ok.listed);
        bank = λ none. rw f (passed_bank tables call ok.listed (formal_passed (rw f at none)).0);
        short = record_short _ ok.formed;
        indexed = e;
        sized = ledger_size_lem l (flawless l ok.kept);
      }

free_row_le : (c : List ℕ) → free_row c ≤ row_count
unfolding free_row
free_row_le c = go (eqb (length c) compartment_size)
  where
    go : (b : Bool) → cond b (least row_count (is_free (rows_of c))) row_count ≤ row_count
    go true = least_le row_count (is_free (rows_of c))
    go false = omega arith

pub free_small : (c f16 f39 : List ℕ) {found : Booking} → found ≡ booking_of c f16 f39 → found.free < 65536
unfolding booking_of
free_small c f16 f39 e = rw e (omega (arith, free_row_le c))

-- the step: what is judged of a record decides its answer and the compartment afterwards
module _ (formal : Formal) (s c : List ℕ) where
  -- one of places 0 to 60 fails: these are the failures, and 61 to 63 are not judged
  pub failures_judged : is_empty formal.failed ≡ false → step_failures formal s c ≡ formal.failed
  unfolding step_failures failures_on
  failures_judged n = rw n refl

  -- none does: the failures are those of 61 to 63
  pub failures_found : {found : Booking} → is_empty formal.failed ≡ true → found ≡ found_rows formal s c → found.failed ≡ step_failures formal s c
  unfolding step_failures failures_on
  failures_found n g = rw (n, g) refl

  -- an answer that tells them, by the code's finding: with a failure no new row, else the free one
  pub answer_failed : {failed : Failures} {a : Answer} → failed ≡ step_failures formal s c → is_empty failed ≡ false → a ≡ answer_of failed formal.row no_row s
      → a ≡ step_answer formal s c
  unfolding step_answer
  answer_failed e n h = let z : is_empty (step_failures formal s c) ≡ false = rw (← e) n in h ∙ rw (e, z) refl

  pub foreseen_failed : {failed : Failures} {a : Answer} → failed ≡ step_failures formal s c → is_empty failed ≡ false
      → a ≡ answer_of failed formal.row no_row s → record { answer = a; entry = None } ≡ foreseen_of formal s c
  unfolding foreseen_of
  foreseen_failed e n h = let z : is_empty (step_failures formal s c) ≡ false = rw (← e) n in rw (answer_failed e n h, z) refl

  answer_booked : {failed : Failures} {found : Booking} {a : Answer} → failed ≡ step_failures formal s c → is_empty failed ≡ true
      → found ≡ found_rows formal s c → a ≡ answer_of failed formal.row found.free s → a ≡ step_answer formal s c
  unfolding step_answer
  answer_booked e n g h = let z : is_empty (step_failures formal s c) ≡ true = rw (← e) n in h ∙ rw (e, z, g) refl

  pub foreseen_booked : {failed : Failures} {found : Booking} {a : Answer} {entry : Entry} → failed ≡ step_failures formal s c → is_empty failed ≡ true
      → found ≡ found_rows formal s c → a ≡ answer_of failed formal.row found.free s → entry ≡ entry_of s c
      → record { answer = a; entry = Some entry } ≡ foreseen_of formal s c
  unfolding foreseen_of
  foreseen_booked e n g h q =
      let z : is_empty (step_failures formal s c) ≡ true = rw (← e) n in
      rw (answer_booked e n g h, q, z) refl

  -- what its booking then enters and cancels, by the index
  pub entry_by : {found : Booking} {entry : Entry} {stops f22 f7 : List ℕ} → stops ≡ stops_of s → found ≡ found_rows formal s c
      → entry.number ≡ place_in (length s) stops 39 → entry.quantity ≡ value_of (decimal_of 15 4 f22) → f22 ≡ field_by s stops 22 → entry.side ≡ letter f7
      → f7 ≡ field_by s stops 7 → entry.named ≡ found.named → entry ≡ entry_of s c
  unfolding booking_of
  entry_by {entry = entry} {stops = stops} e g number quantity q22 side q7 named =
      let number : entry.number ≡ field_place s 39 = number ∙ ap (λ (t : List ℕ). place_in (length s) t 39) e ∙ placed s 39 in
      let quantity : entry.quantity ≡ value_of (decimal_of 15 4 (field_of s 22))
      = quantity ∙ ap (λ (t : List ℕ). value_of (decimal_of 15 4 t)) (q22 ∙ indexed s stops e 22) in
      let side : entry.side ≡ letter (field_of s 7) = side ∙ ap letter (q7 ∙ indexed s stops e 7) in
      let named : entry.named ≡ named_row c (field_of s 16) = named ∙ ap (λ (b : Booking). b.named) g in
      λ i. record { number = number i; quantity = quantity i; side = side i; named = named i }

  -- the failures that an answer tells
  pub answer_failures : {a : Answer} → a ≡ step_answer formal s c → a.failed ≡ step_failures formal s c
  unfolding step_answer answer_of
  answer_failures h = ap (λ (w : Answer). w.failed) h

  -- one without a failure has none at places 0 to 60
  pub answer_passed : {a : Answer} → a ≡ step_answer formal s c → is_empty a.failed ≡ true → is_empty formal.failed ≡ true
  answer_passed e n = go (is_empty formal.failed) refl
    where
      go : (b : Bool) → is_empty formal.failed ≡ b → is_empty formal.failed ≡ true
      go true h = h
      go false h = absurd (false≢true (sym h ∙ ap is_empty (sym (failures_judged h) ∙ sym (answer_failures e)) ∙ n))

  pub step_failed : is_empty (step_failures formal s c) ≡ false → step_compartment formal s c ≡ c
  unfolding step_compartment
  step_failed n = rw n refl

  step_booked : {a : Answer} → is_empty (step_failures formal s c) ≡ true → a ≡ step_answer formal s c → let entry = entry_of s c in
      booked a.booked (bytes_at s entry.number) entry.quantity entry.side entry.named c ≡ step_compartment formal s c
  unfolding step_answer step_compartment answer_of booked_as booking_of field_of
  step_booked n h = rw (h, n) refl

-- a record that fails leaves the ledger
step_left : (formal : Formal) (s l : List ℕ) → let c = compartment formal.row l in is_empty (step_failures formal s c) ≡ false
    → put compartment_size formal.row (step_compartment formal s c) l ≡ l
step_left formal s l n =
    ap (λ (d : List ℕ). put compartment_size formal.row d l) (step_failed formal s (compartment formal.row l) n)
    ∙ put_own compartment_size formal.row l

-- the compartment of a row, as a ledger lends it
module _ (row : ℕ) (l : List ℕ) (inside : row * compartment_size + compartment_size ≤ length l) where
  abbrev start : ℕ
  start = row * compartment_size

  abbrev lent_part : List ℕ
  lent_part = take (start + compartment_size - start) (drop start l)

  -- what 61 to 63 find there, by the index
  pub rows_found : (formal : Formal) (s : List ℕ) {found : Booking} {f16 f39 : List ℕ} → f16 ≡ field_of s 16 → f39 ≡ field_of s 39
      → found ≡ booking_of lent_part f16 f39 → found ≡ found_rows formal s (compartment row l)
  rows_found formal s p q e = e ∙ (λ i. booking_of ((part_lent compartment_size row l inside).0 i) (p i) (q i))

  -- and what is booked there comes back into its place
  pub rows_booked : (free : ℕ) (s : List ℕ) (place : Place) (q side named : ℕ) {d : List ℕ}
      → d ≡ booked free (take (place.start + place.length - place.start) (drop place.start s)) q side named lent_part
      → take start l ++ (d ++ drop (start + compartment_size - start) (drop start l))
      ≡ put compartment_size row (booked free (bytes_at s place) q side named (compartment row l)) l
  rows_booked free s place q side named {d} e =
      put_lent compartment_size row d l
      ∙ ap (λ (w : List ℕ). put compartment_size row w l)
      (e ∙ (λ i. booked free (cut_bytes s place i) q side named ((part_lent compartment_size row l inside).0 i)))

-- what is foreseen of a record, carried out, is its step
module _ (formal : Formal) (s l : List ℕ) where
  abbrev own : List ℕ
  own = compartment formal.row l

  settled_step : settled (foreseen_of formal s own) s l ≡ put compartment_size formal.row (step_compartment formal s own) l
  unfolding foreseen_of step_answer answer_of
  settled_step = go (is_empty (step_failures formal s own)) refl
    where
      go : (b : Bool) → is_empty (step_failures formal s own) ≡ b → entered (step_answer formal s own) s l (cond b (Some (entry_of s own)) None)
          ≡ put compartment_size formal.row (step_compartment formal s own) l
      go true n = ap (λ (d : List ℕ). put compartment_size formal.row d l) (step_booked formal s own n refl)
      go false n = sym (step_left formal s l n)

-- what a record comes to by the index of its bytes w, is what its call comes to
module _ (tables : Tables) (call : Call) (l : List ℕ) {w stops : List ℕ} {formal : Formal} (free : refusal_of tables call (ledger_flaw l) ≡ 0)
    (bytes : w ≡ call.«record») (index : stops ≡ stops_of call.«record»)
    (judged : formal ≡ formal_by tables.reporters (found_money tables.currencies) call.sender (is_whole_index stops) (field_by w stops)) where
  formal_is : formal ≡ formal_of tables call
  formal_is =
      formal_same tables call.sender call.«record» stops index (accepted tables call (ledger_flaw l) free).ordered
      (judged ∙ ap (λ (v : List ℕ). formal_by tables.reporters (found_money tables.currencies) call.sender (is_whole_index stops) (field_by v stops)) bytes)

  pub index_ready : Judged formal w stops l
  index_ready =
      subst (λ (v : List ℕ). Judged formal v stops l) (sym bytes) (judged_ready tables call stops l free index formal_is)

  pub index_foreseen : {f : Foreseen} → f ≡ foreseen_of formal w (compartment formal.row l) → f ≡ foreseen_by tables call l
  index_foreseen e = e ∙ (λ i. foreseen_of (formal_is i) (bytes i) (compartment (formal_is i).row l))

-- what a booking asks of a record with an entry, and what it leaves
module _ (foreseen : Foreseen) (s l : List ℕ) {entry : Entry} (e : foreseen.entry ≡ Some entry) where
  pub ready : Settles foreseen s l → (foreseen.answer.row < bank_count) × (length l ≡ ledger_size) × (entry.number.start + entry.number.length ≤ length s)
  ready h = subst (λ (o : Option Entry). Fits foreseen.answer s l o) e h

  pub settled_some : {m : List ℕ} → m ≡ entered foreseen.answer s l (Some entry) → m ≡ settled foreseen s l
  settled_some {m} h = subst (λ (o : Option Entry). m ≡ entered foreseen.answer s l o) (sym e) h

-- The two outcomes of a call, on the ledger that it is lent.
module _ (tables : Tables) (call : Call) (l : List ℕ) where
  pub call_refused : {n : ℕ} → n ≡ refusal_of tables call (ledger_flaw l) → n ≢ 0 → record { reply = R.refused n; store = l } ≡ I.single (rules tables) call l
  call_refused {n} e ne = sym (single_refused (rules tables) call l n (sym e) ne)

  -- one that is not refused is answered, and leaves its bank's compartment, as its step says; for a record that passes for no bank that changes nothing
  pub call_settled : refusal_of tables call (ledger_flaw l) ≡ 0 → let formal = formal_of tables call in let c = compartment formal.row l in
      record {
        reply = R.accepted (answer_bytes (step_answer formal call.«record» c));
        store = put compartment_size formal.row (step_compartment formal call.«record» c) l;
      } ≡ I.single (rules tables) call l
  call_settled e = go (checked_of tables call) refl
    where
      s : List ℕ
      s = call.«record»

      settled : Formal → Outcome (List ℕ) (List ℕ)
      settled formal = record {
        reply = R.accepted (answer_bytes (step_answer formal s (compartment formal.row l)));
        store = put compartment_size formal.row (step_compartment formal s (compartment formal.row l)) l;
      }

      unchanged : (formal : Formal) → is_empty formal.failed ≡ false
          → settled formal ≡ record { reply = R.accepted (answer_bytes (answer_of formal.failed formal.row no_row s)); store = l }
      unchanged formal some =
          let c : List ℕ = compartment formal.row l in
          λ i. record {
            reply = R.accepted (answer_bytes (sym (answer_failed formal s c (sym (failures_judged formal s c some)) some refl) i));
            store = step_left formal s l (ap is_empty (failures_judged formal s c some) ∙ some) i;
          }

      go : (k : Result ℕ Failures) → checked_of tables call ≡ k → settled (formal_of tables call) ≡ I.single (rules tables) call l
      go (Ok row) q =
          let bank : row_of (checked_of tables call) ≡ (formal_of tables call).row = ap row_of q ∙ ap (λ (f : Formal). f.row) (sym (formal_at tables call q)) in
          let inside : (formal_of tables call).row < bank_count
          = rw (formal_at tables call q) (passed_bank tables call (accepted tables call (ledger_flaw l) e).listed q) in
          sym (single_step (rules tables) call l _ e bank inside)
      go (Err failed) q =
          let none : bank_count ≤ row_of (checked_of tables call) = rw q (omega arith) in
          let formal : Formal = record { row = no_reporter; failed = failed } in
          ap settled (formal_at tables call q)
          ∙ unchanged formal (stranger_fails tables call q)
          ∙ ap (λ (k : Result ℕ Failures). record { reply = R.accepted (answer_bytes (answer_of (failed_of k) no_reporter no_row s)); store = l }) (sym q)
          ∙ sym (single_stranger (rules tables) call l e none)

  -- what is foreseen of it: what is asked of a booking, and the outcome once it is carried out
  module _ (free : refusal_of tables call (ledger_flaw l) ≡ 0) where
    abbrev formal : Formal
    formal = formal_of tables call

    abbrev s : List ℕ
    s = call.«record»

    abbrev c : List ℕ
    c = compartment formal.row l

    pub foreseen_failures : {f : Foreseen} → f ≡ foreseen_by tables call l → f.answer.failed ≡ step_failures formal s c
    unfolding foreseen_of
    foreseen_failures h = answer_failures formal s c (ap (λ (f : Foreseen). f.answer) h)

    pub settles : {f : Foreseen} → f ≡ foreseen_by tables call l → Settles f s l
    unfolding foreseen_of step_answer answer_of
    settles h = subst (λ (f : Foreseen). Settles f s l) (sym h) (go (is_empty (step_failures formal s c)) refl)
      where
        go : (b : Bool) → is_empty (step_failures formal s c) ≡ b → Fits (step_answer formal s c) s l (cond b (Some (entry_of s c)) None)
        go true n =
            let ok = accepted tables call (ledger_flaw l) free in
            let bank : formal.row < bank_count = passed_bank tables call ok.listed (formal_passed tables call (answer_passed formal s c refl n)).0 in
            (bank, ledger_size_lem l (flawless l ok.kept), field_inside s 39)
        go false n = tt

    pub settled_lem : {f : Foreseen} {m : List ℕ} → f ≡ foreseen_by tables call l → m ≡ settled f s l
        → record { reply = R.accepted (answer_bytes f.answer); store = m } ≡ I.single (rules tables) call l
    unfolding foreseen_of
    settled_lem h e =
        let store = e ∙ ap (λ (f : Foreseen). settled f s l) h ∙ settled_step formal s l in
        (λ i. record { reply = R.accepted (answer_bytes (h i).answer); store = store i }) ∙ call_settled free

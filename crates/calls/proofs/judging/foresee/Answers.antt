use Prim.Native.Nat.{◌*◌, ◌+◌, ◌≤◌, ◌<◌}
use native.Mathlib.Omega.{arith}
use mathlib.Core.Path.{◌≡◌, refl, sym, ◌∙◌}
use lib.ListN.{length}
use Rattle.ledger.specs.Sound.{bank_count, compartment_size, compartment}
use Rattle.calls.specs.Call.{found_rows, step_failures}
use Rattle.calls.proofs.CallLaws.{indexed, free_small, failures_judged, failures_found, foreseen_failed, foreseen_booked, entry_by, rows_found}
use Rattle.calls.proofs.judging.foresee.Goals as goal

pub returns-then-not-is_empty : goal.returns-then-not-is_empty
returns-then-not-is_empty c =
    let some = sym c.is_empty.ensures ∙ c.if-not-is_empty.true in
    let a = c.args in
    foreseen_failed a.formal _ (compartment a.formal.row a.ledger.now) (sym (failures_judged _ _ _ some)) some c.answer_of.ensures

pub returns-then-not-is_empty-2 : goal.returns-then-not-is_empty-2
returns-then-not-is_empty-2 c =
    let a = c.args in
    let s = a.«record».now.bytes.now in
    let none = sym c.is_empty.ensures ∙ c.if-not-is_empty.false in
    let bank : a.formal.row < bank_count = c.requires.bank none in
    let inside : a.formal.row * compartment_size + compartment_size ≤ length a.ledger.now = omega (arith, c.requires.sized) in
    let field = indexed _ _ c.requires.indexed in
    let found : c.judge_booking-found.result ≡ found_rows a.formal s (compartment a.formal.row a.ledger.now)
    = rows_found _ _ inside a.formal _ (c.field.ensures.bytes ∙ field 16) (c.field-2.ensures.bytes ∙ field 39) c.judge_booking-found.ensures in
    let failures : c.judge_booking-found.result.failed ≡ step_failures a.formal s (compartment a.formal.row a.ledger.now)
    = failures_found _ _ _ none found in
    let some = sym c.is_empty-2.ensures ∙ c.if-not-is_empty-2.true in
    foreseen_failed a.formal _ _ failures some c.answer_of-then-not-is_empty-2.ensures

pub answer_of-requires-2 : goal.answer_of-requires-2
answer_of-requires-2 c = (c.requires.row, free_small _ _ _ c.judge_booking-found.ensures, c.requires.short)

pub returns : goal.returns
returns c =
    let a = c.args in
    let s = a.«record».now.bytes.now in
    let none = sym c.is_empty.ensures ∙ c.if-not-is_empty.false in
    let bank : a.formal.row < bank_count = c.requires.bank none in
    let inside : a.formal.row * compartment_size + compartment_size ≤ length a.ledger.now = omega (arith, c.requires.sized) in
    let field = indexed _ _ c.requires.indexed in
    let found : c.judge_booking-found.result ≡ found_rows a.formal s (compartment a.formal.row a.ledger.now)
    = rows_found _ _ inside a.formal _ (c.field.ensures.bytes ∙ field 16) (c.field-2.ensures.bytes ∙ field 39) c.judge_booking-found.ensures in
    let failures : c.judge_booking-found.result.failed ≡ step_failures a.formal s (compartment a.formal.row a.ledger.now)
    = failures_found _ _ _ none found in
    let passed = sym c.is_empty-2.ensures ∙ c.if-not-is_empty-2.false in
    foreseen_booked a.formal _ _ failures passed found c.answer_of-2.ensures
    (entry_by a.formal _ _ c.requires.indexed found c.place.ensures c.quantity.ensures c.field-3.ensures.bytes c.letter_of.ensures
    c.field-4.ensures.bytes refl)

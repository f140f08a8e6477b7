use mathlib.Core.Path.{◌≡◌, ap, sym, ◌∙◌}
use mathlib.Core.Bool.{true}
use lib.ListN.{length}
use Rattle.booking.specs.Booking.{cancelled_by, can_book}
use Rattle.booking.proofs.BookingLaws.{can_book_lem, entered_size, booked_not, booked_original, booked_cancellation}
use Rattle.booking.proofs.book.Goals as goal

pub returns-then-not-can_book : goal.returns-then-not-can_book
returns-then-not-can_book c =
    let a = c.args in
    booked_not a.f a.n.now a.q a.s a.p a.c.now (sym c.can_book.ensures ∙ (c.if-not-can_book.true))

pub enter-requires : goal.enter-requires
enter-requires c =
    let allowed : let a = c.args in can_book a.f a.n.now a.c.now ≡ true = sym c.can_book.ensures ∙ c.if-not-can_book.false in
    let P = can_book_lem allowed in (P.sized, P.inside, P.short)

pub cancel-requires : goal.cancel-requires
cancel-requires c =
    let allowed : let a = c.args in can_book a.f a.n.now a.c.now ≡ true = sym c.can_book.ensures ∙ c.if-not-can_book.false in
    let a = c.args in
    let P = can_book_lem allowed in
    (ap length c.enter.ensures ∙ entered_size a.f a.n.now a.q a.s a.c.now P, P.inside, c.if-p-lt-ROW_COUNT.true)

pub returns-then-p-lt-ROW_COUNT : goal.returns-then-p-lt-ROW_COUNT
returns-then-p-lt-ROW_COUNT c =
    let allowed : let a = c.args in can_book a.f a.n.now a.c.now ≡ true = sym c.can_book.ensures ∙ c.if-not-can_book.false in
    let a = c.args in
    c.cancel.ensures
    ∙ ap (cancelled_by a.f a.p) c.enter.ensures
    ∙ booked_cancellation a.f a.n.now a.q a.s a.p a.c.now allowed c.if-p-lt-ROW_COUNT.true

pub returns-else-p-lt-ROW_COUNT : goal.returns-else-p-lt-ROW_COUNT
returns-else-p-lt-ROW_COUNT c =
    let allowed : let a = c.args in can_book a.f a.n.now a.c.now ≡ true = sym c.can_book.ensures ∙ c.if-not-can_book.false in
    let a = c.args in
    c.enter.ensures ∙ booked_original a.f a.n.now a.q a.s a.p a.c.now allowed c.if-p-lt-ROW_COUNT.false

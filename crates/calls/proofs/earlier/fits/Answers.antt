use Rattle.calls.proofs.JudgingLaws.{fits_not, fits_told}
use Rattle.calls.proofs.earlier.fits.Goals as goal

pub returns-then-earlier-ne-SIZE : goal.returns-then-earlier-ne-SIZE
returns-then-earlier-ne-SIZE c = fits_not _ _ c.if-earlier-ne-SIZE.true

pub returns : goal.returns
returns c =
    fits_told _ _ c.if-earlier-ne-SIZE.false c.read-told.ensures
    c.before_booking.ensures c.before_booking-2.ensures c.same.ensures

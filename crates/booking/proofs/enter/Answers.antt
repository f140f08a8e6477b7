use mathlib.Core.Path.{ap, ◌∙◌}
use mathlib.Core.List.{List}
use Prim.Native.Nat.{ℕ}
use Rattle.frame.specs.Parts.{put}
use Rattle.frame.proofs.PartLaws.{put_lent}
use Rattle.ledger.specs.Row.{row_size}
use Rattle.booking.specs.Booking.{entered}
use Rattle.booking.proofs.enter.Goals as goal

pub returns : goal.returns
unfolding entered
returns c =
    let a = c.args in
    let whole : List ℕ = a.c.now in
    put_lent row_size a.f _ whole ∙ ap (λ (w : List ℕ). put row_size a.f w whole) c.fill_row.ensures

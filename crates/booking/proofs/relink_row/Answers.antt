use mathlib.Core.Path.{ap, ◌∙◌}
use mathlib.Core.List.{List}
use Prim.Native.Nat.{ℕ}
use native.Mathlib.Omega.{arith}
use Rattle.frame.specs.Parts.{put}
use Rattle.frame.proofs.PartLaws.{part_lent, put_lent}
use Rattle.ledger.specs.Row.{row_size, byte_of}
use Rattle.booking.specs.Booking.{relinked, relinked_at}
use Rattle.booking.proofs.relink_row.Goals as goal

pub returns : goal.returns
unfolding relinked_at
returns c =
    let a = c.args in
    let whole : List ℕ = a.c.now in
    put_lent row_size a.k _ whole
    ∙ ap (λ (w : List ℕ). put row_size a.k w whole)
    (c.relink.ensures ∙ ap (relinked (byte_of a.state) a.p) (part_lent row_size a.k whole (omega arith)).0)

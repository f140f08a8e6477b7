use Rattle.std.proofs.Common.{ap, ◌∙◌, refl}
use borrow.Author.Tests.{eq-eqb, ne_eqb}
use mathlib.Core.List.{List}
use Prim.Native.Nat.{ℕ}
use Rattle.frame.specs.Every.{every}
use Rattle.ledger.specs.Sound.{rows_of, row_count, sound_row, sound_compartment}
use Rattle.ledger.proofs.sound_compartment.Goals as goal

pub returns-in-Some : goal.returns-in-Some
unfolding sound_compartment
returns-in-Some c =
    let whole = c.in-Some.ensures.cases in
    c.sound_rows.ensures ∙ ap (λ (d : List ℕ). every row_count (sound_row (rows_of d))) whole.same ∙ rw (eq-eqb _ _ whole.long) refl

pub returns-in-None : goal.returns-in-None
unfolding sound_compartment
returns-in-None c = rw (ne_eqb _ _ c.in-None.ensures.cases) refl

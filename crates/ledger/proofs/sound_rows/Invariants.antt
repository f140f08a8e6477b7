use mathlib.Core.Bool.{true}
use mathlib.Core.Path.{◌≡◌}
use Rattle.frame.specs.Every.{every}
use Rattle.ledger.specs.Row.{filled_row}
use Rattle.ledger.specs.Sound.{rows_of, sound_row}
use lib.ListN.{length}
use Rattle.ledger.specs.Slots.{slot_count}
use Rattle.ledger.proofs.SlotLaws.{Marked}
use Rattle.ledger.proofs.sound_rows.Given as goal

abbrev pub invariant-loop-k : goal.invariant-loop-k
invariant-loop-k l =
    (every l.k (sound_row (rows_of l.c)) ≡ true) × (every l.k (λ j. filled_row (rows_of l.c j)) ≡ true) × Marked l.seen l.c l.k
    × (length l.seen ≡ slot_count)

use Prim.Native.Nat.{ℕ}
use mathlib.Core.Bool.{Bool}
use mathlib.Core.List.{List}
use mathlib.Core.Path.{ap, sym, ◌∙◌}
use Rattle.ledger.specs.declared.Asked.{Asked}
use Rattle.ledger.specs.Row.{state}
use Rattle.ledger.specs.Sound.{rows_of}
use Rattle.ledger.specs.Lookup.{is_asked, is_asked_row}
use Rattle.ledger.proofs.LookupLaws.{row_found, row_missing}
use Rattle.ledger.proofs.row_asked.Goals as goal

abbrev asks : Asked → List ℕ → ℕ → Bool
asks asked c j = is_asked asked (state (rows_of c j))

pub returns-then-is_asked_with : goal.returns-then-is_asked_with
returns-then-is_asked_with c =
    let args = c.args in
    let tested = sym (c.is_asked_with.ensures ∙ ap (λ (w : List ℕ). is_asked_row args.asked (λ k. w) args.n.now 0) c.row.ensures) in
    row_found (is_asked_row args.asked (rows_of args.c.now) args.n.now) c.loop-k.k c.loop-k-test.true c.loop-k.invariant.1 (tested ∙ c.if-is_asked_with.true)

pub returns : goal.returns
returns c =
    let args = c.args in
    row_missing (is_asked_row args.asked (rows_of args.c.now) args.n.now) _ c.loop-k-test.false c.loop-k.invariant.1

use borrow.Author.Rules.{rules}
use Prim.Native.Nat.{◌+◌}
use mathlib.Core.List.{◌++◌}
use mathlib.Core.Path.{◌≡◌, refl, ◌∙◌}
use native.Mathlib.Omega.{arith}
use lib.ListN.{length, take, length-append}
use lib.Seq.{length-take-le}
use Rattle.fields.specs.Fields.{semicolons_from}
use Rattle.fields.proofs.FieldLaws.{semicolons_hit, semicolons_miss, semicolons_over, semicolons_end}
use Rattle.fields.proofs.extend.Goals as goal
use Rattle.fields.proofs.extend.Goals.{then-b-eq59+else-count-eq38, else-b-eq59}

pub returns-then-count-eq38 : goal.returns-then-count-eq38
returns-then-count-eq38 c =
    let l = c.loop-i in
    let args = c.args in
    let first = take args.found args.stops.now in
    let more = semicolons_from args.at args.w.now in
    let size : length (first ++ more) ≡ args.found + length more
    = length-append first more ∙ rw (length-take-le args.found args.stops.now (omega arith)) refl in
    let over = semicolons_over _ _ l.stops l.count _ _ l.invariant.2 c.loop-i-test.true c.if-b-eq59.true (omega arith) in
    record { sized = l.invariant.1; within = λ h. absurd (omega (arith, h)); over = λ h. omega (arith, over, size, c.if-count-eq38.true) }

pub loop-i-preserved : goal.loop-i-preserved
loop-i-preserved c =
    let l = c.loop-i in
    elim c.if-b-eq59.branch [
      | then-b-eq59+else-count-eq38 w ↦
          rw (w.stops-is, w.count-is)
          (search rules, search rules, semicolons_hit _ _ l.stops l.count _ _ l.invariant.2 c.loop-i-test.true w.if-b-eq59.true (omega arith))
      | else-b-eq59 w ↦
          rw (w.stops-is, w.count-is)
          (l.invariant.0, l.invariant.1, semicolons_miss _ _ l.stops l.count _ _ l.invariant.2 c.loop-i-test.true w.if-b-eq59.false)
    ]

pub returns : goal.returns
returns c =
    let l = c.loop-i in
    record {
      sized = l.invariant.1;
      within = λ h. semicolons_end _ _ l.stops l.count _ _ l.invariant.2 c.loop-i-test.false;
      over = λ h. absurd (omega (arith, h, l.invariant.0));
    }

use native.Mathlib.Omega.{arith}
use mathlib.Core.Path.{◌∙◌}
use Rattle.texts.proofs.TextLaws.{code_digit, code_value}
use Rattle.texts.proofs.code_of.Goals as goal

pub digit-requires : goal.digit-requires
digit-requires c =
    code_digit c.args.w.now c.requires.0 0 (omega arith) c.requires.1

pub digit-requires-2 : goal.digit-requires-2
digit-requires-2 c =
    code_digit c.args.w.now c.requires.0 1 (omega arith) c.requires.1

pub digit-requires-3 : goal.digit-requires-3
digit-requires-3 c =
    code_digit c.args.w.now c.requires.0 2 (omega arith) c.requires.1

pub digit-requires-4 : goal.digit-requires-4
digit-requires-4 c =
    code_digit c.args.w.now c.requires.0 3 (omega arith) c.requires.1

pub returns : goal.returns
returns c =
    (c.from.ensures ∙ code_value c.args.w.now (omega (arith, c.requires.0)) c.digit.ensures.0 c.digit-2.ensures.0 c.digit-3.ensures.0 c.digit-4.ensures.0, omega (arith, c.from.ensures, c.digit.ensures.1, c.digit-2.ensures.1, c.digit-3.ensures.1, c.digit-4.ensures.1))

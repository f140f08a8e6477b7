use Prim.Native.Nat.{ℕ, ◌+◌}
use mathlib.Core.Path.{◌≡◌, ap, ◌∙◌}
use Rattle.std.proofs.Common.{rules, tests}
use Rattle.std.proofs.lemmas.Iterator.{YieldsList-from_slice}
use Rattle.std.proofs.lemmas.Iterator.Consumers.{count_from_yields_List}
use Rattle.std.proofs.lemmas.Iterator.Search.{YieldsList-from_take_while}
use lib.ListN.{length}
use Rattle.std.specs.List.{take_while}
use Rattle.text.specs.Class.{belongs_to}
use Rattle.envelope.proofs.PieceLaws.{counted_run}
use Rattle.envelope.proofs.run_end.Goals as goal

pub returns : goal.returns
returns c =
    let mirrored : c.count.result ≡ length (take_while (belongs_to c.args.k) c.rest.result.now) =
    count_from_yields_List c.take_while.result _ c.count.ensures.ran
    (YieldsList-from_take_while _ (belongs_to c.args.k) (YieldsList-from_slice _ cc) c.take_while.ensures.closure
    c.take_while.ensures.done (λ x b q h. search (rules, tests))) in
    ap (λ (n : ℕ). c.args.at + n) (rw (← c.rest.ensures.bytes) (mirrored ∙ counted_run _ _))

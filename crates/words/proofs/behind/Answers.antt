use Prim.Native.Nat.{◌+◌}
use native.Mathlib.Omega.{arith}
use lib.ListN.{length}
use Rattle.std.proofs.lemmas.List.{take_rest}
use Rattle.text.proofs.PartLaws.{at_byte}
use Rattle.words.proofs.LineLaws.{behind_found, behind_none, lies_behind}
use Rattle.words.proofs.behind.Goals as goal

pub returns-in-Some : goal.returns-in-Some
returns-in-Some c =
    let a = c.args in
    let k = c.in-Some.k in
    let found = behind_found a.b k a.s.now c.in-Some.ensures in
    lies_behind a.b (k + 1) (omega (arith, found.0)) found.1 (take_rest a.s.now (k + 1)) (at_byte a.s (k + 1))

pub returns-in-None : goal.returns-in-None
returns-in-None c =
    let a = c.args in
    lies_behind a.b (length a.s.now) (omega arith) (behind_none a.b a.s.now c.in-None.ensures) (take_rest a.s.now _) (at_byte a.s _)

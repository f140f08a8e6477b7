use Rattle.std.proofs.Common.{◌≡◌, ◌<◌, length, get_or, ◌-◌, rules}
use Rattle.ledger.specs.Sound.{rows_of}
use Rattle.ledger.proofs.LookupLaws.{none_ending}
use Rattle.ledger.proofs.next_ending.Goals as goal

pub returns-in-Some : goal.returns-in-Some
returns-in-Some c =
    let args = c.args in
    let n = args.n.now in
    let some : 0 < length n = search (rules, c.in-Some.ensures.item, c.in-Some.ensures.value) in
    let last : c.in-Some.field-0.now ≡ get_or n (length n - 1) 0 = search (rules, c.in-Some.ensures.item, c.in-Some.ensures.value) in
    (c.next_with.ensures.behind, c.next_with.ensures.within, none_ending (rows_of args.c.now) n _ _ some (rw last at c.next_with.ensures.none))

use Rattle.std.proofs.Common.{◌≡◌, take, drop, length-drop, refl, arith}
use Rattle.std.proofs.lemmas.List.{take_all}
use Rattle.tables.specs.Reporters.{reporter_form}
use Rattle.tables.proofs.is_reporter.Goals as goal

pub returns : goal.returns
unfolding reporter_form
returns c =
    let w = c.args.w.now in
    let zeros : take 8 (drop 24 w) ≡ drop 24 w = take_all 8 (drop 24 w) (omega (arith, length-drop 24 w, c.told-w)) in
    rw (c.is_bank_code.ensures, c.code_of.ensures, c.is_swift.ensures, c.address_of.ensures, c.is_mailbox.ensures, c.is_zero.ensures, zeros) refl

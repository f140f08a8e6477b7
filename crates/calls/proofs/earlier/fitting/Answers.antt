use mathlib.Core.Path.{sym}
use Rattle.std.proofs.lemmas.Result.{err_from_is_err_and}
use Rattle.refusal.proofs.RefusalLaws.{number_some}
use Rattle.calls.proofs.JudgingLaws.{number_first, number_unfit, number_none}
use Rattle.calls.proofs.earlier.fitting.Goals as goal

pub returns-in_err-refusal : goal.returns-in_err-refusal
returns-in_err-refusal c =
    let p = err_from_is_err_and c.from_residual.result c.from_residual.ensures.1 in
    rw (p.1, p.2) (record { number = number_first _ _ _ _ c.in_err-refusal.ensures (number_some _); foreseen = tt })

pub judged-foreseen-requires : goal.judged-foreseen-requires
judged-foreseen-requires c = sym c.in_ok-refusal.ensures

pub returns-then-not-fits : goal.returns-then-not-fits
returns-then-not-fits c =
    record {
      number = number_unfit _ _ _ _ (sym c.in_ok-refusal.ensures) c.judged-foreseen.ensures c.fits.ensures c.if-not-fits.true;
      foreseen = tt;
    }

pub returns : goal.returns
returns c =
    record {
      number = number_none _ _ _ _ (sym c.in_ok-refusal.ensures) c.judged-foreseen.ensures c.fits.ensures c.if-not-fits.false;
      foreseen = c.judged-foreseen.ensures;
    }

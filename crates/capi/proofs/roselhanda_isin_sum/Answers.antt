use mathlib.Core.Path.{refl}
use Rattle.capi.proofs.ExportLaws.{sum_told}
use Rattle.capi.proofs.roselhanda_isin_sum.Goals as goal

pub returns : goal.returns
returns c = sum_told c.letter_sum.ensures refl

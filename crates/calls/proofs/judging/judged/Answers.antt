use mathlib.Core.Path.{◌≡◌, refl}
use Rattle.tables.specs.Tables.{lent}
use Rattle.calls.specs.Call.{sent}
use Rattle.calls.proofs.CallLaws.{index_ready, index_foreseen}
use Rattle.calls.proofs.judging.judged.Goals as goal

pub foresee-requires : goal.foresee-requires
foresee-requires c =
    let a = c.args in
    let bytes : c.of-record.result.bytes.now ≡ a.call.«record».now = rw c.of-record.ensures.lent refl in
    index_ready (lent a.tables) (sent a.call) _ c.requires bytes c.of-record.ensures.index c.judge_formal-formal.ensures

pub returns : goal.returns
returns c =
    let a = c.args in
    let bytes : c.of-record.result.bytes.now ≡ a.call.«record».now = rw c.of-record.ensures.lent refl in
    index_foreseen (lent a.tables) (sent a.call) _ c.requires bytes c.of-record.ensures.index c.judge_formal-formal.ensures c.foresee.ensures

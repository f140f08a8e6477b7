-- Laws of refusals: each has a number that is not 0.
-- Assumes nothing.
use native.Mathlib.Omega.{arith}
use mathlib.Core.Logic.{◌≢◌}
use Rattle.refusal.specs.declared.Refusal.{Refusal}
use Rattle.refusal.specs.declared.Refusal.TheVariants as Why
use Rattle.refusal.specs.Refusal.{number_of}

pub number_some : (why : Refusal) → number_of why ≢ 0
number_some Why.FileSize = omega arith
number_some Why.Reporters = omega arith
number_some Why.Currencies = omega arith
number_some Why.Ledger = omega arith
number_some Why.Head = omega arith
number_some Why.Moment = omega arith
number_some Why.Receiver = omega arith
number_some Why.Body = omega arith
number_some Why.Tail = omega arith
number_some Why.ControlWord = omega arith
number_some Why.RecordCount = omega arith
number_some Why.ShortBuffer = omega arith
number_some Why.Sender = omega arith
number_some Why.Record = omega arith
number_some Why.Answers = omega arith
number_some Why.Texts = omega arith
number_some Why.MissingText = omega arith
number_some Why.ErrorFileMoment = omega arith
number_some Why.ErrorFileRoom = omega arith
number_some Why.EarlierAnswer = omega arith

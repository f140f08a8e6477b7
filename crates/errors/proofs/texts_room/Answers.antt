use Prim.Native.Nat.{ℕ}
use mathlib.Core.Path.{sym}
use lib.ListN.{length-replicate}
use Rattle.errors.proofs.texts_room.Goals as goal

-- a buffer is as long as it was made, whatever its size
pub returns : goal.returns
returns c = sym (length-replicate {A = ℕ} 800001 0)

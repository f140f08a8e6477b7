use mathlib.Core.List.{List, [], ◌∷◌}
use mathlib.Core.Bool.{Bool}
use Prim.Native.Nat.{ℕ, ◌^◌}
use lib.Dec.{eqb}
use borrow.Author.Tests.{eqb-true}
use mathlib.Core.Path.{refl}
use lib.ListN.{get_or}
use Rattle.frame.specs.Every.{every}
use Rattle.frame.proofs.EveryLaws.{every_at}
use borrow.Author.Rules.{rules}
use Rattle.decimal.proofs.power.Goals as goal

powers : List ℕ
powers =
    1 ∷ 10 ∷ 100 ∷ 1000 ∷ 10000 ∷ 100000 ∷ 1000000 ∷ 10000000 ∷ 100000000 ∷ 1000000000 ∷
    10000000000 ∷ 100000000000 ∷ 1000000000000 ∷ 10000000000000 ∷ 100000000000000 ∷
    1000000000000000 ∷ 10000000000000000 ∷ 100000000000000000 ∷ 1000000000000000000 ∷ 10000000000000000000 ∷ []

-- each entry is the power of its place: one test that is computed over the table
right : ℕ → Bool
right k = eqb (get_or powers k 0) (10 ^ k)

pub returns : goal.returns
unfolding powers right every
returns c = eqb-true _ (10 ^ c.args.n) (every_at 20 right refl c.args.n (search rules))

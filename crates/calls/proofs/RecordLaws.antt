-- The single calls of the records of a body, by a sender in form, are not refused.
-- Assumes nothing.
use Prim.Native.Nat.{ℕ, ◌≤◌}
use native.Mathlib.Omega.{arith}
use mathlib.Core.Bool.{true}
use mathlib.Core.List.{List, [], ◌∷◌, map}
use mathlib.Core.Path.{◌≡◌, refl, sym}
use borrow.Author.Tests.{le-leb}
use lib.ListN.{length}
use Rattle.frame.proofs.BoolLaws.{and_intro}
use Rattle.identifier.specs.Identifier.{name_up_to}
use Rattle.tables.specs.Tables.{Tables, tables_flaw}
use Rattle.envelope.specs.Body.{Records, broken, records, records_of}
use Rattle.envelope.specs.Envelope.{listed}
use Rattle.envelope.proofs.RecordLaws.{EachFormed, each_formed}
use Rattle.calls.specs.Call.{called, record_limit, record_form}
use Rattle.calls.specs.FileSteps.{calls_from, Admitted}
use Rattle.calls.proofs.CallLaws.{call_passes, accepted_call}

-- with tables in order, since each record is in form
module _ (tables : Tables) (sender : List ℕ) (lent : tables_flaw tables ≡ 0) (named : name_up_to 8 sender ≡ true) where
  formed_admitted : (n : ℕ) → n ≤ record_limit → (rs : List (List ℕ)) → EachFormed n (records rs) → Admitted tables (map (called sender) rs)
  unfolding record_form
  formed_admitted n h [] f = tt
  formed_admitted n h (r ∷ rs) f =
      let e = f.0 in
      let short : length r ≤ record_limit = omega arith in
      let passes = call_passes (called sender r) named (and_intro _ _ (le-leb _ _ short) f.1) in
      (sym (accepted_call tables (called sender r) 0 lent refl passes), formed_admitted n h rs f.2)

  pub body_admitted : (body : List ℕ) → length body ≤ record_limit → Admitted tables (calls_from sender body 0)
  body_admitted body h = go (records_of body) (each_formed body)
    where
      go : (rs : Records) → EachFormed (length body) rs → Admitted tables (map (called sender) (listed rs))
      go broken f = tt
      go (records rs) f = formed_admitted (length body) h rs f

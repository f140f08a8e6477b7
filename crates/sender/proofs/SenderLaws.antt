-- Laws of the sender check: a record passes for the row that F1 and F2 find, whose mailbox is the sender; or it fails at one of places 0 to 6.
-- Assumes nothing.
use Prim.Native.Nat.{ℕ, ◌≤◌, ◌<◌}
use native.Mathlib.Nat.{lt_of_lt_of_le}
use native.Mathlib.Omega.{arith}
use mathlib.Core.Bool.{Bool, true, false, ◌&&◌, ◌||◌, not, cond, false≢true}
use mathlib.Core.List.{List}
use mathlib.Core.Path.{◌≡◌, refl, sym, ap}
use Rattle.std.specs.Prelude.{Ok, Err, Some, None}
use Rattle.frame.specs.Every.{within}
use borrow.Author.Tests.{ltb-true}
use lib.Dec.{lit≤, ltb}
use lib.ListN.{length, get_or}
use Rattle.failures.specs.declared.Failures.{Failures}
use Rattle.failures.specs.Failures.{added, added_from, no_failure, is_empty, before_booking, first_place}
use Rattle.failures.proofs.FailureLaws.{none_failed, first_below, before_same}
use Rattle.fields.specs.Forms.{blank, is}
use Rattle.tables.specs.Reporters.{reporter_count, has_mailbox}
use Rattle.sender.specs.Sender.{reporter_row, is_found, reporter_tests, sender_tests, sender_check}

-- an answer that passes is that of an empty set, and one that fails that of another
passed_empty : (b : Bool) (s : Failures) (row r : ℕ) → cond b (Ok row) (Err s) ≡ Ok r → (b ≡ true) × (r ≡ row)
passed_empty true s row r e = (refl, cc)
passed_empty false s row r e = let z : ◌≡◌ {A = ℕ} 0 1 = cc in absurd (omega arith)

failed_not_empty : (b : Bool) (s t : Failures) (row : ℕ) → cond b (Ok row) (Err s) ≡ Err t → (b ≡ false) × (t ≡ s)
failed_not_empty true s t row e = let z : ◌≡◌ {A = ℕ} 0 1 = cc in absurd (omega arith)
failed_not_empty false s t row e = (refl, cc)

-- where none of places 1 to 6 fails, a row is found and its mailbox is the sender
found_and_sent : (blank1 b s blank2 found sent : Bool) → blank1 ≡ false → not blank1 && not (b || s) ≡ false → blank2 ≡ false
    → b && not blank2 && not found ≡ false → s && not blank2 && not found ≡ false → found && not sent ≡ false → (found ≡ true) × (sent ≡ true)
found_and_sent false b s false true true p1 p2 p3 p4 p5 p6 = (refl, refl)
found_and_sent false b s false true false p1 p2 p3 p4 p5 p6 = absurd (false≢true (sym p6))
found_and_sent false true s false false sent p1 p2 p3 p4 p5 p6 = absurd (false≢true (sym p4))
found_and_sent false false true false false sent p1 p2 p3 p4 p5 p6 = absurd (false≢true (sym p5))
found_and_sent false false false false false sent p1 p2 p3 p4 p5 p6 = absurd (false≢true (sym p2))
found_and_sent false b s true found sent p1 p2 p3 p4 p5 p6 = absurd (false≢true (sym p3))
found_and_sent true b s blank2 found sent p1 p2 p3 p4 p5 p6 = absurd (false≢true (sym p1))

-- there are seven tests, or place 0 alone
tests_length : (reporters sender : List ℕ) (whole : Bool) (f1 f2 : List ℕ) → length (sender_tests reporters sender whole f1 f2) ≤ 7
unfolding sender_tests reporter_tests
tests_length reporters sender true f1 f2 = lit≤ tt
tests_length reporters sender false f1 f2 = lit≤ tt

-- where none of them fails, the record has its 38 semicolons, a row is found and its mailbox is the sender
none_fails : (reporters sender : List ℕ) (whole : Bool) (f1 f2 : List ℕ) → ((k : ℕ) → get_or (sender_tests reporters sender whole f1 f2) k false ≡ false)
    → (whole ≡ true) × (is_found reporters (reporter_row reporters f1 f2) ≡ true) × (has_mailbox reporters sender (reporter_row reporters f1 f2) ≡ true)
unfolding sender_tests reporter_tests
none_fails reporters sender false f1 f2 h = absurd (false≢true (sym (h 0)))
none_fails reporters sender true f1 f2 h =
    let row = reporter_row reporters f1 f2 in
    let judged = found_and_sent (blank f1) (is f1 "B") (is f1 "S") (blank f2) (is_found reporters row) (has_mailbox reporters sender row) in
    let (found, sent) = judged (h 1) (h 2) (h 3) (h 4) (h 5) (h 6) in
    (refl, found, sent)

-- a row that is handed out is the one that F1 and F2 find
row_within : (n k r : ℕ) → Some r ≡ within n k → r ≡ k
row_within n k r e = go (ltb k n) e
  where
    go : (b : Bool) → Some r ≡ cond b (Some k) None → r ≡ k
    go true e = cc
    go false e = cc

-- what the code has in hand: the failures of places 1 to 6, of a record that has its 38 semicolons
module _ (reporters sender f1 f2 : List ℕ) {failed : Failures} (e : failed ≡ added_from no_failure 1 (reporter_tests reporters sender f1 f2 (reporter_row reporters f1 f2))) where
  pub check_passes : {r : ℕ} → is_empty failed ≡ true → Some r ≡ within (reporter_count reporters) (reporter_row reporters f1 f2)
      → Ok r ≡ sender_check reporters sender true f1 f2
  unfolding sender_check sender_tests added_from added
  check_passes h found = rw (← e, h) (ap Ok (row_within _ _ _ found))

  pub check_fails : is_empty failed ≡ false → Err failed ≡ sender_check reporters sender true f1 f2
  unfolding sender_check sender_tests added_from added
  check_fails h = rw (← e, h) refl

  -- where no row is found, one of them fails
  pub check_unfound : None ≡ within (reporter_count reporters) (reporter_row reporters f1 f2) → Err failed ≡ sender_check reporters sender true f1 f2
  unfolding sender_tests added_from added
  check_unfound none = check_fails (go (is_empty failed) refl)
    where
      go : (b : Bool) → is_empty failed ≡ b → is_empty failed ≡ false
      go true h =
          let tests = sender_tests reporters sender true f1 f2 in
          let l : length tests ≤ 7 = tests_length reporters sender true f1 f2 in
          let (all, found, sent) = none_fails reporters sender true f1 f2 (none_failed tests 0 (rw e at h) (omega arith)) in
          let some = rw found at none in
          cc
      go false h = h

module _ (reporters sender : List ℕ) (whole : Bool) (f1 f2 : List ℕ) where
  pub passed_row : {r : ℕ} → sender_check reporters sender whole f1 f2 ≡ Ok r
      → (r ≡ reporter_row reporters f1 f2) × (r < reporter_count reporters) × (whole ≡ true) × (has_mailbox reporters sender r ≡ true)
  unfolding sender_check
  passed_row {r} e =
      let tests = sender_tests reporters sender whole f1 f2 in
      let failed = added_from no_failure 0 tests in
      let (empty, here) = passed_empty (is_empty failed) failed (reporter_row reporters f1 f2) r e in
      let l : length tests ≤ 7 = tests_length reporters sender whole f1 f2 in
      let (all, found, sent) = none_fails reporters sender whole f1 f2 (none_failed tests 0 empty (omega arith)) in
      (here, rw here (ltb-true _ _ found), all, rw here sent)

  failed_set : {s : Failures} → sender_check reporters sender whole f1 f2 ≡ Err s
      → (s ≡ added_from no_failure 0 (sender_tests reporters sender whole f1 f2)) × (is_empty s ≡ false)
  unfolding sender_check
  failed_set {s} e =
      let failed = added_from no_failure 0 (sender_tests reporters sender whole f1 f2) in
      let (some, here) = failed_not_empty (is_empty failed) failed s (reporter_row reporters f1 f2) e in
      (here, rw here some)

  pub failed_some : {s : Failures} → sender_check reporters sender whole f1 f2 ≡ Err s → is_empty s ≡ false
  failed_some e = (failed_set e).1

  -- its failures are all before the booking
  pub failed_before : {s : Failures} → sender_check reporters sender whole f1 f2 ≡ Err s → before_booking s ≡ s
  failed_before e =
      let tests = sender_tests reporters sender whole f1 f2 in
      let l : length tests ≤ 7 = tests_length reporters sender whole f1 f2 in
      rw (failed_set e).0 (before_same tests 0 (omega arith))

  pub failed_first : {s : Failures} → sender_check reporters sender whole f1 f2 ≡ Err s → first_place s < 7
  failed_first e =
      let tests = sender_tests reporters sender whole f1 f2 in
      let l : length tests ≤ 7 = tests_length reporters sender whole f1 f2 in
      let (here, some) = failed_set e in
      rw here (lt_of_lt_of_le (first_below tests (omega arith) (rw here at some)) l)

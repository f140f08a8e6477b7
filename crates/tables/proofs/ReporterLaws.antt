-- Laws of the reporters table: a table in order has at most sixteen rows, and a bank code or an address stands in at most one of them.
-- Assumes nothing.
use Prim.Native.Nat.{ℕ, ◌*◌, ◌≤◌, ◌<◌}
use native.Mathlib.Omega.{arith}
use mathlib.Core.Bool.{Bool, true, false, ◌&&◌, ◌||◌, not, false≢true}
use mathlib.Core.List.{List, []}
use mathlib.Core.Path.{◌≡◌, refl, sym, ◌∙◌}
use borrow.Author.Tests.{lt-ltb, le-ltb, ltb-true, eqb-false, not-true}
use lib.Dec.{ltb, eqb}
use lib.ListN.{length, get_or, length-take, length-drop}
use Rattle.std.specs.Prelude.{None}
use Rattle.std.specs.List.{position}
use Rattle.frame.specs.Every.{within, least}
use Rattle.frame.specs.Parts.{AreParts}
use Rattle.frame.proofs.BoolLaws.{and_left, and_right}
use Rattle.frame.proofs.EveryLaws.{every_at}
use Rattle.frame.proofs.LeastLaws.{least_hit, least_is, least_none}
use Rattle.frame.proofs.ListLaws.{position_least}
use Rattle.frame.proofs.PartLaws.{part_length}
use Rattle.text.specs.Bytes.{same}
use Rattle.text.specs.Number.{number_at}
use Rattle.text.proofs.ByteLaws.{same_true, same_refl, same_apart}
use Rattle.identifier.specs.Identifier.{completed, same_address}
use Rattle.identifier.proofs.AddressLaws.{address_equal_lengths}
use Rattle.tables.specs.Reporters.{reporter_size, reporter_limit, reporter_count, reporter_at, code_of, address_of, reporter_form, reporters_differ}
use Rattle.tables.specs.Reporters.{reporter_ok, reporters_ok, has_code, has_address, row_by_code, row_by_address}
use Rattle.tables.proofs.TableLaws.{table_length, table_part}

-- lists that are both the same as a third are the same
same_both : (a b f : List ℕ) → same a f ≡ true → same b f ≡ true → same a b ≡ true
same_both a b f p q = rw (same_true a f p, same_true b f q) (same_refl f)

-- and addresses of one length that are both the same as a third, once completed
addresses_both : (a b f : List ℕ) → length a ≡ length b → same_address a f ≡ true → same_address b f ≡ true → same a b ≡ true
unfolding same_address
addresses_both a b f l p q = address_equal_lengths a b l ∙ same_both (completed a) (completed b) (completed f) p q

-- the address in a whole row has eleven bytes
address_length : (t : List ℕ) (k : ℕ) → k < reporter_count t → length (address_of (reporter_at t k)) ≡ 11
address_length t k h =
    let row : length (reporter_at t k) ≡ reporter_size = part_length reporter_size k t (omega arith) in
    rw (length-take, length-drop, row) refl

-- where the first row stands of which a part is as it has to be
module _ (t f : List ℕ) (part : List ℕ → List ℕ) (test : List ℕ → List ℕ → Bool) (rows : List (List ℕ)) (cut : AreParts reporter_size t rows) where
  abbrev passes : ℕ → Bool
  passes k = ltb k (reporter_count t) && test (part (reporter_at t k)) f

  pub row_found : position (λ w. test (part w) f) rows ≡ within (reporter_count t) (least (reporter_count t) passes)
  row_found =
      let same : (k : ℕ) → k < length rows → passes k ≡ test (part (get_or rows k [])) f =
      λ k h. let inside : k < reporter_count t = omega arith in rw (lt-ltb _ _ inside, cut.each k [] h) refl in
      rw (position_least (λ w. test (part w) f) rows [] passes same, cut.count) refl

-- the bank code of a whole row has five bytes, so that none is a text of another length
code_length : (t : List ℕ) (k : ℕ) → k < reporter_count t → length (code_of (reporter_at t k)) ≡ 5
code_length t k h =
    let row : length (reporter_at t k) ≡ reporter_size = part_length reporter_size k t (omega arith) in
    rw (length-take, row) refl

pub row_code_absent : (t f : List ℕ) → (length f ≡ 5 → ⊥) → within (reporter_count t) (row_by_code t f) ≡ None
unfolding row_by_code has_code
row_code_absent t f short =
    let count = reporter_count t in
    let absent : (k : ℕ) → k < count → has_code t f k ≡ false =
    λ k h. rw (lt-ltb _ _ h) (sym (same_apart length _ _ (λ e. short (sym e ∙ code_length t k h)))) in
    rw (least_none count (has_code t f) absent, le-ltb count count (omega arith)) refl

-- a row that is found has what was looked up
pub row_code_found : (t f : List ℕ) → row_by_code t f < reporter_count t → has_code t f (row_by_code t f) ≡ true
unfolding row_by_code
row_code_found t f h = least_hit (reporter_count t) (has_code t f) h

pub row_address_found : (t f : List ℕ) → row_by_address t f < reporter_count t → has_address t f (row_by_address t f) ≡ true
unfolding row_by_address
row_address_found t f h = least_hit (reporter_count t) (has_address t f) h

pub rows_below : (t : List ℕ) → reporters_ok t ≡ true → reporter_count t ≤ reporter_limit
unfolding reporters_ok
rows_below t ok = omega (arith, table_length (reporter_limit * reporter_size) reporter_size (reporter_ok t) t ok)

module _ (t : List ℕ) (ok : reporters_ok t ≡ true) (k j : ℕ) (h : k < reporter_count t) (l : j < k) where
  rows_differ : reporters_differ t k j ≡ true
  unfolding reporters_ok reporter_ok
  rows_differ =
      let row = table_part (reporter_limit * reporter_size) reporter_size (reporter_ok t) t ok k h in
      every_at k (reporters_differ t k) (and_right (reporter_form (reporter_at t k)) _ row) j l

  codes_differ : same (code_of (reporter_at t k)) (code_of (reporter_at t j)) ≡ false
  unfolding reporters_differ
  codes_differ = not-true _ (and_left (not (same (code_of (reporter_at t k)) (code_of (reporter_at t j)))) _ rows_differ)

  addresses_differ : same (address_of (reporter_at t k)) (address_of (reporter_at t j)) ≡ false
  unfolding reporters_differ
  addresses_differ = not-true _ (and_right (not (same (code_of (reporter_at t k)) (code_of (reporter_at t j)))) _ rows_differ)

-- no other row has the bank code that row k has
pub code_unique : (t f : List ℕ) (k : ℕ) → reporters_ok t ≡ true → has_code t f k ≡ true → row_by_code t f ≡ k
unfolding row_by_code has_code
code_unique t f k ok e =
    let h : k < reporter_count t = ltb-true _ _ (and_left _ _ e) in
    least_is (reporter_count t) (has_code t f) k h (λ j l. other j l h (has_code t f j) refl) e
  where
    other : (j : ℕ) → j < k → k < reporter_count t → (b : Bool) → has_code t f j ≡ b → b ≡ false
    other j l h true q =
        let here = and_right (ltb k (reporter_count t)) _ e in
        let there = and_right (ltb j (reporter_count t)) _ q in
        absurd (false≢true (sym (codes_differ t ok k j h l) ∙ same_both _ _ f here there))
    other j l h false q = refl

-- nor the address
pub address_unique : (t f : List ℕ) (k : ℕ) → reporters_ok t ≡ true → has_address t f k ≡ true → row_by_address t f ≡ k
unfolding row_by_address has_address
address_unique t f k ok e =
    let h : k < reporter_count t = ltb-true _ _ (and_left _ _ e) in
    least_is (reporter_count t) (has_address t f) k h (λ j l. other j l h (has_address t f j) refl) e
  where
    other : (j : ℕ) → j < k → k < reporter_count t → (b : Bool) → has_address t f j ≡ b → b ≡ false
    other j l h true q =
        let here = and_right (ltb k (reporter_count t)) _ e in
        let there = and_right (ltb j (reporter_count t)) _ q in
        let lengths = address_length t k h ∙ sym (address_length t j (omega arith)) in
        absurd (false≢true (sym (addresses_differ t ok k j h l) ∙ addresses_both _ _ f lengths here there))
    other j l h false q = refl

-- bank codes whose last two digits differ are not the same
pub codes_apart : (v w : List ℕ) → (number_at 2 3 v ≡ number_at 2 3 w → ⊥) → true ≡ not (same v w)
codes_apart v w n = rw (← same_apart (number_at 2 3) v w n) refl

-- rows without a word in common differ
pub words_apart : (v w : List ℕ)
    → (eqb (number_at 2 3 (code_of v)) (number_at 2 3 (code_of w)) || eqb (number_at 8 0 (address_of v)) (number_at 8 0 (address_of w))) ≡ false
    → true ≡ not (same (code_of v) (code_of w)) && not (same (address_of v) (address_of w))
words_apart v w = go _ _ refl refl
  where
    go : (a b : Bool) → eqb (number_at 2 3 (code_of v)) (number_at 2 3 (code_of w)) ≡ a → eqb (number_at 8 0 (address_of v)) (number_at 8 0 (address_of w)) ≡ b
        → (a || b) ≡ false → true ≡ not (same (code_of v) (code_of w)) && not (same (address_of v) (address_of w))
    go true b p q e = absurd (false≢true (sym e))
    go false true p q e = absurd (false≢true (sym e))
    go false false p q e =
        rw (← codes_apart (code_of v) (code_of w) (eqb-false _ _ p), ← same_apart (number_at 8 0) (address_of v) (address_of w) (eqb-false _ _ q)) refl

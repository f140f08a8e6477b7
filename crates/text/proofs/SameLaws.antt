-- Equality and search of slices by the standard library, in the words of this repository.
-- Assumes nothing.
use Rattle.std.specs.Prelude.{ℕ, suc, ◌+◌, ◌-◌, ◌≤◌, Bool, true, false, ◌&&◌, cond, ltb, Some, None, List, [], ◌∷◌, ◌++◌, length, take, drop, ◌≡◌, nat_eq, refl}
use Rattle.std.specs.Cmp.Lexicographic.{pointwise, slice_cmp}
use Rattle.std.specs.List.{position}
use Rattle.std.proofs.Common.{ap, sym, ◌∙◌, arith}
use Rattle.std.proofs.lemmas.List.{drop-drop, take-append-drop}
use Rattle.std.proofs.lemmas.List.Recursion.{is_position_or_len}
use Rattle.std.specs.Option.{unwrap_or}
use Rattle.std.specs.Ordering.{nat_cmp}
use borrow.Author.Tests.{ltb-false}
use Rattle.frame.specs.Every.{within}
use Rattle.text.specs.Bytes.{same, position_of}
use Rattle.text.specs.Order.{order_of}
use Rattle.frame.proofs.BoolLaws.{and_left, and_right, and_intro, both_ways}
use Rattle.text.proofs.ByteLaws.{position_le, same_true, same_refl}

-- what `a == b` says of two byte slices is that they hold the same bytes
pub eq_same : (s t : List ℕ) → pointwise nat_eq s t ≡ same s t
unfolding same
eq_same [] [] = refl
eq_same [] (y ∷ t) = refl
eq_same (x ∷ s) [] = refl
eq_same (x ∷ s) (y ∷ t) = rw (eq_same s t) refl

-- texts of one length are the same where their first n bytes are and their last n, where these are all their bytes
pub ends_same : (n : ℕ) (s t : List ℕ) → length s ≡ length t → n ≤ length s → length s ≤ n + n
    → same (drop (length s - n) s) (drop (length t - n) t) && same (take n s) (take n t) ≡ same s t
ends_same n s t l h k = both_ways _ _ there back
  where
    -- what stands behind the first n bytes stands behind the first bytes of the last n
    behind : (u : List ℕ) → length u ≡ length s → drop (n + n - length s) (drop (length u - n) u) ≡ drop n u
    behind u e = let m : length u - n + (n + n - length s) ≡ n = omega arith in rw (drop-drop, m) refl

    there : same (drop (length s - n) s) (drop (length t - n) t) && same (take n s) (take n t) ≡ true → same s t ≡ true
    there e =
        let ends : drop (length s - n) s ≡ drop (length t - n) t = same_true _ _ (and_left (same (drop (length s - n) s) (drop (length t - n) t)) _ e) in
        let starts : take n s ≡ take n t = same_true _ _ (and_right (same (drop (length s - n) s) (drop (length t - n) t)) _ e) in
        let rests : drop n s ≡ drop n t = sym (behind s refl) ∙ ap (drop (n + n - length s)) ends ∙ behind t (sym l) in
        let whole : take n s ++ drop n s ≡ take n t ++ drop n t = rw (starts, rests) refl in
        let equal : s ≡ t = sym (take-append-drop n s) ∙ whole ∙ take-append-drop n t in
        rw equal (same_refl t)

    back : same s t ≡ true → same (drop (length s - n) s) (drop (length t - n) t) && same (take n s) (take n t) ≡ true
    back e = let equal : s ≡ t = same_true s t e in rw equal (and_intro _ _ (same_refl _) (same_refl _))

-- what `s.iter().position(|x| *x == b)` gives is where b first stands, if it does
pub position_first : (b : ℕ) (s : List ℕ) → position (λ x. nat_eq x b) s ≡ within (length s) (position_of b s)
unfolding position_of
position_first b s = ap (within (length s)) (sym (is_position_or_len (position_of b) (λ x. nat_eq x b) refl next s))
  where
    next : (x : ℕ) (xs : List ℕ) → position_of b (x ∷ xs) ≡ cond (nat_eq x b) 0 (1 + position_of b xs)
    next x xs = let e : suc (position_of b xs) ≡ 1 + position_of b xs = omega arith in ap (cond (nat_eq x b) 0) e

-- its place, or the list's length where it does not stand there
pub position_or_end : (b : ℕ) (s : List ℕ) → unwrap_or (within (length s) (position_of b s)) (length s) ≡ position_of b s
position_or_end b s = go (ltb (position_of b s) (length s)) refl
  where
    go : (t : Bool) → ltb (position_of b s) (length s) ≡ t → unwrap_or (cond t (Some (position_of b s)) None) (length s) ≡ position_of b s
    go true e = refl
    go false e = omega (arith, ltb-false _ _ e, position_le b s)

-- what `a.cmp(b)` says of two byte slices is how they stand in the order of their bytes
pub cmp_order : (s t : List ℕ) → slice_cmp nat_cmp s t ≡ order_of s t
unfolding order_of
cmp_order [] [] = refl
cmp_order [] (y ∷ t) = refl
cmp_order (x ∷ s) [] = refl
cmp_order (x ∷ s) (y ∷ t) = grind (arith, cmp_order s t)

-- Laws of the records of a body: each is no longer than the body, and in form.
-- Assumes nothing.
use Prim.Native.Nat.{ℕ, suc, ◌≤◌}
use native.Mathlib.Omega.{arith}
use mathlib.Core.Bool.{Bool, true, false, cond}
use mathlib.Core.List.{List, [], ◌∷◌}
use mathlib.Core.Path.{◌≡◌, refl}
use lib.ListN.{length}
use Rattle.frame.proofs.BoolLaws.{and_intro}
use Rattle.text.specs.Class.{is_record_byte}
use Rattle.text.specs.Bytes.{all}
use Rattle.envelope.specs.Pieces.{begins}
use Rattle.envelope.specs.Body.{crlf, Records, broken, records, with_record, with_byte, records_of}
use Rattle.envelope.specs.Envelope.{listed}
use Rattle.envelope.specs.Written.{all_records}

-- each record of a body is no longer than the body, and has no CR, LF or apostrophe
abbrev pub EachFormed : ℕ → Records → Type 0
EachFormed n broken = Unit {0}
EachFormed n (records []) = Unit {0}
EachFormed n (records (r ∷ rs)) = (length r ≤ n) × (all is_record_byte r ≡ true) × EachFormed n (records rs)

formed_longer : (n m : ℕ) → n ≤ m → (rs : List (List ℕ)) → EachFormed n (records rs) → EachFormed m (records rs)
formed_longer n m h [] f = tt
formed_longer n m h (r ∷ rs) f = let e = f.0 in (omega arith, f.1, formed_longer n m h rs f.2)

formed_byte : (n b : ℕ) → is_record_byte b ≡ true → (rs : Records) → EachFormed n rs → EachFormed (suc n) (with_byte b rs)
unfolding all
formed_byte n b h broken f = tt
formed_byte n b h (records []) f = tt
formed_byte n b h (records (r ∷ rs)) f =
    let e = f.0 in
    (omega arith, and_intro (is_record_byte b) (all is_record_byte r) h f.1, formed_longer n (suc n) (omega arith) rs f.2)

formed_line : (n m : ℕ) → n ≤ m → (rs : Records) → EachFormed n rs → EachFormed m (with_record [] rs)
unfolding all
formed_line n m h broken f = tt
formed_line n m h (records rs) f = (omega arith, refl, formed_longer n m h rs f)

pub each_formed : (s : List ℕ) → EachFormed (length s) (records_of s)
unfolding records_of
each_formed [] = tt
each_formed (b ∷ []) = tt
each_formed (b ∷ c ∷ s) = go (is_record_byte b) (begins crlf (b ∷ c ∷ s)) refl (each_formed (c ∷ s)) (each_formed s)
  where
    go : (t u : Bool) → is_record_byte b ≡ t → EachFormed (length (c ∷ s)) (records_of (c ∷ s)) → EachFormed (length s) (records_of s)
        → EachFormed (length (b ∷ c ∷ s)) (cond t (with_byte b (records_of (c ∷ s))) (cond u (with_record [] (records_of s)) broken))
    go true u e f g = formed_byte _ b e (records_of (c ∷ s)) f
    go false true e f g = formed_line (length s) (length (b ∷ c ∷ s)) (omega arith) (records_of s) g
    go false false e f g = tt

-- so none of them has a byte that a record has not
formed_records : (n : ℕ) (rs : List (List ℕ)) → EachFormed n (records rs) → all_records rs ≡ true
formed_records n [] f = refl
formed_records n (r ∷ rs) f = and_intro (all is_record_byte r) (all_records rs) f.1 (formed_records n rs f.2)

pub listed_records : (s : List ℕ) → all_records (listed (records_of s)) ≡ true
listed_records s = go (records_of s) (each_formed s)
  where
    go : (rs : Records) → EachFormed (length s) rs → all_records (listed rs) ≡ true
    go broken f = refl
    go (records rs) f = formed_records (length s) rs f

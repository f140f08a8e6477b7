-- Laws of big-endian numbers: what a loop that reads one knows; and the order of texts of one length is the order of their numbers.
-- Assumes nothing.
use Prim.Native.Nat.{ℕ, suc, ◌+◌, ◌*◌, ◌^◌, ◌≤◌, ◌<◌}
use native.Mathlib.Nat.{pow-suc, mul_comm, mul_assoc}
use native.Mathlib.Decide.{dec_lt}
use native.Mathlib.Numerals.{add-one}
use native.Mathlib.Omega.{arith}
use mathlib.Core.Path.{◌≡◌, refl, ap, sym, ◌∙◌}
use mathlib.Core.Bool.{Bool, true, false, cond}
use mathlib.Core.List.{List, [], ◌∷◌, ◌++◌}
use borrow.Author.Tests.{lt-ltb, le-ltb, ltb-true}
use lib.Arith.{digits_lt}
use lib.Dec.{ltb, lit<}
use lib.ListN.{length, get_or, take, length-append}
use lib.Seq.{take-suc, take_all}
use Rattle.frame.proofs.BoolLaws.{and_left, and_right}
use Rattle.text.specs.Bytes.{all}
use Rattle.text.specs.Number.{big_endian}
use Rattle.std.specs.declared.cmp.Ordering.{Ordering}
use Rattle.std.specs.declared.cmp.Ordering.TheVariants.{Less, Greater}
use Rattle.text.specs.Order.{order_of, is_less, below}
use Rattle.text.proofs.ByteLaws.{is_byte}

-- a number with one byte more behind it
big_snoc : (s : List ℕ) (b : ℕ) → big_endian (s ++ (b ∷ [])) ≡ big_endian s * 256 + b
unfolding big_endian
big_snoc [] b = omega arith
big_snoc (x ∷ s) b =
    let more : length (s ++ (b ∷ [])) ≡ suc (length s) = length-append s (b ∷ []) ∙ add-one (length s) in
    let shifted : x * 256 ^ suc (length s) ≡ x * 256 ^ length s * 256
    = ap (λ (y : ℕ). x * y) (pow-suc 256 (length s)) ∙ sym (mul_assoc x (256 ^ length s) 256) in
    rw (big_snoc s b, more, shifted) (omega arith)

-- what a loop knows that reads a number from its highest byte on: at its start, after one byte more, at its end
pub big_none : 0 ≡ big_endian []
unfolding big_endian
big_none = refl

pub big_more : (w : List ℕ) (i : ℕ) {x : ℕ} → i < length w → x ≡ big_endian (take i w) → x * 256 + get_or w i 0 ≡ big_endian (take (i + 1) w)
big_more w i h e = rw (add-one, take-suc w i 0, e) (sym (big_snoc (take i w) (get_or w i 0)))

pub big_end : (w : List ℕ) (i : ℕ) {x : ℕ} → length w ≤ i → x ≡ big_endian (take i w) → x ≡ big_endian w
big_end w i h e = e ∙ ap big_endian (take_all i w h)

big_below : (s : List ℕ) → all is_byte s ≡ true → big_endian s < 256 ^ length s
unfolding big_endian all
big_below [] h = lit< tt
big_below (b ∷ s) h =
    let p : b < 256 = ltb-true _ _ (and_left (is_byte b) _ h) in
    let q : big_endian s < 256 ^ length s = big_below s (and_right (is_byte b) _ h) in
    rw (pow-suc, mul_comm (256 ^ length s) 256) (digits_lt p q)

-- numbers of two digits, in any base, are ordered by the first, then by the second
digits_order : (base x y s t : ℕ) → s < base → t < base → ltb (x * base + s) (y * base + t) ≡ cond (ltb x y) true (cond (ltb y x) false (ltb s t))
digits_order base x y s t p q = go (dec_lt x y) (dec_lt y x) (dec_lt s t)
  where
    less : x * base + s < y * base + t → ltb (x * base + s) (y * base + t) ≡ true
    less = lt-ltb (x * base + s) (y * base + t)

    more : y * base + t ≤ x * base + s → ltb (x * base + s) (y * base + t) ≡ false
    more = le-ltb (x * base + s) (y * base + t)

    go : Dec (x < y) → Dec (y < x) → Dec (s < t) → ltb (x * base + s) (y * base + t) ≡ cond (ltb x y) true (cond (ltb y x) false (ltb s t))
    go (yes a) b c =
        let first : x * base + s < y * base = digits_lt a p in
        less (omega arith) ∙ rw (lt-ltb x y a)
    go (no a) (yes b) c =
        let first : y * base + t < x * base = digits_lt b q in
        more (omega arith) ∙ rw (le-ltb x y (omega arith), lt-ltb y x b)
    go (no a) (no b) (yes c) =
        let e : x ≡ y = omega arith in
        less (rw e (omega arith)) ∙ rw (le-ltb x y (omega arith), le-ltb y x (omega arith), lt-ltb s t c)
    go (no a) (no b) (no c) =
        let e : x ≡ y = omega arith in
        more (rw e (omega arith)) ∙ rw (le-ltb x y (omega arith), le-ltb y x (omega arith), le-ltb s t (omega arith))

less_cond : (a b : Bool) (o : Ordering) → is_less (cond a Less (cond b Greater o)) ≡ cond a true (cond b false (is_less o))
less_cond true b o = refl
less_cond false true o = refl
less_cond false false o = refl

-- texts of one length are ordered as their numbers are
pub below_big : (s t : List ℕ) → length s ≡ length t → all is_byte s ≡ true → all is_byte t ≡ true → below s t ≡ ltb (big_endian s) (big_endian t)
unfolding order_of big_endian all
below_big [] [] l h k = refl
below_big [] (y ∷ t) l h k = absurd (omega arith)
below_big (x ∷ s) [] l h k = absurd (omega arith)
below_big (x ∷ s) (y ∷ t) l h k =
    let m : length s ≡ length t = omega arith in
    let hs : all is_byte s ≡ true = and_right (is_byte x) _ h in
    let ht : all is_byte t ≡ true = and_right (is_byte y) _ k in
    let p : big_endian s < 256 ^ length t = rw (← m) (big_below s hs) in
    less_cond (ltb x y) (ltb y x) (order_of s t)
    ∙ rw (below_big s t m hs ht, m) (sym (digits_order (256 ^ length t) x y (big_endian s) (big_endian t) p (big_below t ht)))

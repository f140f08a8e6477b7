-- Laws of judging a currency list: a special code letter by letter; and codes of capitals as numbers, which ascend as the codes do.
-- Assumes nothing.
use Prim.Native.Nat.{ℕ, zero, suc, ◌+◌, ◌-◌, ◌*◌, ◌≤◌, ◌<◌}
use native.Mathlib.Omega.{arith}
use mathlib.Core.Bool.{Bool, true, false, ◌&&◌, ◌||◌, not, cond, false≢true}
use mathlib.Core.List.{List, [], ◌∷◌}
use mathlib.Core.Path.{◌≡◌, refl, ap, sym, ◌∙◌}
use borrow.Author.Tests.{lt-ltb, le-ltb, leb-true, ne_eqb}
use lib.Dec.{eqb, leb, ltb}
use lib.ListN.{length, get_or, take}
use lib.Seq.{take_all}
use Rattle.frame.specs.Every.{every}
use Rattle.frame.proofs.BoolLaws.{and_left, and_right, and_true, and_false}
use Rattle.frame.proofs.EveryLaws.{every_at, every_intro}
use Rattle.frame.proofs.PartLaws.{part_length}
use Rattle.text.specs.Class.{is_capital}
use Rattle.text.specs.Bytes.{all, same}
use Rattle.text.specs.Number.{big_endian}
use Rattle.text.specs.Search.{follows}
use Rattle.text.specs.Text.{bytes}
use Rattle.text.proofs.ByteLaws.{is_byte, all_parts, all_weaker, same_apart}
use Rattle.text.proofs.WordLaws.{below_big}
use Rattle.tables.specs.Currencies.{currency_size, currency_count, currency_at, is_special, currency_ok}

-- a special code, byte by byte
pub special_none : (s : List ℕ) → (length s ≡ 3 → ⊥) → false ≡ is_special s
unfolding is_special
special_none s n =
    rw (
      ← same_apart length s (bytes "XXX") n,
      ← same_apart length s (bytes "XXK") n,
      ← same_apart length s (bytes "XXO") n,
      ← same_apart length s (bytes "XXZ") n,
    ) refl

ends_in : (a b p q r s : Bool)
    → (a && (b && (p && true)) || a && (b && (q && true)) || a && (b && (r && true)) || a && (b && (s && true))) ≡ a && (b && (p || q || r || s))
ends_in false b p q r s = refl
ends_in true false p q r s = refl
ends_in true true p q r s = rw (and_true p, and_true q, and_true r, and_true s) refl

pub special_letters : (s : List ℕ) → length s ≡ 3
    → is_special s ≡ eqb (get_or s 0 0) 88 && (eqb (get_or s 1 0) 88 && (eqb (get_or s 2 0) 88 || eqb (get_or s 2 0) 75 || eqb (get_or s 2 0) 79 || eqb (get_or s 2 0) 90))
unfolding is_special same
special_letters [] e = absurd (omega arith)
special_letters (x ∷ []) e = absurd (omega arith)
special_letters (x ∷ (y ∷ [])) e = absurd (omega arith)
special_letters (x ∷ (y ∷ (z ∷ []))) e = ends_in (eqb x 88) (eqb y 88) (eqb z 88) (eqb z 75) (eqb z 79) (eqb z 90)
special_letters (x ∷ (y ∷ (z ∷ (w ∷ s)))) e = absurd (omega arith)

-- a text of capitals is a number above 0
capital_low : (b : ℕ) → is_capital b ≡ true → 65 ≤ b
capital_low b e = leb-true 65 b (and_left (leb 65 b) _ e)

capital_byte : (b : ℕ) → is_capital b ≡ true → is_byte b ≡ true
capital_byte b e = let h : b ≤ 90 = leb-true b 90 (and_right (leb 65 b) _ e) in lt-ltb b 256 (omega arith)

capitals_above : (s : List ℕ) → all is_capital s ≡ true → 0 < length s → 0 < big_endian s
unfolding all big_endian
capitals_above [] e h = h
capitals_above (x ∷ []) e h = let low : 65 ≤ x = capital_low x (and_left (is_capital x) _ e) in omega arith
capitals_above (x ∷ (y ∷ s)) e h = let low : 0 < big_endian (y ∷ s) = capitals_above (y ∷ s) (and_right (is_capital x) _ e) (omega arith) in omega arith

-- a list of whole codes, all capitals, is in order where no code is special and the codes ascend as numbers; a loop keeps the number of the code before
abbrev pub number_before : List ℕ → ℕ → ℕ
number_before t k = cond (eqb k 0) 0 (big_endian (currency_at t (k - 1)))

module _ (t : List ℕ) (whole : length t ≡ currency_count t * currency_size) (capitals : all is_capital t ≡ true) where
  code_capitals : (k : ℕ) → k < currency_count t → all is_capital (currency_at t k) ≡ true
  code_capitals = every_at (currency_count t) _ (sym (all_parts is_capital currency_size t (currency_count t) whole) ∙ capitals)

  code_bytes : (k : ℕ) → k < currency_count t → all is_byte (currency_at t k) ≡ true
  code_bytes k h = all_weaker is_capital is_byte capital_byte (currency_at t k) (code_capitals k h)

  code_length : (k : ℕ) → k < currency_count t → length (currency_at t k) ≡ 3
  code_length k h = part_length currency_size k t (omega arith)

  follows_number : (k : ℕ) → k < currency_count t → follows (currency_at t) k ≡ ltb (number_before t k) (big_endian (currency_at t k))
  unfolding follows
  follows_number zero h = sym (lt-ltb 0 _ (capitals_above (currency_at t 0) (code_capitals 0 h) (omega (arith, code_length 0 h))))
  follows_number (suc k) h =
      let last : suc k - 1 ≡ k = omega arith in
      let first : k < currency_count t = omega arith in
      rw (ne_eqb (suc k) 0 (omega arith), last)
      (below_big (currency_at t k) (currency_at t (suc k)) (code_length k first ∙ sym (code_length (suc k) h)) (code_bytes k first) (code_bytes (suc k) h))

  -- one turn of the loop: w is code k, and x its number
  module _ (k : ℕ) {before x : ℕ} {w : List ℕ} (h : k < currency_count t) (e : before ≡ number_before t k) (lent : w ≡ currency_at t k)
      (read : x ≡ big_endian (take 8 w)) where
    number : x ≡ big_endian (currency_at t k)
    number = read ∙ ap big_endian (take_all 8 w (omega (arith, ap length lent, code_length k h)) ∙ lent)

    code_decides : currency_ok t k ≡ not (is_special w) && ltb before x
    unfolding currency_ok
    code_decides = rw (code_capitals k h, follows_number k h, ← e, ← number, ← lent) refl

    -- its number is no higher than the one before; it is special; and else
    pub code_low : x ≤ before → currency_ok t k ≡ false
    code_low low = code_decides ∙ rw (le-ltb _ _ low, and_false) refl

    pub code_special : is_special w ≡ true → currency_ok t k ≡ false
    code_special special = code_decides ∙ rw special refl

    pub code_in_order : before < x → is_special w ≡ false → currency_ok t k ≡ true
    code_in_order above plain = code_decides ∙ rw (plain, lt-ltb _ _ above) refl

    pub code_kept : x ≡ number_before t (k + 1)
    code_kept = let last : k + 1 - 1 ≡ k = omega arith in rw (ne_eqb (k + 1) 0 (omega arith), last) number

-- a list with another byte is not in order
pub not_capitals : (t : List ℕ) → length t ≡ currency_count t * currency_size → all is_capital t ≡ false → false ≡ every (currency_count t) (currency_ok t)
unfolding currency_ok
not_capitals t whole other = go (every (currency_count t) (currency_ok t)) refl
  where
    letters : (k : ℕ) → currency_ok t k ≡ true → all is_capital (currency_at t k) ≡ true
    letters k e = let c = all is_capital (currency_at t k) in and_left c _ (and_left (c && not (is_special (currency_at t k))) _ e)

    go : (b : Bool) → every (currency_count t) (currency_ok t) ≡ b → false ≡ b
    go true e =
        absurd (false≢true (sym other ∙ all_parts is_capital currency_size t (currency_count t) whole
        ∙ every_intro (currency_count t) _ (λ k h. letters k (every_at (currency_count t) (currency_ok t) e k h))))
    go false e = refl

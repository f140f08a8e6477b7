-- Laws of a currency list in order: a search finds just the money in it, and no special code is money.
-- Assumes nothing.
use Prim.Native.Nat.{ℕ, ◌*◌, ◌<◌}
use mathlib.Core.Bool.{Bool, true, false, ◌&&◌, not, false≢true}
use mathlib.Core.List.{List}
use mathlib.Core.Path.{◌≡◌, refl, ap, sym, ◌∙◌}
use borrow.Author.Tests.{not-true}
use Rattle.frame.proofs.BoolLaws.{and_left, and_right}
use Rattle.frame.proofs.EveryLaws.{every_intro}
use Rattle.text.specs.Class.{is_capital}
use Rattle.text.specs.Bytes.{all, same}
use Rattle.text.specs.Search.{follows, ascend}
use Rattle.text.proofs.ByteLaws.{same_true}
use Rattle.text.proofs.SearchLaws.{among_none, found_among}
use Rattle.tables.specs.Currencies.{currency_size, currency_limit, currency_count, currency_at, is_special, currency_ok, currencies_ok, is_money, found_money}
use Rattle.tables.proofs.TableLaws.{table_part}

-- each code of a list in order is, so none is special, and they ascend
module _ (t : List ℕ) (ok : currencies_ok t ≡ true) where
  currency_in_order : (k : ℕ) → k < currency_count t → currency_ok t k ≡ true
  unfolding currencies_ok
  currency_in_order = table_part (currency_limit * currency_size) currency_size (currency_ok t) t ok

  currency_plain : (k : ℕ) → k < currency_count t → is_special (currency_at t k) ≡ false
  unfolding currency_ok
  currency_plain k h =
      let c = currency_at t k in
      not-true _ (and_right (all is_capital c) _ (and_left (all is_capital c && not (is_special c)) (follows (currency_at t) k) (currency_in_order k h)))

  currencies_ascend : ascend (currency_count t) (currency_at t) ≡ true
  unfolding currency_ok
  currencies_ascend =
      every_intro (currency_count t) (follows (currency_at t)) (λ k h.
      and_right (all is_capital (currency_at t k) && not (is_special (currency_at t k))) _ (currency_in_order k h))

-- no code of a list in order is special
pub special_not_money : (t s : List ℕ) → currencies_ok t ≡ true → is_special s ≡ true → is_money t s ≡ false
unfolding is_money
special_not_money t s ok e = among_none (currency_count t) (currency_at t) s (λ k h. other k h (same (currency_at t k) s) refl)
  where
    other : (k : ℕ) → k < currency_count t → (b : Bool) → same (currency_at t k) s ≡ b → b ≡ false
    other k h true q = absurd (false≢true (sym (currency_plain t ok k h) ∙ ap is_special (same_true _ _ q) ∙ e))
    other k h false q = refl

-- a search of a list in order finds just the money
pub found_money_lem : (t s : List ℕ) → currencies_ok t ≡ true → found_money t s ≡ is_money t s
unfolding is_money found_money
found_money_lem t s ok = found_among (currency_count t) (currency_at t) (currencies_ascend t ok) s

-- Laws of keys in ascending order: what the loop of a search knows, and that it finds just what stands among them.
-- Assumes nothing.
use Prim.Native.Nat.{ℕ, zero, suc, ◌+◌, ◌-◌, ◌≤◌, ◌<◌}
use native.Mathlib.Nat.{not-suc-le-zero}
use native.Mathlib.Decide.{dec_lt, ℕ_discrete}
use native.Mathlib.Omega.{arith}
use mathlib.Core.Bool.{Bool, true, false, false≢true}
use mathlib.Core.List.{List}
use mathlib.Core.Path.{◌≡◌, refl, ap, sym, ◌∙◌}
use borrow.Author.Tests.{lt-ltb, le-ltb, ne_eqb}
use lib.Dec.{eqb}
use Rattle.frame.specs.Every.{least}
use Rattle.frame.proofs.EveryLaws.{every_at}
use Rattle.frame.proofs.LeastLaws.{least_below, least_hit, least_none}
use Rattle.std.specs.declared.cmp.Ordering.{Ordering}
use Rattle.std.specs.declared.cmp.Ordering.TheVariants.{Less, Equal, Greater}
use Rattle.text.specs.Bytes.{same}
use Rattle.text.specs.Order.{order_of, is_less, below}
use Rattle.text.specs.Search.{is_among, follows, ascend, middle, searched, found}
use Rattle.text.proofs.ByteLaws.{same_true, same_refl}
use Rattle.text.proofs.OrderLaws.{order_same, order_differs, below_trans, below_itself}

module _ (key : ℕ → List ℕ) (s : List ℕ) where
  -- a search, by what it compares
  searched_empty : (n low high : ℕ) → high ≤ low → searched n key s low high ≡ false
  unfolding searched
  searched_empty zero low high h = refl
  searched_empty (suc n) low high h = rw (le-ltb low high h) refl

  searched_hit : (n low high : ℕ) → low < high → same (key (middle low high)) s ≡ true → searched (suc n) key s low high ≡ true
  unfolding searched
  searched_hit n low high h e = rw (lt-ltb low high h, e) refl

  searched_above : (n low high : ℕ) → low < high → same (key (middle low high)) s ≡ false
      → below (key (middle low high)) s ≡ true → searched (suc n) key s low high ≡ searched n key s (middle low high + 1) high
  unfolding searched
  searched_above n low high h e b = rw (lt-ltb low high h, e, b) refl

  searched_under : (n low high : ℕ) → low < high → same (key (middle low high)) s ≡ false
      → below (key (middle low high)) s ≡ false → searched (suc n) key s low high ≡ searched n key s low (middle low high)
  unfolding searched
  searched_under n low high h e b = rw (lt-ltb low high h, e, b) refl

  -- it may take more turns than it needs
  searched_enough : (n m low high : ℕ) → high - low ≤ n → high - low ≤ m → searched n key s low high ≡ searched m key s low high
  searched_enough zero m low high p q =
      searched_empty zero low high (omega arith) ∙ sym (searched_empty m low high (omega arith))
  searched_enough (suc n) zero low high p q =
      searched_empty (suc n) low high (omega arith) ∙ sym (searched_empty zero low high (omega arith))
  searched_enough (suc n) (suc m) low high p q = go (dec_lt low high) (searched_enough n m)
    where
      turn : (a b : Bool) → low < high → same (key (middle low high)) s ≡ a → below (key (middle low high)) s ≡ b
          → ((l k : ℕ) → k - l ≤ n → k - l ≤ m → searched n key s l k ≡ searched m key s l k)
          → searched (suc n) key s low high ≡ searched (suc m) key s low high
      turn true b h e d f = searched_hit n low high h e ∙ sym (searched_hit m low high h e)
      turn false true h e d f =
          searched_above n low high h e d ∙ f (middle low high + 1) high (omega arith) (omega arith) ∙ sym (searched_above m low high h e d)
      turn false false h e d f =
          searched_under n low high h e d ∙ f low (middle low high) (omega arith) (omega arith) ∙ sym (searched_under m low high h e d)

      go : Dec (low < high) → ((l k : ℕ) → k - l ≤ n → k - l ≤ m → searched n key s l k ≡ searched m key s l k)
          → searched (suc n) key s low high ≡ searched (suc m) key s low high
      go (yes h) f = turn _ _ h refl refl f
      go (no g) f = searched_empty (suc n) low high (omega arith) ∙ sym (searched_empty (suc m) low high (omega arith))

  -- what stands nowhere is not found
  searched_none : (count : ℕ) → ((k : ℕ) → k < count → same (key k) s ≡ false) → (n low high : ℕ) → high ≤ count → searched n key s low high ≡ false
  unfolding searched
  searched_none count away zero low high c = refl
  searched_none count away (suc n) low high c = go (dec_lt low high) (searched_none count away n)
    where
      turn : (b : Bool) → low < high → same (key (middle low high)) s ≡ false → below (key (middle low high)) s ≡ b
          → ((l k : ℕ) → k ≤ count → searched n key s l k ≡ false) → searched (suc n) key s low high ≡ false
      turn true h e d f = searched_above n low high h e d ∙ f (middle low high + 1) high c
      turn false h e d f = searched_under n low high h e d ∙ f low (middle low high) (omega arith)

      go : Dec (low < high) → ((l k : ℕ) → k ≤ count → searched n key s l k ≡ false) → searched (suc n) key s low high ≡ false
      go (yes h) f = turn _ h (away (middle low high) (omega arith)) refl f
      go (no g) f = searched_empty (suc n) low high (omega arith)

module _ (count : ℕ) (key : ℕ → List ℕ) (s : List ℕ) where
  -- what the loop of a search knows: the search from low to high finds what that of all keys finds
  abbrev pub Left : ℕ → ℕ → Type 0
  Left low high = (high ≤ count) × (found count key s ≡ searched (high - low) key s low high)

  pub left_all : (high : ℕ) → high ≡ count → Left 0 high
  unfolding found
  left_all high e = let all : high - 0 ≡ count = omega arith in (omega arith, rw (all, e) refl)

  pub left_none : (low high : ℕ) → Left low high → high ≤ low → false ≡ found count key s
  left_none low high f h = sym (f.1 ∙ searched_empty key s (high - low) low high h)

  -- one turn, where r is how w, the key in the middle, stands to s
  module _ (low high : ℕ) (f : Left low high) (h : low < high) {w : List ℕ} {r : Ordering} (lent : w ≡ key (middle low high)) (compared : r ≡ order_of w s) where
    order : order_of (key (middle low high)) s ≡ r
    order = ap (λ (v : List ℕ). order_of v s) (sym lent) ∙ sym compared

    turned : found count key s ≡ searched (suc (high - low - 1)) key s low high
    turned = let e : high - low ≡ suc (high - low - 1) = omega arith in f.1 ∙ ap (λ (n : ℕ). searched n key s low high) e

    pub left_hit : r ≡ Equal → true ≡ found count key s
    left_hit e = sym (turned ∙ searched_hit key s (high - low - 1) low high h (order_same _ _ (order ∙ e)))

    pub left_above : r ≡ Less → Left (middle low high + 1) high
    left_above e =
        let other = order_differs (key (middle low high)) s (λ q. let z : ◌≡◌ {A = ℕ} 0 1 = cc (order, e) in omega arith) in
        let next = middle low high + 1 in (
          f.0,
          turned ∙ searched_above key s (high - low - 1) low high h other (ap is_less (order ∙ e))
              ∙ searched_enough key s (high - low - 1) (high - next) next high (omega arith) (omega arith),
        )

    pub left_under : r ≡ Greater → Left low (middle low high)
    left_under e =
        let other = order_differs (key (middle low high)) s (λ q. let z : ◌≡◌ {A = ℕ} 0 1 = cc (order, e) in omega arith) in
        let inside : high ≤ count = f.0 in (
          omega arith,
          turned ∙ searched_under key s (high - low - 1) low high h other (ap is_less (order ∙ e))
              ∙ searched_enough key s (high - low - 1) (middle low high - low) low (middle low high) (omega arith) (omega arith),
        )

  -- what no key is does not stand among them
  pub among_none : ((k : ℕ) → k < count → same (key k) s ≡ false) → is_among count key s ≡ false
  unfolding is_among
  among_none away = rw (least_none count (λ k. same (key k) s) away) (le-ltb count count (omega arith))

-- keys that ascend: each is below those after it
module _ (count : ℕ) (key : ℕ → List ℕ) (ok : ascend count key ≡ true) where
  key_follows : (k : ℕ) → suc k < count → below (key k) (key (suc k)) ≡ true
  unfolding follows
  key_follows k h =
      let last : suc k - 1 ≡ k = omega arith in
      let first : eqb (suc k) 0 ≡ false = ne_eqb (suc k) 0 (omega arith) in
      let after = every_at count (follows key) ok (suc k) h in
      rw (first, last) at after

  ascending : (i j : ℕ) → i < j → j < count → below (key i) (key j) ≡ true
  ascending i zero h b = absurd (not-suc-le-zero h)
  ascending i (suc j) h b = go (ℕ_discrete i j) (λ l. ascending i j l (omega arith))
    where
      go : Dec (i ≡ j) → (i < j → below (key i) (key j) ≡ true) → below (key i) (key (suc j)) ≡ true
      go (yes e) f = rw e (key_follows j b)
      go (no n) f = below_trans (key i) (key j) (key (suc j)) (f (omega arith)) (key_follows j b)

  -- where a key stands, by how it compares with another
  stands_above : (k m : ℕ) → m < count → below (key m) (key k) ≡ true → m < k
  stands_above k m h b = go (dec_lt m k) (ℕ_discrete m k)
    where
      go : Dec (m < k) → Dec (m ≡ k) → m < k
      go (yes l) d = l
      go (no g) (yes e) = absurd (false≢true (sym (below_itself (key k)) ∙ (rw e at b)))
      go (no g) (no n) =
          let round = below_trans (key k) (key m) (key k) (ascending k m (omega arith) h) b in
          absurd (false≢true (sym (below_itself (key k)) ∙ round))

  stands_under : (k m : ℕ) → k < count → same (key m) (key k) ≡ false → below (key m) (key k) ≡ false → k < m
  stands_under k m h d b = go (dec_lt k m) (ℕ_discrete m k)
    where
      go : Dec (k < m) → Dec (m ≡ k) → k < m
      go (yes l) q = l
      go (no g) (yes e) = absurd (false≢true (sym d ∙ rw e (same_refl (key k))))
      go (no g) (no n) = absurd (false≢true (sym b ∙ ascending m k (omega arith) h))

  -- a key that stands between low and high is found, where the turns suffice
  searched_some : (k n low high : ℕ) → high - low ≤ n → low ≤ k → k < high → high ≤ count → searched n key (key k) low high ≡ true
  searched_some k zero low high p l h c = absurd (omega arith)
  searched_some k (suc n) low high p l h c = go _ _ refl refl (searched_some k n)
    where
      go : (a b : Bool) → same (key (middle low high)) (key k) ≡ a → below (key (middle low high)) (key k) ≡ b
          → ((low high : ℕ) → high - low ≤ n → low ≤ k → k < high → high ≤ count → searched n key (key k) low high ≡ true)
          → searched (suc n) key (key k) low high ≡ true
      go true b q d f = searched_hit key (key k) n low high (omega arith) q
      go false true q d f =
          let above : middle low high < k = stands_above k (middle low high) (omega arith) d in
          searched_above key (key k) n low high (omega arith) q d ∙ f (middle low high + 1) high (omega arith) (omega arith) h c
      go false false q d f =
          let under : k < middle low high = stands_under k (middle low high) (omega arith) q d in
          searched_under key (key k) n low high (omega arith) q d ∙ f low (middle low high) (omega arith) l under (omega arith)

  -- a search finds just what stands among them
  pub found_among : (s : List ℕ) → found count key s ≡ is_among count key s
  unfolding is_among found
  found_among s = go (dec_lt first count)
    where
      first : ℕ
      first = least count (λ k. same (key k) s)

      go : Dec (first < count) → found count key s ≡ is_among count key s
      go (yes h) =
          let here : key first ≡ s = same_true _ _ (least_hit count (λ k. same (key k) s) h) in
          let hit = searched_some first count 0 count (omega arith) (omega arith) h (omega arith) in
          ap (λ (w : List ℕ). found count key w) (sym here) ∙ hit ∙ sym (lt-ltb _ _ h)
      go (no g) =
          let away : (k : ℕ) → k < count → same (key k) s ≡ false = λ k h. least_below count (λ j. same (key j) s) k (omega arith) in
          searched_none key s count away count 0 count (omega arith) ∙ sym (among_none count key s away)

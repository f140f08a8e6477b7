-- Laws of the field view and of the index: where the semicolons stand, that a field lies within its record, and that both give the same place.
-- Assumes nothing.
use Prim.Native.Nat.{ℕ, zero, suc, ◌+◌, ◌-◌, ◌*◌, ◌/◌, ◌<◌, ◌≤◌, zero-le}
use Prim.Native.Char.{code}
use mathlib.Core.Bool.{Bool, true, false, cond}
use mathlib.Core.List.{List, [], ◌∷◌, ◌++◌, append-nil, append_assoc}
use mathlib.Core.Path.{◌≡◌, refl, ap, sym, ◌∙◌}
use native.Mathlib.Nat.{not-suc-le-zero, le_of_suc-le-suc, le_of_lt, sub-zero, add-zero, add-suc, suc-add}
use native.Mathlib.Numerals.{add-one}
use native.Mathlib.Decide.{dec_lt, ℕ_discrete}
use native.Mathlib.Omega.{arith}
use borrow.Author.Tests.{eq-eqb, ne_eqb, le-leb, lt-leb, lt-ltb, le-ltb, eqb-true}
use denote.Ref.{Bor}
use lib.Dec.{eqb}
use lib.ListN.{length, get_or, take, drop, set, replicate, length-append, length-set, length-drop, drop_of_length-le, take-append-drop}
use lib.ListN.{get_or-append, get_or-replicate}
use lib.Seq.{drop-cons, drop-drop, take-suc-set, append_snoc, length-take-le, take_all}
use Rattle.frame.proofs.BoolLaws.{and_false}
use Rattle.frame.specs.Parts.{part, AreParts}
use Rattle.frame.proofs.ListLaws.{chunks_parts}
use Rattle.std.specs.Simd.{first_chunks}
use Rattle.text.specs.Part.{Lies}
use Rattle.fields.specs.declared.Place.{Place}
use Rattle.fields.specs.Fields.{semicolons_from, semicolons, is_whole, field_start, field_end, empty_place, field_place, bytes_at, field_of}
use Rattle.fields.specs.Fields.{Extended, stops_of, is_whole_index, is_placed, place_in, field_by}

-- the laws of a loop that puts the places of semicolons behind those counted: what is still to be found stands in the rest of the part, from i
module _ (known w stops : List ℕ) (count at i : ℕ) (e : known ≡ take count stops ++ semicolons_from (at + i) (drop i w)) where
  pub semicolons_hit : i < length w → get_or w i 0 ≡ code ";" → count < length stops
      → known ≡ take (count + 1) (set stops count (at + i)) ++ semicolons_from (at + (i + 1)) (drop (i + 1) w)
  unfolding semicolons_from
  semicolons_hit h t f =
      let q : semicolons_from (at + i) (drop i w) ≡ (at + i) ∷ semicolons_from (at + (i + 1)) (drop (i + 1) w)
      = rw (add-one i, add-suc at i, drop-cons w i 0, eq-eqb _ _ t) refl in
      e ∙ rw (q, add-one count, take-suc-set stops count (at + i)) (sym (append_snoc (take count stops) (at + i) _))

  pub semicolons_miss : i < length w → (get_or w i 0 ≡ code ";" → ⊥) → known ≡ take count stops ++ semicolons_from (at + (i + 1)) (drop (i + 1) w)
  unfolding semicolons_from
  semicolons_miss h n = e ∙ rw (add-one i, add-suc at i, drop-cons w i 0, ne_eqb _ _ n) refl

  pub semicolons_over : i < length w → get_or w i 0 ≡ code ";" → count ≤ length stops → count < length known
  unfolding semicolons_from
  semicolons_over h t f =
      let rest : List ℕ = semicolons_from (suc (at + i)) (drop (suc i) w) in
      let q : semicolons_from (at + i) (drop i w) ≡ (at + i) ∷ rest = rw (drop-cons w i 0, eq-eqb _ _ t) refl in
      let l : length known ≡ count + suc (length rest) = ap length e ∙ rw (q, length-append, length-take-le count stops f) refl in
      omega arith

  pub semicolons_end : length w ≤ i → known ≡ take count stops
  unfolding semicolons_from
  semicolons_end h = e ∙ rw (drop_of_length-le w h) (append-nil _)

-- the semicolons of two parts
semicolons_append : (at : ℕ) (s t : List ℕ) → semicolons_from at (s ++ t) ≡ semicolons_from at s ++ semicolons_from (at + length s) t
unfolding semicolons_from
semicolons_append at [] t = rw add-zero refl
semicolons_append at (x ∷ s) t = go (eqb x (code ";")) (semicolons_append (suc at) s t)
  where
    go : (b : Bool) → semicolons_from (suc at) (s ++ t) ≡ semicolons_from (suc at) s ++ semicolons_from (suc at + length s) t
        → cond b (at ∷ semicolons_from (suc at) (s ++ t)) (semicolons_from (suc at) (s ++ t))
        ≡ cond b (at ∷ semicolons_from (suc at) s) (semicolons_from (suc at) s) ++ semicolons_from (at + suc (length s)) t
    go true e = ap (λ (l : List ℕ). at ∷ l) (e ∙ rw (add-suc at (length s), suc-add at (length s)) refl)
    go false e = e ∙ rw (add-suc at (length s), suc-add at (length s)) refl

-- the index of a record that isn't whole, and of one that is
pub stops_broken : (s : List ℕ) → is_whole s ≡ false → stops_of s ≡ replicate 39 0
unfolding stops_of
stops_broken s w = rw w refl

not_whole : (s : List ℕ) → (length (semicolons s) ≡ 38 → ⊥) → false ≡ is_whole s
unfolding is_whole
not_whole s n = sym (ne_eqb _ 38 n)

stops_whole : (s : List ℕ) → is_whole s ≡ true → stops_of s ≡ semicolons s ++ (length s ∷ [])
unfolding stops_of
stops_whole s w = rw w refl

-- the whole blocks of a record, each with what follows it; and what follows them all
pub block_rest : (s : List ℕ) (blocks : List (List ℕ)) (k : ℕ) → blocks ≡ first_chunks 16 (length s / 16) s → k < length blocks
    → (get_or blocks k [] ++ drop ((k + 1) * 16) s ≡ drop (k * 16) s) × (k * 16 + length (get_or blocks k []) ≡ (k + 1) * 16)
unfolding part
block_rest s blocks k e h =
    let parts : AreParts 16 s blocks = rw e (chunks_parts 16 s) in
    let here : get_or blocks k [] ≡ take 16 (drop (k * 16) s) = parts.each k [] h in
    let next : k * 16 + 16 ≡ (k + 1) * 16 = omega arith in
    let inside : 16 ≤ length (drop (k * 16) s) = rw length-drop (omega (arith, parts.count)) in (
      rw (here, ← next, ← drop-drop 16 (k * 16) s) (take-append-drop 16 (drop (k * 16) s)),
      rw (here, length-take-le 16 (drop (k * 16) s) inside) next,
    )

pub last_rest : (s last : List ℕ) (n k : ℕ) → n ≡ length s / 16 → k ≤ n → n ≤ k → last ≡ drop (length s / 16 * 16) s
    → (last ++ drop (length s) s ≡ drop (k * 16) s) × (k * 16 + length last ≡ length s)
last_rest s last n k e g h l =
    let all : length s ≤ length s = omega arith in
    let here : length s / 16 * 16 ≡ k * 16 = omega arith in
    (rw (l, here, drop_of_length-le s all) (append-nil _), rw (l, here, length-drop) (omega arith))

-- the laws of the index, which is extended by the block from p to q: behind it, and what the index is where that was too many or the last one
module _ (s stops block later : List ℕ) (found r p q : ℕ) (e : semicolons s ≡ take found stops ++ semicolons_from p (drop p s))
    (b : (block ++ drop q s ≡ drop p s) × (p + length block ≡ q)) (x : Extended stops found (semicolons_from p block) later r) where
  block_and_rest : semicolons s ≡ take found stops ++ semicolons_from p block ++ semicolons_from q (drop q s)
  block_and_rest =
      let parts : semicolons_from p (drop p s) ≡ semicolons_from p block ++ semicolons_from q (drop q s)
      = ap (semicolons_from p) (sym b.0) ∙ semicolons_append p block (drop q s) ∙ rw b.1 refl in
      e ∙ ap (λ (l : List ℕ). take found stops ++ l) parts ∙ sym (append_assoc (take found stops) _ _)

  pub index_go : r ≤ 38 → semicolons s ≡ take r later ++ semicolons_from q (drop q s)
  index_go f = block_and_rest ∙ rw (x.within f) refl

  pub index_over : found ≤ length stops → 38 < r → false ≡ is_whole s
  index_over f g =
      let more : List ℕ = semicolons_from p block in
      let l : length (semicolons s) ≡ found + length more + length (semicolons_from q (drop q s))
      = ap length block_and_rest ∙ rw (length-append, length-append, length-take-le found stops f) refl in
      not_whole s (λ n. omega (arith, n, x.over g, l))

  index_all : q ≡ length s → r ≤ 38 → semicolons s ≡ take r later
  unfolding semicolons_from
  index_all z f = let end : length s ≤ q = omega arith in index_go f ∙ rw (drop_of_length-le s end) (append-nil _)

  pub index_other : found ≤ length stops → q ≡ length s → (r ≡ 38 → ⊥) → false ≡ is_whole s
  index_other f z n = go (dec_lt 38 r)
    where
      go : Dec (38 < r) → false ≡ is_whole s
      go (yes g) = index_over f g
      go (no g) =
          let l : length (semicolons s) ≡ r = ap length (index_all z (omega arith)) ∙ length-take-le r later (omega (arith, g, x.sized)) in
          not_whole s (λ m. n (sym l ∙ m))

  pub index_full : q ≡ length s → r ≡ 38 → (true ≡ is_whole s) × (set later 38 (length s) ≡ stops_of s)
  unfolding is_whole
  index_full z n =
      let sized : length later ≡ 39 = x.sized in
      let o : semicolons s ≡ take 38 later = index_all z (omega arith) ∙ ap (λ (j : ℕ). take j later) n in
      let w : is_whole s ≡ true = eq-eqb _ 38 (ap length o ∙ length-take-le 38 later (omega arith)) in (
        sym w,
        sym (stops_whole s w ∙ rw o (sym (take-suc-set later 38 (length s) (omega arith)))
            ∙ take_all 39 (set later 38 (length s)) (simp length-set (omega arith))),
      )

-- a record has no more semicolons than bytes
semicolons_most : (at : ℕ) (s : List ℕ) → length (semicolons_from at s) ≤ length s
unfolding semicolons_from
semicolons_most at [] = zero-le
semicolons_most at (x ∷ xs) = go (eqb x (code ";")) (semicolons_most (suc at) xs)
  where
    go : (t : Bool) → length (semicolons_from (suc at) xs) ≤ length xs
        → length (cond t (at ∷ semicolons_from (suc at) xs) (semicolons_from (suc at) xs)) ≤ suc (length xs)
    go true h = omega arith
    go false h = omega arith

pub index_short : (s : List ℕ) → length s < 38 → false ≡ is_whole s
index_short s h = not_whole s (λ k. omega (arith, k, semicolons_most 0 s))

-- where a field lies by an index, as the tests of its number and of its end come out
module _ (size : ℕ) (stops : List ℕ) (n : ℕ) where
  pub place_below : n < 1 → empty_place ≡ place_in size stops n
  unfolding place_in
  place_below h = rw (lt-leb 1 n h) refl

  pub place_above : 39 < n → empty_place ≡ place_in size stops n
  unfolding place_in
  place_above h = rw (lt-leb n 39 h, and_false) refl

  pub place_beyond : size < get_or stops (n - 1) 0 → empty_place ≡ place_in size stops n
  unfolding place_in is_placed
  place_beyond h = rw (lt-leb _ size h, and_false) refl

  pub place_first : n ≡ 1 → get_or stops (n - 1) 0 ≤ size → record { start = 0; length = get_or stops (n - 1) 0 } ≡ place_in size stops n
  unfolding place_in is_placed
  place_first e h = rw (le-leb _ size h, e, sub-zero) refl

  pub place_next : 1 ≤ n → n ≤ 39 → (n ≡ 1 → ⊥) → get_or stops (n - 1) 0 ≤ size → get_or stops (n - 2) 0 < get_or stops (n - 1) 0
      → record { start = get_or stops (n - 2) 0 + 1; length = get_or stops (n - 1) 0 - (get_or stops (n - 2) 0 + 1) } ≡ place_in size stops n
  unfolding place_in is_placed
  place_next low high m h r = rw (add-one, le-leb 1 n low, le-leb n 39 high, ne_eqb n 1 m, le-leb _ size h, lt-ltb _ _ r) refl

  pub place_unordered : (n ≡ 1 → ⊥) → get_or stops (n - 1) 0 ≤ get_or stops (n - 2) 0 → empty_place ≡ place_in size stops n
  unfolding place_in is_placed
  place_unordered m r = rw (ne_eqb n 1 m, le-ltb _ _ r, and_false, and_false) refl

  -- whatever the index says, what it points out lies within the record
  pub place_inside : (place_in size stops n).start + (place_in size stops n).length ≤ size
  place_inside = go (dec_lt n 1) (dec_lt 39 n) (dec_lt size (get_or stops (n - 1) 0)) (ℕ_discrete n 1) (dec_lt (get_or stops (n - 2) 0) (get_or stops (n - 1) 0))
    where
      go : Dec (n < 1) → Dec (39 < n) → Dec (size < get_or stops (n - 1) 0) → Dec (n ≡ 1) → Dec (get_or stops (n - 2) 0 < get_or stops (n - 1) 0)
          → (place_in size stops n).start + (place_in size stops n).length ≤ size
      go (yes a) b c d e = rw (← place_below a) (omega arith)
      go (no a) (yes b) c d e = rw (← place_above b) (omega arith)
      go (no a) (no b) (yes c) d e = rw (← place_beyond c) (omega arith)
      go (no a) (no b) (no c) (yes d) e = rw (← place_first d (omega arith)) (omega arith)
      go (no a) (no b) (no c) (no d) (yes e) = rw (← place_next (omega arith) (omega arith) d (omega arith) e) (omega arith)
      go (no a) (no b) (no c) (no d) (no e) = rw (← place_unordered d (omega arith)) (omega arith)

-- numbers from low to high, each above the one before
record Rising (low high : ℕ) (ks : List ℕ) : Type 0 where
  from : (k : ℕ) → k < length ks → low ≤ get_or ks k 0
  within : (k : ℕ) → get_or ks k 0 ≤ high
  rises : (k : ℕ) → suc k < length ks → get_or ks k 0 < get_or ks (suc k) 0

rising_last : (low high : ℕ) → low ≤ high → Rising low high (high ∷ [])
rising_last low high h = record { from = from; within = within; rises = λ k g. absurd (not-suc-le-zero (le_of_suc-le-suc g)) }
  where
    from : (k : ℕ) → k < 1 → low ≤ get_or (high ∷ []) k 0
    from zero g = h
    from (suc k) g = absurd (not-suc-le-zero (le_of_suc-le-suc g))

    within : (k : ℕ) → get_or (high ∷ []) k 0 ≤ high
    within zero = omega arith
    within (suc k) = zero-le

rising_more : (low high : ℕ) (ks : List ℕ) → low ≤ high → Rising (suc low) high ks → Rising low high (low ∷ ks)
rising_more low high ks h r = record { from = from; within = within; rises = rises }
  where
    from : (k : ℕ) → k < suc (length ks) → low ≤ get_or (low ∷ ks) k 0
    from zero g = omega arith
    from (suc k) g = omega (arith, r.from k (le_of_suc-le-suc g))

    within : (k : ℕ) → get_or (low ∷ ks) k 0 ≤ high
    within zero = h
    within (suc k) = r.within k

    rises : (k : ℕ) → suc k < suc (length ks) → get_or (low ∷ ks) k 0 < get_or ks k 0
    rises zero g = r.from zero (le_of_suc-le-suc g)
    rises (suc k) g = r.rises k (le_of_suc-le-suc g)

-- the ends of the parts rise: each semicolon, and behind them the list's own end
ends_rising : (size at : ℕ) (s : List ℕ) → at + length s ≡ size → Rising at size (semicolons_from at s ++ (size ∷ []))
unfolding semicolons_from
ends_rising size at [] e = rising_last at size (omega arith)
ends_rising size at (x ∷ xs) e = go (eqb x (code ";")) (ends_rising size (suc at) xs (omega arith))
  where
    go : (t : Bool) → Rising (suc at) size (semicolons_from (suc at) xs ++ (size ∷ []))
        → Rising at size (cond t (at ∷ semicolons_from (suc at) xs) (semicolons_from (suc at) xs) ++ (size ∷ []))
    go true r = rising_more at size _ (omega arith) r
    go false r = record { from = λ k h. le_of_lt (r.from k h); within = r.within; rises = r.rises }

-- the index of a whole record
module _ (s : List ℕ) (w : is_whole s ≡ true) where
  semicolons_whole : length (semicolons s) ≡ 38
  unfolding is_whole
  semicolons_whole = eqb-true _ _ w

  stops_rising : Rising 0 (length s) (stops_of s)
  stops_rising = rw (stops_whole s w) (ends_rising (length s) 0 s (omega arith))

  stops_length : length (stops_of s) ≡ 39
  stops_length = rw (stops_whole s w, length-append, semicolons_whole) refl

  pub stops_within : (k : ℕ) → get_or (stops_of s) k 0 ≤ length s
  stops_within = stops_rising.within

  pub stops_rise : (n : ℕ) → 2 ≤ n → n ≤ 39 → get_or (stops_of s) (n - 2) 0 < get_or (stops_of s) (n - 1) 0
  stops_rise n low high =
      let next : n - 1 ≡ suc (n - 2) = omega arith in
      rw next (stops_rising.rises (n - 2) (rw stops_length (omega arith)))

  stop_semicolon : (n : ℕ) → 2 ≤ n → n ≤ 39 → get_or (stops_of s) (n - 2) 0 ≡ get_or (semicolons s) (n - 2) 0
  stop_semicolon n low high = rw (stops_whole s w) (get_or-append (semicolons s) _ 0 (n - 2) (rw semicolons_whole (omega arith)))

pub whole_index : (s : List ℕ) → is_whole_index (stops_of s) ≡ is_whole s
whole_index s = go (is_whole s) refl
  where
    go : (b : Bool) → is_whole s ≡ b → is_whole_index (stops_of s) ≡ b
    go true w = lt-ltb 0 (get_or (stops_of s) 38 0) (omega (arith, stops_rise s w 39 (omega arith) (omega arith)))
    go false w = rw (stops_broken s w) refl

-- where the field view says that a field lies
module _ (s : List ℕ) (n : ℕ) where
  pub field_broken : is_whole s ≡ false → field_place s n ≡ empty_place
  unfolding field_place
  field_broken w = rw w refl

  field_below : n < 1 → field_place s n ≡ empty_place
  unfolding field_place
  field_below h = rw (lt-leb 1 n h, and_false) refl

  field_above : 39 < n → field_place s n ≡ empty_place
  unfolding field_place
  field_above h = rw (lt-leb n 39 h, and_false) refl

  field_first : is_whole s ≡ true → n ≡ 1 → field_place s n ≡ record { start = 0; length = get_or (stops_of s) (n - 1) 0 }
  unfolding field_place field_start field_end
  field_first w e = rw (w, e, stops_whole s w, sub-zero) refl

  field_next : is_whole s ≡ true → 2 ≤ n → n ≤ 39
      → field_place s n ≡ record { start = get_or (stops_of s) (n - 2) 0 + 1; length = get_or (stops_of s) (n - 1) 0 - (get_or (stops_of s) (n - 2) 0 + 1) }
  unfolding field_place field_start field_end
  field_next w low high =
      rw (w, le-leb 1 n (omega arith), le-leb n 39 high, ne_eqb n 1 (omega arith), stop_semicolon s w n low high, add-one, stops_whole s w) refl

  -- the index gives each field the place that the field view gives it
  pub placed : place_in (length s) (stops_of s) n ≡ field_place s n
  placed = go (is_whole s) refl (dec_lt n 1) (dec_lt 39 n) (ℕ_discrete n 1)
    where
      go : (b : Bool) → is_whole s ≡ b → Dec (n < 1) → Dec (39 < n) → Dec (n ≡ 1) → place_in (length s) (stops_of s) n ≡ field_place s n
      go b w (yes l) h f = sym (place_below (length s) (stops_of s) n l) ∙ sym (field_below l)
      go b w (no l) (yes h) f = sym (place_above (length s) (stops_of s) n h) ∙ sym (field_above h)
      go true w (no l) (no h) (yes f) = sym (place_first (length s) (stops_of s) n f (stops_within s w (n - 1))) ∙ sym (field_first w f)
      go true w (no l) (no h) (no f) =
          let low : 2 ≤ n = omega arith in
          let high : n ≤ 39 = omega arith in
          sym (place_next (length s) (stops_of s) n (omega arith) high f (stops_within s w (n - 1)) (stops_rise s w n low high)) ∙ sym (field_next w low high)
      go false w (no l) (no h) (yes f) =
          sym (place_first (length s) (stops_of s) n f (rw (stops_broken s w, f) zero-le)) ∙ rw (field_broken w, stops_broken s w, f) refl
      go false w (no l) (no h) (no f) =
          let none : get_or {A = ℕ} (replicate 39 0) (n - 1) 0 ≡ 0 = get_or-replicate 39 (n - 1) 0 0 (omega arith) in
          sym (place_unordered (length s) (stops_of s) n f (rw (stops_broken s w, none) zero-le)) ∙ sym (field_broken w)

  pub field_inside : (field_place s n).start + (field_place s n).length ≤ length s
  field_inside = rw (← placed) (place_inside (length s) (stops_of s) n)

-- the index of a record gives its fields' bytes
pub field_by_lem : (s : List ℕ) (n : ℕ) → field_by s (stops_of s) n ≡ field_of s n
unfolding field_of
field_by_lem s n = rw placed refl

-- a place that an index or the field view gives lies within the record
pub lent_inside : (size : ℕ) (stops : List ℕ) (n : ℕ) {p : Place} → p ≡ place_in size stops n → p.start + p.length ≤ size
lent_inside size stops n e = rw e (place_inside size stops n)

pub view_inside : (s : List ℕ) (n : ℕ) {p : Place} → p ≡ field_place s n → p.start + p.length ≤ length s
view_inside s n e = rw e (field_inside s n)

-- what is lent from a place's start to its end are the bytes at the place
pub cut_bytes : (s : List ℕ) (p : Place) → take (p.start + p.length - p.start) (drop p.start s) ≡ bytes_at s p
cut_bytes s p = let l : p.start + p.length - p.start ≡ p.length = omega arith in ap (λ (k : ℕ). take k (drop p.start s)) l

-- what lies at a place that is field n's is that field
pub lies_part : (lent : Bor (List ℕ)) (stops : List ℕ) (n : ℕ) {p : Place} {r : Bor (List ℕ)} → p ≡ place_in (length lent.now) stops n
    → Lies lent p.start (bytes_at lent.now p) r → Lies lent (place_in (length lent.now) stops n).start (field_by lent.now stops n) r
lies_part lent stops n e h = rw e at h

pub lies_field : (lent : Bor (List ℕ)) (n : ℕ) {p : Place} {r : Bor (List ℕ)} → p ≡ field_place lent.now n
    → Lies lent p.start (bytes_at lent.now p) r → Lies lent (field_place lent.now n).start (field_of lent.now n) r
unfolding field_of
lies_field lent n e h = rw e at h

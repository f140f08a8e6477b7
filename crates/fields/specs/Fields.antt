-- The field view of document 01: the parts of a record between its semicolons; and an index of all of them.
-- Assumes nothing.
use Rattle.std.specs.Prelude.{ℕ, suc, ◌+◌, ◌-◌, ◌≤◌, ◌<◌, Bool, ◌&&◌, ◌||◌, cond, List, [], ◌∷◌, ◌++◌, ◌≡◌, leb, ltb, eqb, length, get_or, take, drop, replicate}
use Prim.Native.Char.{code}
use Rattle.fields.specs.declared.Place.{Place}

-- the places of the semicolons, the first byte standing at the given place
unfoldable pub semicolons_from : ℕ → List ℕ → List ℕ
semicolons_from at [] = []
semicolons_from at (x ∷ xs) = cond (eqb x (code ";")) (at ∷ semicolons_from (suc at) xs) (semicolons_from (suc at) xs)

abbrev pub semicolons : List ℕ → List ℕ
semicolons «record» = semicolons_from 0 «record»

-- a record has 38 semicolons
unfoldable pub is_whole : List ℕ → Bool
is_whole «record» = eqb (length (semicolons «record»)) 38

-- where field n begins and ends: behind the semicolon before it, field 1 at the start; at the semicolon after it, field 39 at the end
unfoldable pub field_start : List ℕ → ℕ → ℕ
field_start «record» n = cond (eqb n 1) 0 (suc (get_or (semicolons «record») (n - 2) 0))

unfoldable pub field_end : List ℕ → ℕ → ℕ
field_end «record» n = get_or (semicolons «record» ++ (length «record» ∷ [])) (n - 1) 0

-- the empty part at the record's start
abbrev pub empty_place : Place
empty_place = record { start = 0; length = 0 }

-- where field n lies; the empty part for a number outside 1 to 39, or a record without 38 semicolons
unfoldable pub field_place : List ℕ → ℕ → Place
field_place «record» n =
    cond (is_whole «record» && leb 1 n && leb n 39)
    (record { start = field_start «record» n; length = field_end «record» n - field_start «record» n })
    empty_place

-- the bytes that lie at a place
abbrev pub bytes_at : List ℕ → Place → List ℕ
bytes_at «record» p = take p.length (drop p.start «record»)

-- "The field view": the bytes of field n
unfoldable pub field_of : List ℕ → ℕ → List ℕ
field_of «record» n = bytes_at «record» (field_place «record» n)

-- The index of a record: where each of its fields ends, in order; all 0 for a record without 38 semicolons.
unfoldable pub stops_of : List ℕ → List ℕ
stops_of «record» = cond (is_whole «record») (semicolons «record» ++ (length «record» ∷ [])) (replicate 39 0)

-- the first places of an index, further ones put behind them, are the first r of a later one; r is above 38 where they are more than 38
pub record Extended (stops : List ℕ) (found : ℕ) (more later : List ℕ) (r : ℕ) : Type 0 where
  pub sized : length later ≡ 39
  pub within : r ≤ 38 → take found stops ++ more ≡ take r later
  pub over : 38 < r → 38 < found + length more

-- whether an index is that of a record with 38 semicolons
abbrev pub is_whole_index : List ℕ → Bool
is_whole_index stops = ltb 0 (get_or stops 38 0)

-- field n ends within the record, and behind the end of the field before it
unfoldable pub is_placed : ℕ → List ℕ → ℕ → Bool
is_placed size stops n = leb (get_or stops (n - 1) 0) size && (eqb n 1 || ltb (get_or stops (n - 2) 0) (get_or stops (n - 1) 0))

-- where field n lies by an index, in a record of the given size; the empty part where the index doesn't say
unfoldable pub place_in : ℕ → List ℕ → ℕ → Place
place_in size stops n =
    cond (leb 1 n && leb n 39 && is_placed size stops n)
    (let start = cond (eqb n 1) 0 (suc (get_or stops (n - 2) 0)) in record { start = start; length = get_or stops (n - 1) 0 - start })
    empty_place

-- the bytes of field n by an index
abbrev pub field_by : List ℕ → List ℕ → ℕ → List ℕ
field_by «record» stops n = bytes_at «record» (place_in (length «record») stops n)

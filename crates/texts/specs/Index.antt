-- The index of the two lists of texts: for each code of four digits the row that its text is taken from.
-- Assumes nothing.
use Rattle.std.specs.Prelude.{ℕ, zero, suc, ◌+◌, ◌-◌, Bool, ◌&&◌, cond, List, [], ◌∷◌, ◌++◌, ltb, get_or, replicate}
use Rattle.std.specs.Borrow.{Bor}
use Rattle.text.specs.Part.{Lies}
use Rattle.texts.specs.Texts.{code_count, texts_ok, row_number, holds_text, text_at, text_start}

-- how many entries an index has: one for each code, and one that is above a blank one where both lists are of their form
abbrev pub index_size : ℕ
index_size = 10001

-- a blank entry, from which the rows of our list are counted on; and what those of the member's are counted on from
abbrev pub blank_entry : ℕ
blank_entry = 1

abbrev pub member_base : ℕ
member_base = 10001

-- the entry of a code: the number of its row, counted on from 10,001 where that is the member's; blank where neither list holds the code
abbrev pub entry_of : List ℕ → List ℕ → ℕ → ℕ
entry_of member ours code = cond (holds_text member code) (member_base + row_number member code) (blank_entry + row_number ours code)

-- the values of f from 0 up to below n
unfoldable pub values_below : ℕ → (ℕ → ℕ) → List ℕ
values_below zero f = []
values_below (suc n) f = values_below n f ++ (f n ∷ [])

-- an index without entries
abbrev pub blank_index : List ℕ
blank_index = replicate index_size blank_entry

-- the index of two lists: blank where one of them is not of its form
unfoldable pub index_of : List ℕ → List ℕ → List ℕ
index_of member ours = cond (texts_ok member && texts_ok ours) (values_below code_count (entry_of member ours) ++ (2 ∷ [])) blank_index

-- whether both lists are of their form, by their index
abbrev pub is_listed : List ℕ → Bool
is_listed rows = ltb blank_entry (get_or rows code_count 0)

-- the entry of a code in an index; blank where it has more than four digits. Whether one of the lists holds the code
abbrev pub entry_in : List ℕ → ℕ → ℕ
entry_in rows code = cond (ltb code code_count) (get_or rows code 0) blank_entry

abbrev pub names_row : List ℕ → ℕ → Bool
names_row rows code = ltb blank_entry (entry_in rows code)

-- the list that an entry speaks of, and the number of the row in it
abbrev pub list_at : ℕ → Bor (List ℕ) → Bor (List ℕ) → Bor (List ℕ)
list_at entry member ours = cond (ltb member_base entry) member ours

abbrev pub row_at : ℕ → ℕ
row_at entry = cond (ltb member_base entry) (entry - member_base) (entry - blank_entry)

-- the text that an entry speaks of, as a part of the list that it speaks of
abbrev pub HandedBy : ℕ → Bor (List ℕ) → Bor (List ℕ) → Bor (List ℕ) → Type 0
HandedBy entry member ours r =
    Lies (list_at entry member ours) (text_start (list_at entry member ours).now (row_at entry)) (text_at (list_at entry member ours).now (row_at entry)) r

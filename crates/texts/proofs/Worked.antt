-- Worked cases: the member's text wins, ours stands in for it, a text of spaces alone is empty, and leading spaces are kept.
-- Assumes nothing.
use mathlib.Core.Bool.{true, false}
use mathlib.Core.List.{[], ◌∷◌, ◌++◌, map}
use mathlib.Core.Path.{◌≡◌, refl}
use lib.ListN.{drop, set}
use Rattle.frame.specs.Every.{every, least}
use Rattle.frame.specs.Parts.{part}
use Rattle.text.specs.Bytes.{all}
use Rattle.text.specs.Text.{bytes}
use Rattle.decimal.specs.Decimal.{digits_value_after}
use Rattle.texts.specs.Texts.{text_form, text_row_ok, texts_ok, row_among, holds_text, trimmed, text_at, text_of}
use Rattle.texts.specs.Index.{entry_of}
use Rattle.texts.specs.Worked.{row_of_text, member_texts, our_texts}

-- both lists are of their form
pub worked_lists : texts_ok member_texts ∷ texts_ok our_texts ∷ [] ≡ true ∷ true ∷ []
unfolding row_of_text member_texts our_texts texts_ok text_row_ok text_form every part all digits_value_after
worked_lists = refl

-- a code twice, a code of three digits, an apostrophe, the byte 0x7F, a row of 79 bytes: none is of its form; a list without rows is
pub worked_broken :
    map texts_ok
    ((row_of_text "0041" "a" ++ row_of_text "0041" "b") ∷ row_of_text "041 " "a" ∷ row_of_text "0041" "it's" ∷ set (row_of_text "0041" "a") 79 0x7F
    ∷ drop 1 (row_of_text "0041" "a") ∷ [] ∷ [])
    ≡ false ∷ false ∷ false ∷ false ∷ false ∷ true ∷ []
unfolding row_of_text texts_ok text_row_ok text_form every part all digits_value_after
worked_broken = refl

-- 41 is the member's, 102 ours, 7 a text of spaces alone, 9045 one that begins with spaces; 8 is in neither list
pub worked_texts :
    map (text_of member_texts our_texts) (41 ∷ 102 ∷ 7 ∷ 9045 ∷ 8 ∷ [])
    ≡ bytes "No such bank" ∷ bytes "Number already used" ∷ [] ∷ bytes "  16 bytes" ∷ [] ∷ []
unfolding row_of_text member_texts our_texts text_of text_at trimmed row_among least part all digits_value_after
worked_texts = refl

-- their entries in an index: 1 and a row of ours, or 10,001 and a row of the member's
pub worked_entries : map (entry_of member_texts our_texts) (41 ∷ 102 ∷ 7 ∷ 9045 ∷ 8 ∷ []) ≡ 10002 ∷ 4 ∷ 2 ∷ 10003 ∷ 1 ∷ []
unfolding row_of_text member_texts our_texts row_among least part digits_value_after
worked_entries = refl

-- whether our list holds the code of a text of spaces alone, and one that it lacks
pub worked_held : map (holds_text our_texts) (7 ∷ 8 ∷ []) ≡ true ∷ false ∷ []
unfolding row_of_text our_texts row_among least part digits_value_after
worked_held = refl

-- Places 42 to 46 of document 01: the capacity in which the reporter traded.
-- Assumes nothing.
use Rattle.std.specs.Prelude.{ℕ, Bool, ◌&&◌, ◌||◌, not, List, [], ◌∷◌}
use Rattle.tables.specs.Reporters.{has_code, has_address}
use Rattle.fields.specs.Forms.{blank, filled, is, one_of}

-- F3 and F4 name the reporter's own row: F3=B with its bank code, or F3=S with its address
unfoldable pub names_own : List ℕ → ℕ → List ℕ → List ℕ → Bool
names_own reporters row f3 f4 = is f3 "B" && has_code reporters f4 row || is f3 "S" && has_address reporters f4 row

unfoldable pub capacity_tests : List ℕ → ℕ → List ℕ → List ℕ → List ℕ → List ℕ → List Bool
capacity_tests reporters row f3 f4 f18 f28 =
    -- 42 0280 F28 blank
    blank f28
    -- 43 0281 F28 filled, not E or K
    ∷ (filled f28 && not (one_of f28 "EK"))
    -- 44 0282 F28=E with F18=N
    ∷ (is f28 "E" && is f18 "N")
    -- 45 0283 F28=K, yet F3 and F4 name the reporter's own row
    ∷ (is f28 "K" && names_own reporters row f3 f4)
    -- 46 0284 F28=E, F4 filled, and they don't
    ∷ (is f28 "E" && filled f4 && not (names_own reporters row f3 f4))
    ∷ []

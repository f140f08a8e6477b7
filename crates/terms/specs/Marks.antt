-- Places 59 and 60 of document 01: the last mark and the number of the report.
-- Assumes nothing.
use Rattle.std.specs.Prelude.{ℕ, Bool, not, List, [], ◌∷◌}
use Rattle.identifier.specs.Identifier.{name_up_to}
use Rattle.fields.specs.Forms.{one_of}

unfoldable pub mark_tests : List ℕ → List ℕ → List Bool
mark_tests f38 f39 =
    -- 59 9381 F38 not J or N
    not (one_of f38 "JN")
    -- 60 9391 F39 not 1 to 16 capitals or digits
    ∷ not (name_up_to 16 f39)
    ∷ []

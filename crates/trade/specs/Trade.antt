-- Places 18 to 24 of document 01: side, date, time, venue and marks of the trade.
-- Assumes nothing.
use Rattle.std.specs.Prelude.{ℕ, Bool, ◌&&◌, ◌||◌, not, List, [], ◌∷◌, eqb, length}
use Rattle.text.specs.Bytes.{all}
use Rattle.text.specs.Class.{is_capital_or_digit}
use Rattle.calendar.specs.Calendar.{real_date, real_second}
use Rattle.fields.specs.Forms.{filled, is, one_of}

-- four capitals or digits
unfoldable pub venue_form : List ℕ → Bool
venue_form s = eqb (length s) 4 && all is_capital_or_digit s

unfoldable pub trade_tests : List ℕ → List ℕ → List ℕ → List ℕ → List ℕ → List ℕ → List ℕ → List Bool
trade_tests f7 f8 f9 f14 f15 f18 f19 =
    -- 18 9071 F7 not B or S
    not (one_of f7 "BS")
    -- 19 9081 F8 not a real date in 2000-2099
    ∷ not (real_date f8)
    -- 20 9091 F9 not six digits up to 235959 with minutes and seconds to 59
    ∷ not (real_second f9)
    -- 21 9141 F14 not four capitals or digits, while F15=J or F19 is A or R
    ∷ (not (venue_form f14) && (is f15 "J" || one_of f19 "AR"))
    -- 22 9142 F15=N, F14 filled, F19 neither A nor R
    ∷ (is f15 "N" && filled f14 && not (one_of f19 "AR"))
    -- 23 9151 F15 not J or N
    ∷ not (one_of f15 "JN")
    -- 24 9181 F18 not J or N
    ∷ not (one_of f18 "JN")
    ∷ []

-- Real dates in 2000 to 2099 and times of day, as places 19 and 20 and refusal 6 of document 01 ask them.
-- Assumes nothing.
use Rattle.std.specs.Prelude.{ℕ, ◌+◌, ◌-◌, ◌*◌, ◌%◌, Bool, ◌&&◌, ◌||◌, cond, List, leb, eqb, length, get_or}
use Prim.Native.Char.{code}
use Rattle.text.specs.Class.{is_digit}
use Rattle.text.specs.Bytes.{all}

-- n digits
unfoldable pub digits_exactly : ℕ → List ℕ → Bool
digits_exactly n s = eqb (length s) n && all is_digit s

-- the number that the digits at place i and behind it write
abbrev pub two_at : List ℕ → ℕ → ℕ
two_at s i = (get_or s i 0 - code "0") * 10 + (get_or s (i + 1) 0 - code "0")

-- the days of a month, the year counted from 2000. Of the years 2000 to 2099 every fourth is a leap year, 2000 too
unfoldable pub days_in : ℕ → ℕ → ℕ
days_in year month =
    cond (eqb month 2) (cond (eqb (year % 4) 0) 29 28)
    (cond (eqb month 4 || eqb month 6 || eqb month 9 || eqb month 11) 30 31)

-- the first two digits of the year, the last two, the month and the day name a day in 2000 to 2099
unfoldable pub real_day : ℕ → ℕ → ℕ → ℕ → Bool
real_day century year month day = eqb century 20 && leb 1 month && leb month 12 && leb 1 day && leb day (days_in year month)

-- YYYYMMDD, a real date in 2000 to 2099
unfoldable pub real_date : List ℕ → Bool
real_date s = digits_exactly 8 s && real_day (two_at s 0) (two_at s 2) (two_at s 4) (two_at s 6)

-- HHMM, up to 2359 with minutes to 59
unfoldable pub real_minute : List ℕ → Bool
real_minute s = digits_exactly 4 s && leb (two_at s 0) 23 && leb (two_at s 2) 59

-- HHMMSS, up to 235959 with minutes and seconds to 59
unfoldable pub real_second : List ℕ → Bool
real_second s = digits_exactly 6 s && leb (two_at s 0) 23 && leb (two_at s 2) 59 && leb (two_at s 4) 59

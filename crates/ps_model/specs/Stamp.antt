-- The text of a moment (XEP-0082): `CCYY-MM-DDThh:mm:ssZ`, of the fields that a clock at UTC shows.
use Rattle.std.specs.Prelude.{ℕ, zero, suc, ◌+◌, ◌-◌, ◌/◌, ◌%◌, Bool, true, false, not, ◌&&◌, ◌||◌, ◌==◌, if◌then◌else◌, nat_lt, List, [], ◌∷◌, ◌++◌, codes}

-- every fourth year, but of the centuries only every fourth
abbrev pub is_leap_year : ℕ → Bool
is_leap_year year = (year % 4 == 0) && (not (year % 100 == 0) || (year % 400 == 0))

-- the days of a year
abbrev pub days_in_year : ℕ → ℕ
days_in_year year = if is_leap_year year then 366 else 365

-- thirty days have September, April, June and November
abbrev pub days_in_month : ℕ → ℕ → ℕ
days_in_month year month =
    if month == 2 then (if is_leap_year year then 29 else 28)
    else (if (month == 4) || (month == 6) || (month == 9) || (month == 11) then 30 else 31)

-- a number below 100, in two digits
abbrev pub pad2 : ℕ → List ℕ
pad2 n = (48 + n / 10) ∷ (48 + n % 10) ∷ []

-- a number below 10000, in four digits
abbrev pub pad4 : ℕ → List ℕ
pad4 n = pad2 (n / 100) ++ pad2 (n % 100)

-- the year that the day lies in, counted from the first day of this one, and the day's place in it, from 0
abbrev pub year_from : ℕ → ℕ → ℕ → ℕ × ℕ
year_from zero year day = (year, day)
year_from (suc more) year day =
    elim (nat_lt day (days_in_year year)) as (λ b. ℕ × ℕ)
    [ true ↦ (year, day) | false ↦ year_from more (year + 1) (day - days_in_year year) ]

-- the same of the months of a year
abbrev pub month_from : ℕ → ℕ → ℕ → ℕ → ℕ × ℕ
month_from zero year month day = (month, day)
month_from (suc more) year month day =
    elim (nat_lt day (days_in_month year month)) as (λ b. ℕ × ℕ)
    [ true ↦ (month, day) | false ↦ month_from more year (month + 1) (day - days_in_month year month) ]

abbrev pub day_text : ℕ → ℕ × ℕ → List ℕ
day_text year at = codes "-" ++ pad2 at.0 ++ codes "-" ++ pad2 (at.1 + 1)

abbrev pub year_text : ℕ × ℕ → List ℕ
year_text at = pad4 at.0 ++ day_text at.0 (month_from 11 at.0 1 at.1)

-- `2001-09-09` of the day that is so many after 1970-01-01
abbrev pub date_text : ℕ → List ℕ
date_text day = year_text (year_from day 1970 day)

-- `01:46:40` of the second of the day
abbrev pub time_text : ℕ → List ℕ
time_text second = pad2 (second / 3600) ++ codes ":" ++ pad2 (second / 60 % 60) ++ codes ":" ++ pad2 (second % 60)

-- of the moment that is so many seconds after 1970-01-01T00:00:00Z
abbrev pub stamp : ℕ → List ℕ
stamp moment = date_text (moment / 86400) ++ codes "T" ++ time_text (moment % 86400) ++ codes "Z"

-- The stamp of a moment is the text of the date and time that a clock at UTC shows.
use Rattle.std.proofs.Common.{◌≡◌, ℕ, zero, suc, ◌+◌, ◌-◌, ◌*◌, ◌/◌, ◌%◌, ◌<◌, ◌≤◌, Bool, true, false, List, [], ◌∷◌, ◌++◌, ℤ, pos, inl, inr, refl, sym, ap, subst, ◌∙◌, append_assoc, arith}
use Rattle.std.specs.Prelude.{None, codes, nat_lt}
use Rattle.std.proofs.lemmas.Bool.{cases_lt, ltb-true, ltb-false}
use Rattle.jiff.specs.Names.{iso_datetime_text}
use Rattle.jiff_core.proofs.CalendarLemmas.{
  day_count-day_of_year,
  day_count-end,
  day_count-epoch,
  day_count-later_year,
  day_count-next_year,
  day_count-year_is,
  day_count_bounds,
  days_from_civil-day_count,
  days_in_year_bounds,
  days_of_months-zero,
  days_of_months_more,
  days_of_months_mono,
}
use Rattle.jiff_core.proofs.DateLemmas.{civil}
use Rattle.jiff_core.proofs.DateTimeLemmas.{civil_nanos-parts, time_nanos_bound}
use Rattle.jiff_core.proofs.SignedLemmas.{signed_arith}
use Rattle.jiff_core.specs.Calendar.{IsCivilDate, IsYear, day_count, day_of_year, days_in_month, days_in_year, days_of_months}
use Rattle.jiff_core.specs.Date.{epoch_day}
use Rattle.jiff_core.specs.DateTime.{civil_nanos}
use Rattle.jiff_core.specs.Time.{time_nanos}
use Rattle.jiff_core.specs.declared.civil.datetime.DateTime.{DateTime}
use Rattle.jiff_fmt.specs.Text as text
use Rattle.ps_model.specs.Stamp.{date_text, day_text, month_from, stamp, time_text, year_from}

pair : (a b c d : ℕ) → a ≡ c → b ≡ d → (let p : ℕ × ℕ = (a, b) in let q : ℕ × ℕ = (c, d) in p ≡ q)
pair a b c d p q i = (p i, q i)

-- ---- months

month-found : (fuel year month day mo da : ℕ) → 1 ≤ month → month ≤ mo → mo ≤ month + fuel → 1 ≤ da → da ≤ days_in_month (pos year) mo
    → day + 1 + days_of_months (pos year) (month - 1) ≡ days_of_months (pos year) (mo - 1) + da → month_from fuel year month day ≡ (mo, da - 1)
month-found zero year month day mo da low le most some fits at =
    let same : month ≡ mo = omega arith in
    let back : month - 1 ≡ mo - 1 = omega arith in
    let left : day ≡ da - 1 = omega (arith, ap (days_of_months (pos year)) back) in
    pair month day mo (da - 1) same left
month-found (suc more) year month day mo da low le most some fits at = by (nat_lt day (days_in_month (pos year) month)) refl
    (month-found more year (month + 1) (day - days_in_month (pos year) month) mo da)
  where
    by : (b : Bool) → nat_lt day (days_in_month (pos year) month) ≡ b
        → (1 ≤ month + 1 → month + 1 ≤ mo → mo ≤ month + 1 + more → 1 ≤ da → da ≤ days_in_month (pos year) mo
        → day - days_in_month (pos year) month + 1 + days_of_months (pos year) (month + 1 - 1) ≡ days_of_months (pos year) (mo - 1) + da
        → month_from more year (month + 1) (day - days_in_month (pos year) month) ≡ (mo, da - 1))
        → elim b as (λ b. ℕ × ℕ) [ true ↦ (month, day) | false ↦ month_from more year (month + 1) (day - days_in_month (pos year) month) ] ≡ (mo, da - 1)
    by true e later =
        let lt : day < days_in_month (pos year) month = ltb-true day (days_in_month (pos year) month) e in
        let more-days = days_of_months_more (pos year) month low in
        let same : month ≡ mo = elim (cases_lt month mo) as (λ c. month ≡ mo) [
          | inl below ↦ (let mono = days_of_months_mono (pos year) month (mo - 1) (omega arith) in absurd (let no : day + 1 ≤ day = omega (arith, mono, more-days) in omega (arith, no)))
          | inr above ↦ omega (arith, above)
        ] in
        let back : month - 1 ≡ mo - 1 = omega (arith, same) in
        let left : day ≡ da - 1 = omega (arith, ap (days_of_months (pos year)) back) in
        pair month day mo (da - 1) same left
    by false e later =
        let ge : days_in_month (pos year) month ≤ day = ltb-false day (days_in_month (pos year) month) e in
        let more-days = days_of_months_more (pos year) month low in
        let below : month < mo = elim (cases_lt month mo) as (λ c. month < mo) [
          | inl below ↦ below
          | inr above ↦ (let same : month ≡ mo = omega (arith, above) in let back : month - 1 ≡ mo - 1 = omega (arith, same) in absurd
              (let no : day + 1 ≤ day = omega (arith, ap (days_of_months (pos year)) back, ap (days_in_month (pos year)) same) in omega (arith, no)))
        ] in
        let here : month + 1 - 1 ≡ month = omega arith in
        later (omega arith) (omega (arith, below)) (omega arith) some fits (omega (arith, ap (days_of_months (pos year)) here, more-days))

-- ---- years

-- a year that begins no later than a date is one of the library's
is-year : (year : ℕ) (y : ℤ) (mo da : ℕ) → IsCivilDate y mo da → day_count (pos year) 1 1 ≤ day_count y mo da → IsYear (pos year)
is-year year y mo da is le = elim (cases_lt year 10000) as (λ c. IsYear (pos year)) [
  | inl below ↦ (omega (arith, signed_arith, below), omega (arith, signed_arith, below))
  | inr above ↦ absurd (past above)
]
  where
    bound : day_count y mo da ≤ 7304849
    bound = (day_count_bounds y mo da is).1

    past : 10000 ≤ year → ⊥
    past above = elim (cases_lt 10000 year) as (λ c. ⊥) [
      | inl far ↦ (let later = day_count-later_year (pos 10000) (pos year) (omega (arith, signed_arith)) (omega (arith, signed_arith, far)) in let no : 7304850 ≤ 7304849 = omega
          (arith, later, day_count-end, le, bound) in omega (arith, no))
      | inr near ↦ (let same : year ≡ 10000 = omega (arith, near, above) in let no : 7304850 ≤ 7304849 = omega (arith, ap (λ k. day_count (pos k) 1 1) same, day_count-end, le, bound) in omega
          (arith, no))
    ]

record Found (y : ℤ) (mo da : ℕ) (at : ℕ × ℕ) : Type 0 where
  year : y ≡ pos at.0
  day : at.1 + 1 ≡ day_of_year y mo da

here : (year day : ℕ) (y : ℤ) (mo da : ℕ) → IsCivilDate y mo da → day + day_count (pos year) 1 1 ≡ day_count y mo da → day < days_in_year (pos year) → Found y mo da (year, day)
here year day y mo da is at lt =
    let le : day_count (pos year) 1 1 ≤ day_count y mo da = omega (arith, at) in
    let same : y ≡ pos year = day_count-year_is (pos year) y mo da (is-year year y mo da is le) is le (omega (arith, at, lt)) in
    record { year = same; day = omega (arith, day_count-day_of_year y mo da is.2.0, at, ap (λ z. day_count z 1 1) same) }

year-found : (fuel year day : ℕ) (y : ℤ) (mo da : ℕ) → IsCivilDate y mo da → day + day_count (pos year) 1 1 ≡ day_count y mo da → day ≤ fuel → Found y mo da (year_from fuel year day)
year-found zero year day y mo da is at le = here year day y mo da is at (omega (arith, (days_in_year_bounds (pos year)).1))
year-found (suc more) year day y mo da is at le = by (nat_lt day (days_in_year (pos year))) refl (year-found more (year + 1) (day - days_in_year (pos year)) y mo da is)
  where
    by : (b : Bool) → nat_lt day (days_in_year (pos year)) ≡ b
        → (day - days_in_year (pos year) + day_count (pos (year + 1)) 1 1 ≡ day_count y mo da → day - days_in_year (pos year) ≤ more
        → Found y mo da (year_from more (year + 1) (day - days_in_year (pos year))))
        → Found y mo da (elim b as (λ b. ℕ × ℕ) [ true ↦ (year, day) | false ↦ year_from more (year + 1) (day - days_in_year (pos year)) ])
    by true e later = here year day y mo da is at (ltb-true day (days_in_year (pos year)) e)
    by false e later =
        let ge : days_in_year (pos year) ≤ day = ltb-false day (days_in_year (pos year)) e in
        let next = day_count-next_year (pos year) (pos (year + 1)) (omega (arith, signed_arith)) (omega (arith, signed_arith)) in
        later (omega (arith, next, at, ge)) (omega (arith, ge, (days_in_year_bounds (pos year)).1))

-- ---- the text

date-is : (dt : DateTime) (day : ℕ) → epoch_day dt.date ≡ pos day → date_text day ≡ text.date_text dt.date
date-is dt day e =
    let y = dt.date.year in
    let mo = dt.date.month in
    let da = dt.date.day in
    let is = civil dt.date in
    let at : day + day_count (pos 1970) 1 1 ≡ day_count y mo da = omega (arith, signed_arith, days_from_civil-day_count y mo da, e, day_count-epoch) in
    let found = year-found day 1970 day y mo da is at (omega arith) in
    let n = (year_from day 1970 day).0 in
    let r = (year_from day 1970 day).1 in
    let fits : da ≤ days_in_month (pos n) mo = subst (λ (z : ℤ). da ≤ days_in_month z mo) found.year is.2.1 in
    let place : r + 1 + days_of_months (pos n) (1 - 1) ≡ days_of_months (pos n) (mo - 1) + da =
    omega (arith, found.day, days_of_months-zero (pos n), ap (λ (z : ℤ). days_of_months z (mo - 1)) found.year) in
    let month = month-found 11 n 1 r mo da (omega arith) is.1.0 (omega (arith, is.1.1)) is.2.0 fits place in
    let back : da - 1 + 1 ≡ da = omega (arith, is.2.0) in
    ap (λ (p : ℕ × ℕ). text.pad4 n ++ day_text n p) month
    ∙ ap (λ (k : ℕ). text.pad4 n ++ (codes "-" ++ text.pad2 mo ++ codes "-" ++ text.pad2 k)) back
    ∙ ap (λ (z : ℤ). text.year_text z ++ 45 ∷ [] ++ text.pad2 mo ++ 45 ∷ [] ++ text.pad2 da) (sym found.year)

time-is : (dt : DateTime) (second : ℕ) → time_nanos dt.time ≡ second * 1000000000 → time_text second ++ codes "Z" ≡ text.time_text None dt.time ++ codes "Z"
time-is dt second e =
    let bound = time_nanos_bound dt.time in
    let none : dt.time.subsec_nanosecond ≡ 0 = omega (arith, e, dt.time.subsec_in) in
    let hour : second / 3600 ≡ dt.time.hour = omega (arith, e, dt.time.minute_in, dt.time.second_in, dt.time.subsec_in) in
    let minute : second / 60 % 60 ≡ dt.time.minute = omega (arith, e, dt.time.minute_in, dt.time.second_in, dt.time.subsec_in) in
    let last : second % 60 ≡ dt.time.second = omega (arith, e, dt.time.minute_in, dt.time.second_in, dt.time.subsec_in) in
    ap (λ (h : ℕ). text.pad2 h ++ codes ":" ++ text.pad2 (second / 60 % 60) ++ codes ":" ++ text.pad2 (second % 60) ++ codes "Z") hour
    ∙ ap (λ (m : ℕ). text.pad2 dt.time.hour ++ codes ":" ++ text.pad2 m ++ codes ":" ++ text.pad2 (second % 60) ++ codes "Z") minute
    ∙ ap (λ (k : ℕ). text.pad2 dt.time.hour ++ codes ":" ++ text.pad2 dt.time.minute ++ codes ":" ++ text.pad2 k ++ codes "Z") last
    ∙ ap (λ (n : ℕ). text.pad2 dt.time.hour ++ codes ":" ++ text.pad2 dt.time.minute ++ codes ":" ++ text.pad2 dt.time.second ++ (text.fraction_part None n ++ codes "Z")) (sym none)

pub stamp-is : (moment : ℕ) (dt : DateTime) → civil_nanos dt ≡ pos (moment * 1000000000) → stamp moment ≡ iso_datetime_text dt ++ codes "Z"
stamp-is moment dt e =
    let parts = civil_nanos-parts dt in
    let bound = time_nanos_bound dt.time in
    let day : epoch_day dt.date ≡ pos (moment / 86400) = omega (arith, signed_arith, parts, bound, e) in
    let second : time_nanos dt.time ≡ moment % 86400 * 1000000000 = omega (arith, signed_arith, parts, bound, e) in
    ap (λ (l : List ℕ). l ++ 84 ∷ (time_text (moment % 86400) ++ codes "Z")) (date-is dt (moment / 86400) day)
    ∙ ap (λ (l : List ℕ). text.date_text dt.date ++ 84 ∷ l) (time-is dt (moment % 86400) second)
    ∙ sym (append_assoc (text.date_text dt.date) (84 ∷ text.time_text None dt.time) (codes "Z"))

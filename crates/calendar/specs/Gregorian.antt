-- The Gregorian calendar, counted from 1 January of the year 1.
use Rattle.std.specs.Prelude.{ℕ, zero, suc, ◌+◌, ◌-◌, ◌*◌, ◌%◌, Bool, cond, not, ◌&&◌, ◌||◌, List, [], ◌∷◌, ◌==◌, nat_le, slice_index}
use Rattle.calendar.specs.declared.Date.{Date}
use Rattle.calendar.specs.declared.Time.{Time}

-- every fourth year, but of the full hundreds only every fourth
abbrev pub leap : ℕ → Bool
leap y = y % 4 == 0 && (not (y % 100 == 0) || y % 400 == 0)

-- January to December of a common year
abbrev pub month_lengths : List ℕ
month_lengths = 31 ∷ 28 ∷ 31 ∷ 30 ∷ 31 ∷ 30 ∷ 31 ∷ 31 ∷ 30 ∷ 31 ∷ 30 ∷ 31 ∷ []

-- months count from 1; any other number is no month and has no days
abbrev pub month_length : ℕ → ℕ → ℕ
month_length m y = slice_index (0 ∷ month_lengths) m + cond (m == 2 && leap y) 1 0

abbrev pub real_date : Date → Bool
real_date d =
    nat_le 1 d.year && nat_le d.year 9999 && nat_le 1 d.month && nat_le d.month 12 && nat_le 1 d.day
    && nat_le d.day (month_length d.month d.year)

abbrev pub real_time : Time → Bool
real_time t = nat_le t.hour 23 && nat_le t.minute 59 && nat_le t.second 59

-- f 1 + f 2 + .. + f n
unfoldable pub sum_to : (ℕ → ℕ) → ℕ → ℕ
sum_to f zero = 0
sum_to f (suc n) = sum_to f n + f (suc n)

abbrev pub year_length : ℕ → ℕ
year_length y = sum_to (λ m. month_length m y) 12

abbrev pub days_before_month : ℕ → ℕ → ℕ
days_before_month m y = sum_to (λ k. month_length k y) (m - 1)

abbrev pub days_before_year : ℕ → ℕ
days_before_year y = sum_to year_length (y - 1)

-- the days from 01.01.0001 to a date: 0 for that day itself
abbrev pub day_number : Date → ℕ
day_number d = days_before_year d.year + (days_before_month d.month d.year + (d.day - 1))

-- the seconds from 01.01.0001 00:00:00 to a date and time
abbrev pub seconds_of : Date → Time → ℕ
seconds_of d t = ((day_number d * 24 + t.hour) * 60 + t.minute) * 60 + t.second

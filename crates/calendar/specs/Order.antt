-- What day numbers and seconds are for: they order dates and times, and tell them apart.
use Rattle.std.specs.Prelude.{◌≡◌, ℕ, ◌<◌, true, ◌⊎◌}
use Rattle.calendar.specs.declared.Date.{Date}
use Rattle.calendar.specs.declared.Time.{Time}
use Rattle.calendar.specs.Gregorian.{real_date, real_time, day_number, days_before_year, seconds_of}

-- by year, then month, then day
abbrev pub EarlierDate : Date → Date → Type 0
EarlierDate a b =
    (a.year < b.year)
    ⊎ ((a.year ≡ b.year) × ((a.month < b.month) ⊎ ((a.month ≡ b.month) × (a.day < b.day))))

-- by hour, then minute, then second
abbrev pub EarlierTime : Time → Time → Type 0
EarlierTime s t =
    (s.hour < t.hour)
    ⊎ ((s.hour ≡ t.hour) × ((s.minute < t.minute) ⊎ ((s.minute ≡ t.minute) × (s.second < t.second))))

-- the numbers m and n come in the order Before, and where they are equal the things numbered are the Same
pub record Ranks (m n : ℕ) (Before Same : Type 0) : Type 0 where
  pub rises : Before → m < n
  pub tells : m < n → Before
  pub same : m ≡ n → Same

abbrev pub DaysRank : Type 0
DaysRank =
    (a b : Date) → real_date a ≡ true → real_date b ≡ true
    → Ranks (day_number a) (day_number b) (EarlierDate a b) (a ≡ b)

abbrev pub SecondsRank : Type 0
SecondsRank =
    (a b : Date) (s t : Time) → real_date a ≡ true → real_date b ≡ true → real_time s ≡ true → real_time t ≡ true
    → Ranks (seconds_of a s) (seconds_of b t) (EarlierDate a b ⊎ ((a ≡ b) × EarlierTime s t)) ((a ≡ b) × (s ≡ t))

-- No number is left out from 0 to the end of the year 9999.
-- With DaysRank: the day number of a real date is the number of real dates before it.
abbrev pub DaysGapless : Type 0
DaysGapless = (n : ℕ) → n < days_before_year 10000 → (d : Date) × (real_date d ≡ true) × (day_number d ≡ n)

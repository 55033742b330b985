-- What the tests for a real date and a real time say, as bounds.
use Rattle.std.proofs.Common.{◌≡◌, ℕ, ◌≤◌, Bool, true, ◌&&◌, leb, arith}
use Rattle.std.proofs.lemmas.Bool.Decides.{nat_tests}
use Rattle.calendar.specs.declared.Date.{Date}
use Rattle.calendar.specs.declared.Time.{Time}
use Rattle.calendar.specs.Gregorian.{month_length, real_date, real_time}

pub record DateBounds (y m d most : ℕ) : Type 0 where
  pub year_from : 1 ≤ y
  pub year_to : y ≤ 9999
  pub month_from : 1 ≤ m
  pub month_to : m ≤ 12
  pub day_from : 1 ≤ d
  pub day_to : d ≤ most

-- the test for a real date, where the month has `most` days
abbrev tested : ℕ → ℕ → ℕ → ℕ → Bool
tested y m d most = leb 1 y && leb y 9999 && leb 1 m && leb m 12 && leb 1 d && leb d most

bounds : (y m d most : ℕ) → tested y m d most ≡ true → DateBounds y m d most
bounds y m d most h =
    record {
      year_from = grind (arith, nat_tests);
      year_to = grind (arith, nat_tests);
      month_from = grind (arith, nat_tests);
      month_to = grind (arith, nat_tests);
      day_from = grind (arith, nat_tests);
      day_to = grind (arith, nat_tests);
    }

within : (y m d most : ℕ) → DateBounds y m d most → tested y m d most ≡ true
within y m d most b = grind (arith, nat_tests)

pub date_bounds : (a : Date) → real_date a ≡ true
    → DateBounds a.year a.month a.day (month_length a.month a.year)
date_bounds a = bounds a.year a.month a.day (month_length a.month a.year)

pub real_from : (a : Date) → DateBounds a.year a.month a.day (month_length a.month a.year)
    → real_date a ≡ true
real_from a = within a.year a.month a.day (month_length a.month a.year)

pub record TimeBounds (t : Time) : Type 0 where
  pub hour_to : t.hour ≤ 23
  pub minute_to : t.minute ≤ 59
  pub second_to : t.second ≤ 59

pub time_bounds : (t : Time) → real_time t ≡ true → TimeBounds t
time_bounds t h =
    record { hour_to = grind (arith, nat_tests); minute_to = grind (arith, nat_tests); second_to = grind (arith, nat_tests) }

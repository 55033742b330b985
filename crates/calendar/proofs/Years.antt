-- The sum of the years' lengths in closed form.
use Rattle.std.proofs.Common.{◌≡◌, ℕ, zero, suc, ◌+◌, ◌-◌, ◌*◌, ◌/◌, cond, refl, arith}
use Rattle.std.proofs.lemmas.Bool.Decides.{nat_tests}
use Rattle.calendar.specs.Gregorian.{leap, year_length, sum_to}

pub length_of_year : (y : ℕ) → year_length y ≡ 365 + cond (leap y) 1 0
unfolding sum_to
length_of_year y = omega arith

-- a leap year is where the fourths and the four-hundredths step, and the hundredths do not
leap_steps : (n : ℕ) → n / 4 + n / 400 + suc n / 100 + cond (leap (suc n)) 1 0 ≡ suc n / 4 + suc n / 400 + n / 100
leap_steps n = grind (arith, nat_tests)

closed_sum : (n : ℕ) → sum_to year_length n + n / 100 ≡ 365 * n + n / 4 + n / 400
unfolding sum_to
closed_sum zero = refl
closed_sum (suc n) = omega (arith, closed_sum n, leap_steps n, length_of_year (suc n))

pub closed : (n : ℕ) → sum_to year_length n ≡ 365 * n + n / 4 - n / 100 + n / 400
closed n = omega (arith, closed_sum n)

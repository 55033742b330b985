use Rattle.std.proofs.Common.{ℕ, ◌+◌, ◌-◌, ◌≤◌, refl, ◌∙◌, arith, rules, tests}
use Rattle.std.proofs.lemmas.Iterator.{YieldsList-from_range, YieldsList-from_map}
use Rattle.std.proofs.lemmas.Iterator.Adapters.{fits_from_length, at_most_from_yields_List, total_from_yields_List}
use Rattle.std.proofs.lemmas.List.FromFn.{length-range_with_len}
use Rattle.std.proofs.lemmas.Bool.Decides.{nat_tests}
use Rattle.calendar.specs.Gregorian.{month_length}
use Rattle.calendar.proofs.Sums.{sum_of_range, sum_at_most}
use Rattle.calendar.proofs.days_before_month.Goals as goal

pub sum-requires-clause-fits : goal.sum-requires-clause-fits
sum-requires-clause-fits c =
    fits_from_length _ _ 255 _ (at_most_from_yields_List (YieldsList-from_range 1 c.args.month (c.args.month - 1) c.map.ensures.source refl) (omega (arith, length-range_with_len 1 (c.args.month - 1)))) c.map.ensures.closure (omega arith) (λ x r q k. search (rules, tests))

pub returns-clause-counts : goal.returns-clause-counts
returns-clause-counts c =
    let f : ℕ → ℕ = λ k. month_length k c.args.year in
    total_from_yields_List (λ a x. a + x) 0 c.sum.result c.sum.ensures.ran (YieldsList-from_map _ f (YieldsList-from_range 1 c.args.month (c.args.month - 1) c.map.ensures.source refl) c.map.ensures.closure (λ x r q k. search rules))
    ∙ sum_of_range f (c.args.month - 1)

-- a month's length is a byte
month_short : (m y : ℕ) → month_length m y ≤ 255
month_short m y = grind (arith, nat_tests)

pub returns-clause-bound : goal.returns-clause-bound
returns-clause-bound c =
    omega (arith, returns-clause-counts c, sum_at_most (λ k. month_length k c.args.year) 255 (c.args.month - 1) (λ i. month_short i c.args.year))

use Rattle.std.proofs.Common.{sym, ap, ◌∙◌, arith}
use Rattle.calendar.specs.Gregorian.{year_length, sum_to}
use Rattle.calendar.proofs.Years.{closed}
use Rattle.calendar.proofs.days_before_year.Goals as goal

pub returns : goal.returns
returns c =
    record {
      counts = sym (closed c.saturating_sub-years.result) ∙ ap (sum_to year_length) c.saturating_sub-years.ensures;
      bound = omega arith;
    }

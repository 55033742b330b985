use Rattle.calendar.proofs.Ranking.{days_rank, days_gapless}
use Rattle.calendar.proofs.moments.Moment.day_number.Goals as goal

pub returns : goal.returns
returns c = record { counts = c.count_days.ensures; ranks = days_rank; gapless = days_gapless }

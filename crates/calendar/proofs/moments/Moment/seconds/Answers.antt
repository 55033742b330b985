use Rattle.std.proofs.Common.{rules}
use Rattle.calendar.proofs.Ranking.{seconds_rank}
use Rattle.calendar.proofs.moments.Moment.seconds.Goals as goal

pub returns : goal.returns
returns c = record { counts = search rules; ranks = seconds_rank }

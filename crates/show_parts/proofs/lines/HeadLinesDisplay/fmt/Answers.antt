use Rattle.std.proofs.Common.{rules}
use Rattle.std.proofs.Output.{has_written_of_eq}
use Rattle.show_parts.proofs.Padding.{zeroed}
use Rattle.show_parts.proofs.lines.HeadLinesDisplay.fmt.Goals as goal

pub returns-clause-writes : goal.returns-clause-writes
returns-clause-writes g c = λ plain ok. has_written_of_eq _ _ _ _ _
    (rw (c.laid_out.ensures) grind (zeroed, rules)) (c.write.ensures.writes plain ok)

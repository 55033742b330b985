use Rattle.wrap.specs.Flow.{blank_in}
use Rattle.wrap.specs.Pictures.{Changed, fill}
use Rattle.wrap.proofs.grid.Grid.clear.Given as goal

abbrev pub invariant-loop-row : goal.invariant-loop-row
invariant-loop-row l = Changed l.initial.self l.self (fill (record { line = l.frame.rectangle.line; column = l.frame.rectangle.column; height = l.row; width = l.frame.rectangle.width }) (blank_in l.frame.formatting))

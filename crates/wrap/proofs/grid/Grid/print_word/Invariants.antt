use Rattle.std.proofs.Common.{◌≡◌, ℕ, List, ◌++◌, length}
use Rattle.field.specs.Areas.{area_of}
use Rattle.wrap.specs.Pictures.{Kept}
use Rattle.wrap.proofs.Painting.{WordLeft}
use Rattle.wrap.proofs.grid.Grid.print_word.Given as goal

abbrev pub invariant-loop-at : goal.invariant-loop-at
invariant-loop-at g l =
    ((cs rest : List ℕ) → g.S.Characters.stands l.source l.word.start (cs ++ rest) → l.word.length ≡ length cs → WordLeft (g.S.Characters.stands l.source) (area_of l.frame.rectangle) l.frame.formatting l.word.row l.word.column l.at l.place cs rest l.initial.self l.self)
    × Kept (area_of l.frame.rectangle) l.initial.self l.self

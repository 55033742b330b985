use Rattle.std.proofs.Common.{ℕ, ◌-◌, List}
use Rattle.field.specs.Areas.{area_of}
use Rattle.wrap.specs.Pictures.{Kept}
use Rattle.wrap.proofs.Painting.{TextLeft}
use Rattle.wrap.proofs.grid.Grid.print.Given as goal

abbrev pub invariant-loop-word : goal.invariant-loop-word
invariant-loop-word g l =
    ((cs : List ℕ) → g.S.Characters.stands l.source 0 cs → TextLeft (g.S.Characters.stands l.source) (area_of l.rectangle) l.formatting l.cursor.place l.cursor.row l.cursor.column cs l.initial.self l.self)
    × Kept (area_of l.rectangle) l.initial.self l.self

abbrev pub decreases-loop-word : goal.decreases-loop-word
decreases-loop-word g l = g.S.Characters.end l.source - l.cursor.place

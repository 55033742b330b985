use Rattle.std.proofs.Common.{◌≡◌, ℕ, ◌<◌}
use Rattle.page.specs.Cells.{blank}
use Rattle.page.proofs.grid.store_blanks.Given as goal

abbrev pub invariant-loop-index : goal.invariant-loop-index
invariant-loop-index g l =
    (g.M.CellMemory.room l.memory ≡ g.M.CellMemory.room l.initial.memory)
    × ((k : ℕ) → k < l.index → g.M.CellMemory.stored l.memory k ≡ blank)

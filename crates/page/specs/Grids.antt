-- What the cells of a page over lent memory show.
use Rattle.std.specs.Prelude.{◌≡◌, ℕ, ◌+◌, ◌*◌, ◌<◌}
use Rattle.page.specs.declared.cell.Cell.{Cell}
use Rattle.page.specs.declared.grid.Grid.{Grid}
use Rattle.page.specs.Cells.{blank}
use Rattle.page.specs.Pages.{CellMap}

-- the cells stand line by line
abbrev pub grid_cells : {M : Type 0} {m : _} → (M → ℕ → Cell) → Grid M m → CellMap
grid_cells stored g l c = stored g.memory (l * g.size.columns + c)

-- every cell of a page shows a blank
abbrev pub AllBlank : {M : Type 0} {m : _} → (M → ℕ → Cell) → Grid M m → Type 0
AllBlank stored g = (l c : ℕ) → l < g.size.lines → c < g.size.columns → grid_cells stored g l c ≡ blank

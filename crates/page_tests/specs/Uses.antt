use Rattle.std.specs.Prelude.{◌≡◌, ℕ, ◌<◌, Result}
use Rattle.page.specs.declared.cell.Cell.{Cell}
use Rattle.page.specs.declared.cell.PlaceError.{PlaceError}
use Rattle.page.specs.declared.cell.Size.{Size}
use Rattle.page.specs.Pages.{CellMap, painted, placing}

-- what each cell of a page shows after a cell was placed at the first line and column, and then the same at another
abbrev pub PaintedBoth : {A : Type 0} → Size → Result A PlaceError → (line column : ℕ) → Cell
    → (before after : CellMap) → Type 0
PaintedBoth size answer line column cell before after =
    (l c : ℕ) → l < size.lines → c < size.columns
    → after l c ≡ painted answer line column cell l c (painted (placing size 0 0 cell) 0 0 cell l c (before l c))

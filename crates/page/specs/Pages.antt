-- What a page answers and shows, from its size and its cells.
use Rattle.std.specs.Prelude.{◌≡◌, ℕ, ◌<◌, ◌≤◌, true, cond, ◌&&◌, Some, None, Option, Ok, Err, Result, ◌==◌}
use Rattle.page.specs.declared.cell.Cell.{Cell}
use Rattle.page.specs.declared.cell.Size.{Size}
use Rattle.page.specs.declared.cell.PlaceError.{PlaceError}
use Rattle.page.specs.declared.cell.PlaceError.TheVariants.{Outside, Unlawful}
use Rattle.page.specs.Cells.{lawful_cell}
use Rattle.page.specs.Sizes.{inside}

-- what the cell at each line and column shows
abbrev pub CellMap : Type 0
CellMap = ℕ → ℕ → Cell

-- what reading a cell answers
abbrev pub reading : Size → CellMap → (line column : ℕ) → Option Cell
reading size cells line column = cond (inside size line column) (Some (cells line column)) None

-- what placing a cell answers
abbrev pub placing : Size → (line column : ℕ) → Cell → Result (Unit {0}) PlaceError
placing size line column cell =
    cond (inside size line column) (cond (lawful_cell cell) (Ok tt) (Err Unlawful)) (Err Outside)

-- what a cell shows after another, or itself, was placed with that answer
abbrev pub painted : {A : Type 0} → Result A PlaceError → (line column : ℕ) → Cell → (l c : ℕ) → (before : Cell) → Cell
painted (Ok _) line column cell l c before = cond (l == line && c == column) cell before
painted (Err _) line column cell l c before = before

-- each cell of a page, before and after
abbrev pub Painted : {A : Type 0} → Size → Result A PlaceError → (line column : ℕ) → Cell
    → (before after : CellMap) → Type 0
Painted size answer line column cell before after =
    (l c : ℕ) → l < size.lines → c < size.columns → after l c ≡ painted answer line column cell l c (before l c)

-- the limits of every page
pub record Limited (size : Size) : Type 0 where
  pub lines_limit : size.lines ≤ 100000
  pub columns_limit : size.columns ≤ 100000

abbrev pub AllLawful : Size → CellMap → Type 0
AllLawful size cells = (l c : ℕ) → l < size.lines → c < size.columns → lawful_cell (cells l c) ≡ true

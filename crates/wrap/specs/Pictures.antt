-- What fields show that are printed one over another.
use Rattle.std.specs.Prelude.{◌≡◌, ℕ, ◌+◌, ◌-◌, ◌*◌, ◌<◌, true, false, cond, ◌&&◌, List, [], ◌∷◌, ◌++◌, Some, None, Option, nat_lt, slice_index_or}
use Rattle.std.specs.List.{AllByRecursion}
use Rattle.page.specs.declared.cell.Cell.{Cell}
use Rattle.page.specs.Cells.{blank}
use Rattle.wrap.specs.declared.grid.Grid.{Grid}
use Rattle.field.specs.Areas.{Area, covers}
use Rattle.field.specs.Fields.{Field}
use Rattle.wrap.specs.Flow.{Glyph, over, shows}

-- what a field shows at a line and a column that it covers
abbrev pub field_shows : Field → ℕ → ℕ → Cell
field_shows x l c = shows x.area.width x.formatting x.characters (l - x.area.line) (c - x.area.column)

-- a cell after a field is printed
abbrev pub printed_over : Field → ℕ → ℕ → Cell → Cell
printed_over x l c cell = cond (covers x.area l c) (field_shows x l c) cell

-- a cell after fields are printed in order
abbrev pub all_over : List Field → ℕ → ℕ → Cell → Cell
all_over [] l c cell = cell
all_over (x ∷ xs) l c cell = all_over xs l c (printed_over x l c cell)

-- the last field that covers the cell, else character 32 with formatting 0
abbrev pub picture : List Field → ℕ → ℕ → Cell
picture xs l c = all_over xs l c blank

-- what a cell of the grid shows
abbrev pub grid_cell : Grid → ℕ → ℕ → Cell
grid_cell g l c = slice_index_or g.cells (l * 72 + c) (record { character = 0; formatting = 0 })

abbrev pub on_grid : Grid → ℕ → ℕ → Option Cell
on_grid g l c = cond (nat_lt l 15 && nat_lt c 72) (Some (grid_cell g l c)) None

-- the second grid is the first with its cells changed so
abbrev pub Changed : Grid → Grid → (ℕ → ℕ → Cell → Cell) → Type 0
Changed was now change = (l c : ℕ) → l < 15 → c < 72 → grid_cell now l c ≡ change l c (grid_cell was l c)

-- every cell outside an area is as it was
abbrev pub Kept : Area → Grid → Grid → Type 0
Kept a was now = (l c : ℕ) → l < 15 → c < 72 → covers a l c ≡ false → grid_cell now l c ≡ grid_cell was l c

-- the cells of an area set to one
abbrev pub fill : Area → Cell → ℕ → ℕ → Cell → Cell
fill a new l c cell = cond (covers a l c) new cell

-- the printed characters over the cells of an area
abbrev pub paint : Area → ℕ → List Glyph → ℕ → ℕ → Cell → Cell
paint a formatting gs l c cell = cond (covers a l c) (over formatting (l - a.line) (c - a.column) gs cell) cell

-- a field behind the last changes only the cells of its rectangle
abbrev pub AddedLast : Type 0
AddedLast = (xs : List Field) (x : Field) (l c : ℕ) → picture (xs ++ x ∷ []) l c ≡ printed_over x l c (picture xs l c)

-- the last field that covers a cell is the one that it shows
abbrev pub LastShows : Type 0
LastShows = (xs ys : List Field) (x : Field) (l c : ℕ) → covers x.area l c ≡ true → AllByRecursion (λ y. covers y.area l c ≡ false) ys → picture (xs ++ x ∷ ys) l c ≡ field_shows x l c

abbrev pub NoneShowsBlank : Type 0
NoneShowsBlank = (xs : List Field) (l c : ℕ) → AllByRecursion (λ x. covers x.area l c ≡ false) xs → picture xs l c ≡ blank

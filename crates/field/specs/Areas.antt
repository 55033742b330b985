-- Rectangles on the area of 15 lines and 72 columns.
use Rattle.std.specs.Prelude.{◌≡◌, ℕ, ◌+◌, Bool, true, false, ◌&&◌, Some, None, Option, nat_le, nat_lt}
use Rattle.field.specs.declared.cells.Cells.{Cells}
use Rattle.field.specs.declared.rectangle.Rectangle.{Rectangle}

pub record Area : Type 0 where
  pub line : ℕ
  pub column : ℕ
  pub height : ℕ
  pub width : ℕ

abbrev pub area_of : Rectangle → Area
area_of x = record { line = x.line; column = x.column; height = x.height; width = x.width }

abbrev pub area_of_cells : Cells → Area
area_of_cells x = record { line = x.line; column = x.column; height = x.height; width = x.width }

-- at least one cell, and none outside the area
abbrev pub lawful : Area → Bool
lawful a = (nat_le 1 a.height && nat_le 1 a.width) && (nat_le (a.line + a.height) 15 && nat_le (a.column + a.width) 72)

abbrev pub covers : Area → ℕ → ℕ → Bool
covers a l c = (nat_le a.line l && nat_lt l (a.line + a.height)) && (nat_le a.column c && nat_lt c (a.column + a.width))

-- the rectangle of an area that is lawful, else nothing
abbrev pub RectangleOf : Area → Option Rectangle → Type 0
RectangleOf a (Some x) = (area_of x ≡ a) × (lawful a ≡ true)
RectangleOf a None = lawful a ≡ false

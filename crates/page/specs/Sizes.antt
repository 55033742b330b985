-- Which cells a page of a size has, and which sizes a page over lent memory has. Lines and columns are counted from 0.
use Rattle.std.specs.Prelude.{ℕ, ◌+◌, ◌*◌, Bool, cond, ◌&&◌, Some, None, Option, nat_le, nat_lt}
use Rattle.page.specs.declared.cell.Size.{Size}

abbrev pub inside : Size → (line column : ℕ) → Bool
inside size line column = nat_lt line size.lines && nat_lt column size.columns

-- where a cell of a page of that size stands, line by line
abbrev pub index_in : Size → (line column : ℕ) → Option ℕ
index_in size line column = cond (inside size line column) (Some (line * size.columns + column)) None

-- at most 1,000 lines and 1,000 columns, and room for each cell
abbrev pub fits : (lines columns room : ℕ) → Bool
fits lines columns room = nat_le lines 1000 && (nat_le columns 1000 && nat_le (lines * columns) room)

-- the size of a page with room for so many cells: both are 0 where it does not fit
abbrev pub fitting_size : (lines columns room : ℕ) → Size
fitting_size lines columns room =
    cond (fits lines columns room) (record { lines = lines; columns = columns }) (record { lines = 0; columns = 0 })

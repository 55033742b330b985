-- An offset page, from the size and the cells of the page below.
use Rattle.std.specs.Prelude.{◌≡◌, ℕ, ◌+◌, ◌-◌, ◌<◌, ◌⊎◌}
use Rattle.page.specs.declared.cell.Size.{Size}
use Rattle.page.specs.declared.offset.OffsetPage.{OffsetPage}
use Rattle.page.specs.Pages.{CellMap}

-- what remains of a size behind so many lines and columns
abbrev pub remaining : Size → (lines columns : ℕ) → Size
remaining size lines columns = record { lines = size.lines - lines; columns = size.columns - columns }

abbrev pub offset_size : {P : Type 0} → (P → Size) → OffsetPage P → Size
offset_size size p = remaining (size p.below) p.down p.right

-- the cells below at the shifted place
abbrev pub offset_cells : {P : Type 0} → (P → CellMap) → OffsetPage P → CellMap
offset_cells cells p l c = cells p.below (l + p.down) (c + p.right)

-- An offset page and the same page later: shift and size below stay, and so do the cells below
-- that lie above the window or to the left of it, and what lies around the page below.
pub record OffsetAround {P : Type 0} (size : P → Size) (cells : P → CellMap) (around : P → P → Type 0)
    (p q : OffsetPage P) : Type 0 where
  pub down_kept : q.down ≡ p.down
  pub right_kept : q.right ≡ p.right
  pub size_kept : size q.below ≡ size p.below
  pub cells_kept : (l c : ℕ) → l < (size p.below).lines → c < (size p.below).columns
      → (l < p.down) ⊎ (c < p.right) → cells q.below l c ≡ cells p.below l c
  pub below_kept : around p.below q.below

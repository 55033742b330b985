-- The two memories: how many cells one has room for, and which cell is stored at each index.
use Rattle.std.specs.Prelude.{ℕ, ◌+◌, ◌*◌, ◌/◌, ◌%◌, min, length, slice_index}
use Rattle.page.specs.declared.cell.Cell.{Cell}
use Rattle.page.specs.declared.memory.PackedCells.{PackedCells}
use Rattle.page.specs.declared.memory.PlanarCells.{PlanarCells}

-- a word holds eight times the character, and the formatting
abbrev pub packed : Cell → ℕ
packed cell = cell.character * 8 + cell.formatting

abbrev pub unpacked : ℕ → Cell
unpacked word = record { character = word / 8; formatting = word % 8 }

abbrev pub packed_room : PackedCells → ℕ
packed_room m = length m.words.now

abbrev pub packed_stored : PackedCells → ℕ → Cell
packed_stored m k = unpacked (slice_index m.words.now k)

-- the shorter memory decides
abbrev pub planar_room : PlanarCells → ℕ
planar_room m = min (length m.characters.now) (length m.formattings.now)

abbrev pub planar_stored : PlanarCells → ℕ → Cell
planar_stored m k = record { character = slice_index m.characters.now k; formatting = slice_index m.formattings.now k }

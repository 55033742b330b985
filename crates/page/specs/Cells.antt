-- What a cell may show.
use Rattle.std.specs.Prelude.{Bool, ◌&&◌, nat_le}
use Rattle.page.specs.declared.cell.Cell.{Cell}

-- a character up to 1,114,111 and a formatting up to 7
abbrev pub lawful_cell : Cell → Bool
lawful_cell cell = nat_le cell.character 1114111 && nat_le cell.formatting 7

abbrev pub blank : Cell
blank = record { character = 32; formatting = 0 }

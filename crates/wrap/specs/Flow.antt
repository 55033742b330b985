-- The flow of a text at a width: where each word and each of its characters is printed.
use Rattle.std.specs.Prelude.{ℕ, ◌+◌, ◌-◌, Bool, true, false, cond, ◌&&◌, List, [], ◌∷◌, ◌++◌, length, ◌==◌, nat_le, nat_lt}
use Rattle.page.specs.declared.cell.Cell.{Cell}
use Rattle.wrap.specs.Classes.{class_of, by_class, take_ink}

-- a word with the row and the column of its first character
pub record WordAt : Type 0 where
  pub row : ℕ
  pub column : ℕ
  pub characters : List ℕ

-- a printed character with its row and its column
pub record Glyph : Type 0 where
  pub row : ℕ
  pub column : ℕ
  pub character : ℕ

-- a word no longer than the width less the column is printed there, any other at the front of the next row
abbrev pub put : ℕ → ℕ → ℕ → List ℕ → WordAt
put width row column word =
    cond (nat_le (length word) (width - column)) (record { row = row; column = column; characters = word })
    (record { row = row + 1; column = 0; characters = word })

-- the column behind a word
abbrev pub behind : WordAt → ℕ
behind word = word.column + length word.characters

-- the words of a text from a row and a column on: a blank adds one to a column below the width, a line feed goes to
-- the front of the next row, and the first ink outside a word begins one
abbrev pub words : ℕ → Bool → ℕ → ℕ → List ℕ → List WordAt
words width inside row column [] = []
words width inside row column (c ∷ cs) =
    by_class (class_of c) (words width false row (cond (nat_lt column width) (column + 1) column) cs)
    (words width false (row + 1) 0 cs)
    (cond inside (words width true row column cs)
    (put width row column (c ∷ take_ink cs) ∷ words width true (put width row column (c ∷ take_ink cs)).row (behind (put width row column (c ∷ take_ink cs))) cs))

abbrev pub words_of : ℕ → List ℕ → List WordAt
words_of width cs = words width false 0 0 cs

-- one cell a character, from left to right
abbrev pub spread : ℕ → ℕ → List ℕ → List Glyph
spread row column [] = []
spread row column (c ∷ cs) = record { row = row; column = column; character = c } ∷ spread row (column + 1) cs

abbrev pub printed : List WordAt → List Glyph
printed [] = []
printed (word ∷ others) = spread word.row word.column word.characters ++ printed others

-- the printed characters of a text
abbrev pub flow_of : ℕ → List ℕ → List Glyph
flow_of width cs = printed (words_of width cs)

-- every word is no longer than the width and stands on a row below the height
abbrev pub all_fit : ℕ → ℕ → List WordAt → Bool
all_fit height width [] = true
all_fit height width (word ∷ others) = (nat_le (length word.characters) width && nat_lt word.row height) && all_fit height width others

abbrev pub fits : ℕ → ℕ → List ℕ → Bool
fits height width cs = all_fit height width (words_of width cs)

-- a cell at a row and a column with the printed characters over it, in their formatting
abbrev pub over : ℕ → ℕ → ℕ → List Glyph → Cell → Cell
over formatting row column [] cell = cell
over formatting row column (g ∷ gs) cell = over formatting row column gs (cond (g.row == row && g.column == column) (record { character = g.character; formatting = formatting }) cell)

abbrev pub blank_in : ℕ → Cell
blank_in formatting = record { character = 32; formatting = formatting }

-- what a rectangle with a text and a formatting shows at a row and a column of its own: the character printed there, else a blank
abbrev pub shows : ℕ → ℕ → List ℕ → ℕ → ℕ → Cell
shows width formatting cs row column = over formatting row column (flow_of width cs) (blank_in formatting)

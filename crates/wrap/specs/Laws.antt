-- What the flow of every text at every width keeps.
use Rattle.std.specs.Prelude.{◌≡◌, ℕ, ◌<◌, ◌≤◌, List, [], ◌∷◌, map, Decides, ◌≢◌}
use Rattle.std.specs.List.{AllByRecursion}
use Rattle.wrap.specs.Classes.{ink_of}
use Rattle.wrap.specs.Flow.{Glyph, flow_of, fits}

-- the character lies inside a rectangle of that height and width
abbrev pub Inside : ℕ → ℕ → Glyph → Type 0
Inside height width g = (g.row < height) × (g.column < width)

-- the first stands before the second, reading row by row
abbrev pub Before : Glyph → Glyph → Type 0
Before g h = (g.row ≤ h.row) × (g.row ≡ h.row → g.column < h.column)

abbrev pub Apart : Glyph → Glyph → Type 0
Apart g h = g.row ≡ h.row → g.column ≢ h.column

-- each element of a list, with each that comes later
abbrev pub Pairwise : {X : Type 0} → (X → X → Type 0) → List X → Type 0
Pairwise R [] = Unit {0}
Pairwise R (x ∷ xs) = AllByRecursion (R x) xs × Pairwise R xs

-- a text fits exactly when every printed character lies inside the rectangle
abbrev pub FitsInside : Type 0
FitsInside = (height width : ℕ) (cs : List ℕ) → Decides (fits height width cs) (AllByRecursion (Inside height width) (flow_of width cs))

-- the characters are printed in reading order
abbrev pub ReadingOrder : Type 0
ReadingOrder = (width : ℕ) (cs : List ℕ) → Pairwise Before (flow_of width cs)

-- no two share a cell
abbrev pub OneToACell : Type 0
OneToACell = (width : ℕ) (cs : List ℕ) → Pairwise Apart (flow_of width cs)

-- they are the ink of the text in its order
abbrev pub InkInOrder : Type 0
InkInOrder = (width : ℕ) (cs : List ℕ) → map (λ g. g.character) (flow_of width cs) ≡ ink_of cs

-- Fields in their order, each over the earlier ones, and which of them counts at a cell.
use Rattle.std.specs.Prelude.{◌≡◌, ℕ, ◌+◌, ◌<◌, min, max, Bool, true, false, cond, not, ◌&&◌, List, [], ◌∷◌, map, length, Some, None, Decides, Option, ◌==◌, nat_lt, slice_index_or}
use Rattle.std.specs.List.{HoldsAt, list_all, slice_get}
use Rattle.field.specs.Areas.{Area, area_of, covers, lawful}
use Rattle.field.specs.Fields.{Field}
use Rattle.field.specs.declared.rectangle.Rectangle.{Rectangle}

-- whether two areas have a cell in common
abbrev pub meets : Area → Area → Bool
meets a b =
    nat_lt (max a.line b.line) (min (a.line + a.height) (b.line + b.height))
    && nat_lt (max a.column b.column) (min (a.column + a.width) (b.column + b.width))

-- a cell that both areas cover
pub record Shared (a b : Area) : Type 0 where
  pub line : ℕ
  pub column : ℕ
  pub first : covers a line column ≡ true
  pub second : covers b line column ≡ true

abbrev pub MeetWhereShared : Type 0
MeetWhereShared = (a b : Area) → Decides (meets a b) (Shared a b)

abbrev pub begins : Area → ℕ → ℕ → Bool
begins a l c = a.line == l && a.column == c

-- whether an area begins at a cell and covers it: one without cells covers none
abbrev pub begins_on : Area → ℕ → ℕ → Bool
begins_on a l c = begins a l c && covers a l c

-- the areas of rectangles are lawful
abbrev pub LawfulRectangles : Type 0
LawfulRectangles = (x : Rectangle) → lawful (area_of x) ≡ true

-- a lawful area covers the cell where it begins
abbrev pub LawfulCovers : Type 0
LawfulCovers = (a : Area) (l c : ℕ) → lawful a ≡ true → begins a l c ≡ true → covers a l c ≡ true

-- the area of the field with a number, from 0; one without cells where there is none
abbrev pub area_at : List Area → ℕ → Area
area_at xs k = slice_index_or xs k (record { line = 0; column = 0; height = 0; width = 0 })

-- field k begins at the cell, which it covers, and no later field covers any of its cells
pub record Counts (xs : List Area) (l c k : ℕ) : Type 0 where
  pub within : k < length xs
  pub there : begins (area_at xs k) l c ≡ true
  pub covering : covers (area_at xs k) l c ≡ true
  pub uncovered : (j : ℕ) → k < j → j < length xs → (m n : ℕ) → covers (area_at xs k) m n ≡ true → covers (area_at xs j) m n ≡ false

-- which field counts at a cell, or that none does
abbrev pub CountsAt : List Area → ℕ → ℕ → Option ℕ → Type 0
CountsAt xs l c (Some k) = Counts xs l c k
CountsAt xs l c None = (k : ℕ) → Counts xs l c k → ⊥

abbrev pub AtMostOne : Type 0
AtMostOne = (xs : List Area) (l c j k : ℕ) → Counts xs l c j → Counts xs l c k → j ≡ k

-- the last element of a list that begins at a cell and covers it, or that none does
abbrev pub LastOn : {X : Type 0} → (X → Area) → List X → ℕ → ℕ → Option ℕ → Type 0
LastOn place xs l c (Some k) =
    (k < length xs) × HoldsAt (λ x. begins_on (place x) l c ≡ true) xs k
    × ((j : ℕ) → k < j → j < length xs → HoldsAt (λ x. begins_on (place x) l c ≡ false) xs j)
LastOn place xs l c None = (j : ℕ) → j < length xs → HoldsAt (λ x. begins_on (place x) l c ≡ false) xs j

abbrev pub areas : List Field → List Area
areas xs = map (λ x. x.area) xs

-- whether an area meets none of a list
abbrev pub meets_none : Area → List Area → Bool
meets_none a bs = list_all (λ b. not (meets a b)) bs

-- the field that counts at a cell: it begins there, covers it and meets no later one
abbrev pub counting : ℕ → ℕ → List Field → Option Field
counting l c [] = None
counting l c (x ∷ xs) = cond (begins_on x.area l c && meets_none x.area (areas xs)) (Some x) (counting l c xs)

-- the field that begins at a cell and meets no later one, whether it covers the cell or not
abbrev pub counting_begun : ℕ → ℕ → List Field → Option Field
counting_begun l c [] = None
counting_begun l c (x ∷ xs) = cond (begins x.area l c && meets_none x.area (areas xs)) (Some x) (counting_begun l c xs)

-- of fields with lawful areas, both tell the same
abbrev pub LawfulCounting : Type 0
LawfulCounting = (xs : List Field) (l c : ℕ) → list_all (λ x. lawful x.area) xs ≡ true → counting l c xs ≡ counting_begun l c xs

-- the field with a number, if there is a number
abbrev pub numbered : List Field → Option ℕ → Option Field
numbered xs None = None
numbered xs (Some k) = slice_get xs k

-- in every list of fields with these areas, the field with the number told counts
abbrev pub CountsIn : List Area → ℕ → ℕ → Option ℕ → Type 0
CountsIn ys l c r = (xs : List Field) → ys ≡ areas xs → counting l c xs ≡ numbered xs r

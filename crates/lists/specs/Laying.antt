-- A list with another laid over it.
use Rattle.std.specs.Prelude.{ℕ, ◌+◌, ◌-◌, List, ◌++◌, length, take, drop}

-- `was` with an item laid over it from a place on
abbrev pub laid : {X : Type 0} → List X → ℕ → List X → List X
laid was place item = take place was ++ (item ++ drop (place + length item) was)

-- the same, with only as much of the item as there is room for
abbrev pub overlaid : {X : Type 0} → List X → ℕ → List X → List X
overlaid was place item = laid was place (take (length was - place) item)

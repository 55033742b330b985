-- Parts of a list, by place and length.
use Rattle.std.specs.Prelude.{ℕ, ◌+◌, List, ◌++◌, take, drop}
use Rattle.std.specs.List.{splice, remove_range}

-- so many entries from a place on, by their count: by their end, as in `slice_range`, laws would have differences
abbrev pub part : {X : Type 0} → ℕ → ℕ → List X → List X
part place count xs = take count (drop place xs)

-- the list with others in their stead
abbrev pub spliced : {X : Type 0} → ℕ → ℕ → List X → List X → List X
spliced place count others xs = splice xs place (place + count) others

-- the list without them
abbrev pub without : {X : Type 0} → ℕ → ℕ → List X → List X
without place count xs = remove_range xs place (place + count)

-- the list with them behind the others
abbrev pub moved : {X : Type 0} → ℕ → ℕ → List X → List X
moved place count xs = without place count xs ++ part place count xs

-- the same of the one entry at a number from 0
abbrev pub removed : {X : Type 0} → ℕ → List X → List X
removed n xs = without n 1 xs

abbrev pub raised : {X : Type 0} → ℕ → List X → List X
raised n xs = moved n 1 xs

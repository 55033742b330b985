-- Pieces laid end to end.
use Rattle.std.specs.Prelude.{◌≡◌, ℕ, ◌<◌, List, [], length, take, sum_by, slice_index_or, Result, Ok}
use Rattle.std.specs.List.{flat_map}
use Rattle.sequence.specs.declared.error.SequenceError.{SequenceError}

abbrev pub joined : {X : Type 0} → List (List X) → List X
joined ps = flat_map (λ p. p) ps

-- where the piece at a number from 0 begins: behind those before it
abbrev pub place_of : {X : Type 0} → ℕ → List (List X) → ℕ
place_of n ps = sum_by length (take n ps)

abbrev pub piece_at : {X : Type 0} → ℕ → List (List X) → List X
piece_at n ps = slice_index_or ps n []

-- the entries are pieces laid end to end, and the one at n is these
pub record Lies {X : Type 0} (ps : List (List X)) (n : ℕ) (entries : List X) (place count : ℕ) : Type 0 where
  pub there : n < length ps
  pub whole : joined ps ≡ entries
  pub begins : place ≡ place_of n ps
  pub long : count ≡ length (piece_at n ps)

-- whatever pieces the entries were, a call on the one at n is obeyed, and they are these pieces now
abbrev pub PiecesBecome : {X : Type 0} → List X → ℕ → ℕ → Result (Unit {0}) SequenceError → List X
    → (List (List X) → ℕ → List (List X)) → Type 0
PiecesBecome {X} before place count told after change =
    (ps : List (List X)) (n : ℕ) → Lies ps n before place count → (told ≡ Ok tt) × (after ≡ joined (change ps n))

-- some entries, so many of them
abbrev pub Room : {X : Type 0} → ℕ → (List X → Type 0) → Type 0
Room {X} count P = (room : List X) × (length room ≡ count) × P room

-- Laying the bytes of a part over a buffer: what is told, and what the buffer then holds.
use Rattle.std.specs.Prelude.{ℕ, ◌+◌, List, [], ◌∷◌, length, Ok, Err, Result, nat_le}
use Rattle.refusal.specs.Chain.{then, demand}
use Rattle.refusal.specs.declared.causes.SheetCause.{SheetCause}
use Rattle.refusal.specs.declared.causes.SheetCause.TheVariants.{BufferTooShort}
use Rattle.refusal.specs.declared.faults.SheetFault.{SheetFault}
use Rattle.refusal.specs.declared.faults.SheetFault.TheVariants.{Own}
use Rattle.record.specs.Start.{in_record}
use Rattle.lists.specs.Laying.{laid}

-- four digits write the number
abbrev pub counted : SheetCause → ℕ → Result (Unit {0}) SheetFault
counted cause n = demand (nat_le n 9999) (Own cause (in_record 0 0))

-- so many bytes from a place on lie within the buffer
abbrev pub within : List ℕ → ℕ → ℕ → Result (Unit {0}) SheetFault
within buffer place size = demand (nat_le (place + size) (length buffer)) (Own BufferTooShort (in_record 0 0))

-- their number, where they do
abbrev pub told : List ℕ → ℕ → ℕ → Result ℕ SheetFault
told buffer place size = then (within buffer place size) (λ _. Ok size)

-- the buffer with the bytes laid over it; where that is refused, as it was
abbrev pub after : Result ℕ SheetFault → List ℕ → ℕ → List ℕ → List ℕ
after (Ok size) was place bytes = laid was place bytes
after (Err fault) was place bytes = was

-- items laid one behind another from a place on
abbrev pub laid_in_turn : List ℕ → ℕ → List (List ℕ) → List ℕ
laid_in_turn was place [] = was
laid_in_turn was place (item ∷ items) = laid_in_turn (laid was place item) (place + length item) items

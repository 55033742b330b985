-- What the calls on a list answer.
use Rattle.std.specs.Prelude.{ℕ, ◌+◌, ◌-◌, List, length, Option, Some, None, Result, Ok, Err, if◌then◌else◌, nat_le}
use Rattle.sequence.specs.Parts.{part}
use Rattle.sequence.specs.declared.error.SequenceError.{SequenceError}
use Rattle.sequence.specs.declared.error.SequenceError.TheVariants.{OutOfRange, Full}

-- a call on so many entries from a place on, where so many are held
abbrev pub range_answer : ℕ → ℕ → ℕ → Result (Unit {0}) SequenceError
range_answer place count len = if nat_le (place + count) len then Ok tt else Err OutOfRange

-- a call that needs so many places in all
abbrev pub room_answer : ℕ → ℕ → Result (Unit {0}) SequenceError
room_answer needed room = if nat_le needed room then Ok tt else Err Full

-- a call that puts so many in the place of a range: the range is looked at first, then the room
abbrev pub resize_answer : ℕ → ℕ → ℕ → ℕ → ℕ → Result (Unit {0}) SequenceError
resize_answer place old new len room =
    if nat_le (place + old) len then room_answer (len - old + new) room else Err OutOfRange

-- a view of so many entries from a place on
abbrev pub view_answer : {X : Type 0} → ℕ → ℕ → List X → Option (List X)
view_answer place count xs = if nat_le (place + count) (length xs) then Some (part place count xs) else None

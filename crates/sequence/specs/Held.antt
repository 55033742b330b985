-- What is held of the memory lent.
use Rattle.std.specs.Prelude.{ℕ, List, length, take}
use Rattle.sequence.specs.declared.list.Sequence.{Sequence}

-- the entries, first to last
abbrev pub held : {T : Type 0} → Sequence T → List T
held s = take s.len s.items.now

-- how many there may be
abbrev pub room_for : {T : Type 0} → Sequence T → ℕ
room_for s = length s.items.now

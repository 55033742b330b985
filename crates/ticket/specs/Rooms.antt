-- The room that a reader has.
use Rattle.std.specs.Prelude.{min}
use Rattle.ticket.specs.declared.room.Room.{Room}

-- never more than 200 fields, 7,000 bytes of text, 8 carried records and 4,000 bytes of their bodies
abbrev pub room_of : Room → Room
room_of r = record { fields = min r.fields 200; texts = min r.texts 7000; carried = min r.carried 8; bodies = min r.bodies 4000 }

abbrev pub largest : Room
largest = record { fields = 200; texts = 7000; carried = 8; bodies = 4000 }

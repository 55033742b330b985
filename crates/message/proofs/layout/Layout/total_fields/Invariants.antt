use Rattle.std.proofs.Common.{◌≡◌, ◌-◌, ◌≤◌}
use Rattle.message.proofs.layout.Layout.total_fields.Given as goal
use Rattle.message.specs.Items.{seen}
use Rattle.message.specs.Totals.{behind}
use Rattle.ticket.specs.Reading.{fields_at}

-- the fields that are left, behind those read, come to what all of them come to
abbrev pub invariant-loop : goal.invariant-loop
invariant-loop g l =
    (seen (behind l.start.place (l.room - l.start.room)) (fields_at (g.C.ReadingCode.spells l.code) l.self.message.now l.self.end l.start.room (l.count - l.counter) l.start.number l.start.place)
    ≡ seen (behind 73 0) (fields_at (g.C.ReadingCode.spells l.code) l.self.message.now l.self.end l.room l.count 0 73))
    × ((l.start.number ≡ l.counter) × (l.start.room ≤ l.room))

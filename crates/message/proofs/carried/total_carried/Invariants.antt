use Rattle.std.proofs.Common.{◌≡◌, ◌+◌, ◌-◌, ◌≤◌}
use Rattle.message.proofs.carried.total_carried.Given as goal
use Rattle.message.specs.Items.{seen}
use Rattle.message.specs.Totals.{total}
use Rattle.ticket.specs.Reading.{carried_from}

-- the records that are left, behind those counted, come to what all of them come to
abbrev pub invariant-loop-records : goal.invariant-loop-records
invariant-loop-records l =
    (seen (total l.records (l.room - l.start.room)) (carried_from l.message l.start.room (l.most - l.records) l.start.number l.start.place) ≡ seen (total 0 0) (carried_from l.message l.room l.most 2 l.place))
    × ((l.start.number ≡ 2 + l.records) × (l.start.room ≤ l.room))

-- What a reader tells of a whole message.
use Rattle.std.specs.Prelude.{ℕ, ◌+◌, List, length, Ok, Option, Result, nat_le}
use Rattle.refusal.specs.Chain.{then, lift, demand}
use Rattle.refusal.specs.declared.causes.RecordCause.TheVariants.{WrongLength}
use Rattle.refusal.specs.declared.faults.RecordFault.TheVariants.{Own}
use Rattle.refusal.specs.declared.faults.SheetFault.{SheetFault}
use Rattle.refusal.specs.declared.faults.SheetFault.TheVariants.{Record}
use Rattle.head.specs.Reading.{head_at}
use Rattle.head.specs.declared.items.HeadItems.{HeadItems}
use Rattle.record.specs.Start.{in_record, body_length}
use Rattle.record.specs.declared.start.RecordKind.TheVariants.{Layout}
use Rattle.message.specs.Items.{seen}
use Rattle.message.specs.Totals.{behind, total}
use Rattle.message.specs.declared.contents.Contents.{Contents}
use Rattle.ticket.specs.Lawful.{needs}
use Rattle.ticket.specs.declared.room.Room.{Room}
use Rattle.ticket.specs.Reading.{count_at, fields_at, carried_from}
use Rattle.ticket.specs.Tickets.{Ticket, layout_body}

-- the head, the memory that is needed, and the place behind the layout
pub record Summary : Type 0 where
  pub head : HeadItems
  pub needs : Room
  pub end : ℕ

abbrev pub summary_of : Contents → Summary
summary_of x = record { head = x.head.items; needs = x.needs; end = x.layout_end }

-- the layout's body begins at place 65
abbrev pub ticket_summary : (ℕ → Option (List ℕ)) → Ticket → Summary
ticket_summary f t = record { head = t.head; needs = needs f t; end = 65 + length (layout_body f t.fields) }

-- what is counted while a message is read
abbrev pub summary_in : (ℕ → Option (List ℕ)) → Room → List ℕ → Result Summary SheetFault
summary_in f room m =
    then (lift Record (head_at m)) (λ head.
    then (lift Record (body_length Layout m 1 53)) (λ size.
    then (count_at m room (65 + size)) (λ count.
    then (seen (behind 73 0) (fields_at f m (65 + size) room.texts count 0 73)) (λ texts.
    then (lift Record (demand (nat_le (65 + size) texts.place) (Own WrongLength (in_record 1 texts.place)))) (λ _.
    then (seen (total 0 0) (carried_from m room.bodies room.carried 2 (65 + size))) (λ carried.
    Ok (record { head = head; needs = record { fields = count; texts = texts.bytes; carried = carried.records; bodies = carried.bytes }; end = 65 + size })))))))

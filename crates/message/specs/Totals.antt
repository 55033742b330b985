-- Counting what a message holds.
use Rattle.std.specs.Prelude.{ℕ, ◌+◌, ◌-◌, List, [], ◌∷◌, length, Option, Result}
use Rattle.refusal.specs.Chain.{then}
use Rattle.refusal.specs.declared.faults.SheetFault.{SheetFault}
use Rattle.message.specs.Items.{Shape, seen, shape_at}
use Rattle.message.specs.declared.items.CarriedTotal.{CarriedTotal}
use Rattle.message.specs.declared.items.FieldsTotal.{FieldsTotal}
use Rattle.ticket.specs.Lawful.{body_total}
use Rattle.ticket.specs.Reading.{ReadField, size_all, field_at, fields_at}
use Rattle.ticket.specs.Tickets.{CarriedRecord}

abbrev pub text_sizes : List ReadField → ℕ
text_sizes [] = 0
text_sizes (x ∷ xs) = x.size + text_sizes xs

-- fields that begin at a place, behind others whose texts have so many bytes
abbrev pub behind : ℕ → ℕ → List ReadField → FieldsTotal
behind place bytes xs = record { place = place + size_all xs; bytes = bytes + text_sizes xs }

-- field n of a layout whose body ends at a place, behind the fields before it
abbrev pub numbered_at : (ℕ → Option (List ℕ)) → List ℕ → ℕ → ℕ → ℕ → Result Shape SheetFault
numbered_at f m end room n =
    then (seen (behind 73 0) (fields_at f m end room n 0 73)) (λ before.
    seen (shape_at before.place) (field_at f m end (room - before.bytes) n before.place))

-- carried records behind others
abbrev pub total : ℕ → ℕ → List CarriedRecord → CarriedTotal
total records bytes rs = record { records = records + length rs; bytes = bytes + body_total rs }

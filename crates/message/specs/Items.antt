-- The items of a field and of a carried record, as a reader tells them.
use Rattle.std.specs.Prelude.{ℕ, ◌+◌, length, Ok, Err, Result}
use Rattle.field.specs.Areas.{Area, area_of}
use Rattle.field.specs.declared.formatting.Formatting.{Formatting}
use Rattle.message.specs.declared.items.FieldItems.{FieldItems}
use Rattle.message.specs.declared.items.CarriedItems.{CarriedItems}
use Rattle.ticket.specs.Tickets.{CarriedRecord}
use Rattle.ticket.specs.Reading.{ReadField}

-- what is told, seen through a function
abbrev pub seen : {X Y F : Type 0} → (X → Y) → Result X F → Result Y F
seen g (Ok x) = Ok (g x)
seen g (Err f) = Err f

-- a field's rectangle and formatting, and where its text stands in the message
pub record Shape : Type 0 where
  pub area : Area
  pub formatting : ℕ
  pub place : ℕ
  pub size : ℕ

abbrev pub shape_of : FieldItems → Shape
shape_of x = record { area = area_of x.rectangle; formatting = x.formatting.value; place = x.text.place; size = length x.text.bytes.now }

-- a field that begins at a place: its text stands behind its other items' 13 bytes
abbrev pub shape_at : ℕ → ReadField → Shape
shape_at place x = record { area = x.field.area; formatting = x.field.formatting; place = place + 13; size = x.size }

abbrev pub formatting_value : Formatting → ℕ
formatting_value x = x.value

abbrev pub carried_of : CarriedItems → CarriedRecord
carried_of x = record { id = x.id; version = x.version; body = x.body.bytes.now }

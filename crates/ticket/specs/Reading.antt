-- Reading a message from left to right, and the first fault. A place is the index of a byte in the message.
use Rattle.std.specs.Prelude.{ℕ, zero, suc, ◌+◌, ◌-◌, Bool, cond, ◌&&◌, List, [], ◌∷◌, length, Ok, codes, Option, Result, nat_le}
use Rattle.std.specs.Str.{bytes_eq}
use Rattle.refusal.specs.Chain.{then, lift, demand}
use Rattle.refusal.specs.declared.causes.ItemCause.{ItemCause}
use Rattle.refusal.specs.declared.causes.ItemCause.TheVariants.{NoDigit, Rectangle, Character as CharacterCause}
use Rattle.refusal.specs.declared.causes.RecordCause.TheVariants.{WrongLength, WrongStandard, TextTooLarge}
use Rattle.refusal.specs.declared.causes.SheetCause.TheVariants.{TooManyEntries, MemoryExceeded}
use Rattle.refusal.specs.declared.faults.Site.{Site}
use Rattle.refusal.specs.declared.faults.RecordFault.{RecordFault}
use Rattle.refusal.specs.declared.faults.RecordFault.TheVariants.{Item, Own}
use Rattle.refusal.specs.declared.faults.SheetFault.{SheetFault}
use Rattle.refusal.specs.declared.faults.SheetFault.TheVariants.{Record, Own as SheetOwn}
use Rattle.octets.specs.Bytes.{part}
use Rattle.octets.specs.Digits.{numeral}
use Rattle.field.specs.Areas.{Area}
use Rattle.field.specs.Fields.{Field}
use Rattle.field.specs.Formattings.{lawful_formatting}
use Rattle.head.specs.Reading.{head_at}
use Rattle.record.specs.Start.{in_record, body_length}
use Rattle.record.specs.declared.start.RecordKind.TheVariants.{Layout, Carried}
use Rattle.wrap.specs.declared.checks.TextFault.{TextFault}
use Rattle.wrap.specs.declared.checks.TextFault.TheVariants.{Character, TooLarge}
use Rattle.ticket.specs.Decoding.{text_in}
use Rattle.ticket.specs.declared.room.Room.{Room}
use Rattle.ticket.specs.Tickets.{CarriedRecord, Ticket}

-- a place in field k of the layout
abbrev pub in_field : ℕ → ℕ → Site
in_field k place = record { «record» = 1; field = k; place = place }

abbrev pub item_fault : ItemCause → Site → RecordFault
item_fault cause s = Item (record { cause = cause; site = s })

-- the width bytes at a site stand in the layout's body, which ends at a place
abbrev pub in_body : ℕ → Site → ℕ → Result (Unit {0}) RecordFault
in_body end s width = demand (nat_le (s.place + width) end) (Own WrongLength s)

abbrev pub number_at : List ℕ → ℕ → Site → ℕ → Result ℕ RecordFault
number_at m end s width =
    then (in_body end s width) (λ _. lift Item (numeral (record { cause = NoDigit; site = s }) (part m s.place width)))

-- a number that passes a test of rectangles or formattings
abbrev pub tested_at : List ℕ → ℕ → Site → ℕ → (ℕ → Bool) → Result ℕ RecordFault
tested_at m end s width test =
    then (number_at m end s width) (λ n. then (demand (test n) (item_fault Rectangle s)) (λ _. Ok n))

-- the rectangle of field k, which begins at a place: a line too large is told at the height, a column at the width
abbrev pub area_at : List ℕ → ℕ → ℕ → ℕ → Result Area RecordFault
area_at m end k place =
    then (number_at m end (in_field k place) 2) (λ line.
    then (number_at m end (in_field k (place + 2)) 2) (λ column.
    then (tested_at m end (in_field k (place + 4)) 2 (λ height. nat_le 1 height && nat_le (line + height) 15)) (λ height.
    then (tested_at m end (in_field k (place + 6)) 2 (λ width. nat_le 1 width && nat_le (column + width) 72)) (λ width.
    Ok (record { line = line; column = column; height = height; width = width })))))

abbrev pub text_fault : Site → TextFault → RecordFault
text_fault s (Character index) = item_fault CharacterCause (record { «record» = s.«record»; field = s.field; place = s.place + index })
text_fault s TooLarge = Own TextTooLarge s

abbrev pub text_at : (ℕ → Option (List ℕ)) → Area → List ℕ → Site → ℕ → Result (List ℕ) RecordFault
text_at f area m s n = lift (text_fault s) (text_in f area (part m s.place n))

-- a field with the number of its text's bytes
pub record ReadField : Type 0 where
  pub field : Field
  pub size : ℕ

-- field k, which begins at a place of a body that ends at another, where there is room for so many bytes of its text
abbrev pub field_at : (ℕ → Option (List ℕ)) → List ℕ → ℕ → ℕ → ℕ → ℕ → Result ReadField SheetFault
field_at f m end room k place =
    then (lift Record (area_at m end k place)) (λ area.
    then (lift Record (tested_at m end (in_field k (place + 8)) 1 lawful_formatting)) (λ formatting.
    then (lift Record (number_at m end (in_field k (place + 9)) 4)) (λ size.
    then (demand (nat_le size room) (SheetOwn MemoryExceeded (in_field k (place + 9)))) (λ _.
    then (lift Record (in_body end (in_field k (place + 13)) size)) (λ _.
    then (lift Record (text_at f area m (in_field k (place + 13)) size)) (λ characters.
    Ok (record { field = record { area = area; formatting = formatting; characters = characters }; size = size })))))))

-- n fields from field k on
unfoldable pub fields_at : (ℕ → Option (List ℕ)) → List ℕ → ℕ → ℕ → ℕ → ℕ → ℕ → Result (List ReadField) SheetFault
fields_at f m end room zero k place = Ok []
fields_at f m end room (suc n) k place =
    then (field_at f m end room k place) (λ x.
    then (fields_at f m end (room - x.size) n (k + 1) (place + 13 + x.size)) (λ xs. Ok (x ∷ xs)))

-- the bytes of fields that were read
abbrev pub size_all : List ReadField → ℕ
size_all [] = 0
size_all (x ∷ xs) = 13 + x.size + size_all xs

abbrev pub fields_of : List ReadField → List Field
fields_of [] = []
fields_of (x ∷ xs) = x.field ∷ fields_of xs

-- the standard of a layout whose body begins at place 65
abbrev pub standard_at : List ℕ → ℕ → Result (Unit {0}) RecordFault
standard_at m end =
    then (in_body end (in_record 1 65) 4) (λ _. demand (bytes_eq (part m 65 4) (codes "RCT2")) (Own WrongStandard (in_record 1 65)))

-- a number of entries for which there is room
abbrev pub bounded_at : List ℕ → ℕ → Site → ℕ → Result ℕ SheetFault
bounded_at m end s most =
    then (lift Record (number_at m end s 4)) (λ count. then (demand (nat_le count most) (SheetOwn TooManyEntries s)) (λ _. Ok count))

-- the number of its fields
abbrev pub count_at : List ℕ → Room → ℕ → Result ℕ SheetFault
count_at m room end = then (lift Record (standard_at m end)) (λ _. bounded_at m end (in_record 1 69) room.fields)

-- the fields of the layout, which begins behind the head, and nothing behind them in its body, which ends at a place
abbrev pub layout_to : (ℕ → Option (List ℕ)) → List ℕ → Room → ℕ → Result (List ReadField) SheetFault
layout_to f m room end =
    then (count_at m room end) (λ count.
    then (fields_at f m end room.texts count 0 73) (λ xs.
    then (lift Record (demand (nat_le end (73 + size_all xs)) (Own WrongLength (in_record 1 (73 + size_all xs))))) (λ _. Ok xs)))

-- the carried record that is record k of the message and begins at a place, where there is room for so many bytes of its body
abbrev pub carried_at : List ℕ → ℕ → ℕ → ℕ → Result CarriedRecord SheetFault
carried_at m room k place =
    then (lift Record (body_length Carried m k place)) (λ size.
    then (demand (nat_le size room) (SheetOwn MemoryExceeded (in_record k (place + 12)))) (λ _.
    Ok (record { id = part m place 6; version = part m (place + 6) 2; body = part m (place + 12) size })))

-- the carried records from record k, which begins at a place, to the end of the message, where there is room for n of them
unfoldable pub carried_from : List ℕ → ℕ → ℕ → ℕ → ℕ → Result (List CarriedRecord) SheetFault
carried_from m room zero k place =
    then (demand (nat_le (length m) place) (SheetOwn TooManyEntries (in_record k place))) (λ _. Ok [])
carried_from m room (suc n) k place =
    cond (nat_le (length m) place) (Ok [])
    (then (carried_at m room k place) (λ r.
    then (carried_from m (room - length r.body) n (k + 1) (place + 12 + length r.body)) (λ rs. Ok (r ∷ rs))))

-- the ticket of a message, where there is so much room, or the first fault
unfoldable pub ticket_in : (ℕ → Option (List ℕ)) → Room → List ℕ → Result Ticket SheetFault
ticket_in f room m =
    then (lift Record (head_at m)) (λ head.
    then (lift Record (body_length Layout m 1 53)) (λ size.
    then (layout_to f m room (65 + size)) (λ xs.
    then (carried_from m room.bodies room.carried 2 (65 + size)) (λ rs.
    Ok (record { head = head; fields = fields_of xs; carried = rs })))))

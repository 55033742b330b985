-- When a ticket is lawful in a text code, and the memory that it needs.
use Rattle.std.specs.Prelude.{◌≡◌, ℕ, ◌+◌, ◌≤◌, true, List, [], ◌∷◌, length, Option}
use Rattle.std.specs.List.{AllByRecursion}
use Rattle.field.specs.Areas.{lawful as lawful_area}
use Rattle.field.specs.Fields.{Field}
use Rattle.field.specs.Formattings.{lawful_formatting}
use Rattle.head.specs.Heads.{lawful as lawful_head}
use Rattle.record.specs.Start.{lawful_id, lawful_version}
use Rattle.record.specs.declared.start.RecordKind.TheVariants.{Carried}
use Rattle.text_code.specs.Reading.{Text}
use Rattle.text_code.specs.declared.characters.Permitted.TheVariants.{TicketText}
use Rattle.wrap.specs.Flow.{fits}
use Rattle.ticket.specs.declared.room.Room.{Room}
use Rattle.ticket.specs.Tickets.{CarriedRecord, Ticket, text_bytes, layout_body}

-- the text has only allowed characters, each with a spelling, and fits its rectangle
pub record LawfulField (f : ℕ → Option (List ℕ)) (x : Field) : Type 0 where
  pub area : lawful_area x.area ≡ true
  pub formatting : lawful_formatting x.formatting ≡ true
  pub text : Text f TicketText x.characters (text_bytes f x.characters)
  pub fit : fits x.area.height x.area.width x.characters ≡ true

-- four digits count the body
pub record LawfulCarried (r : CarriedRecord) : Type 0 where
  pub six : length r.id ≡ 6
  pub id : lawful_id Carried r.id ≡ true
  pub two : length r.version ≡ 2
  pub version : lawful_version Carried r.version ≡ true
  pub short : length r.body ≤ 9999

-- four digits count the layout's body
pub record Lawful (f : ℕ → Option (List ℕ)) (t : Ticket) : Type 0 where
  pub head : lawful_head t.head ≡ true
  pub fields : AllByRecursion (LawfulField f) t.fields
  pub layout : length (layout_body f t.fields) ≤ 9999
  pub carried : AllByRecursion LawfulCarried t.carried
  pub few : length t.carried ≤ 8

abbrev pub text_total : (ℕ → Option (List ℕ)) → List Field → ℕ
text_total f [] = 0
text_total f (x ∷ xs) = length (text_bytes f x.characters) + text_total f xs

abbrev pub body_total : List CarriedRecord → ℕ
body_total [] = 0
body_total (r ∷ rs) = length r.body + body_total rs

-- the memory that a ticket needs
abbrev pub needs : (ℕ → Option (List ℕ)) → Ticket → Room
needs f t = record { fields = length t.fields; texts = text_total f t.fields; carried = length t.carried; bodies = body_total t.carried }

pub record Fits (need room : Room) : Type 0 where
  pub fields : need.fields ≤ room.fields
  pub texts : need.texts ≤ room.texts
  pub carried : need.carried ≤ room.carried
  pub bodies : need.bodies ≤ room.bodies

-- The length of a whole message, and that it is laid by its parts.
use Rattle.std.specs.Prelude.{◌≡◌, ℕ, ◌+◌, ◌*◌, ◌≤◌, List, [], ◌∷◌, ◌++◌, length, drop, Option}
use Rattle.std.specs.List.{AllByRecursion}
use Rattle.field.specs.Fields.{Field}
use Rattle.head.specs.Writing.{over}
use Rattle.ticket.specs.Lawful.{Lawful, needs}
use Rattle.ticket.specs.declared.room.Room.{Room}
use Rattle.ticket.specs.Tickets.{CarriedRecord, Ticket, encode, field_bytes, layout_body, record_bytes, text_bytes}
use Rattle.message_writer.specs.Parts.{joined, layout_start}
use Rattle.message_writer.specs.Layings.{laid_in_turn}

-- the head; the layout's start and its fields, 13 bytes and a text each; the carried records, 12 bytes and a body each
abbrev pub message_length : Room → ℕ
message_length n = 53 + (20 + 13 * n.fields + n.texts) + (12 * n.carried + n.bodies)

-- it is the length of every lawful ticket's message for which these numbers are counted
abbrev pub LengthOfMessage : Room → ℕ → Type 0
LengthOfMessage n size = (f : ℕ → Option (List ℕ)) (t : Ticket) → Lawful f t → needs f t ≡ n → length (encode f t) ≡ size

abbrev pub carried_parts : List CarriedRecord → List (List ℕ)
carried_parts [] = []
carried_parts (r ∷ rs) = record_bytes r.id r.version r.body ∷ carried_parts rs

-- fields, and carried records behind them
abbrev pub entry_parts : (ℕ → Option (List ℕ)) → List Field → List CarriedRecord → List (List ℕ)
entry_parts f [] rs = carried_parts rs
entry_parts f (x ∷ xs) rs = field_bytes f x ∷ entry_parts f xs rs

-- what is laid behind the head: the layout's start, the fields and the carried records, in this order
abbrev pub parts_of : (ℕ → Option (List ℕ)) → Ticket → List (List ℕ)
parts_of f t = layout_start (length t.fields) (length (layout_body f t.fields)) ∷ entry_parts f t.fields t.carried

-- four digits write each number that is laid
pub record Countable (f : ℕ → Option (List ℕ)) (t : Ticket) : Type 0 where
  pub fields : length t.fields ≤ 9999
  pub layout : length (layout_body f t.fields) ≤ 9999
  pub texts : AllByRecursion (λ x. length (text_bytes f x.characters) ≤ 9999) t.fields
  pub bodies : AllByRecursion (λ r. length r.body ≤ 9999) t.carried

-- the parts end where the message ends; laid behind the head, which is written to the front, they are the message, with what stood behind it
pub record LaidByParts (f : ℕ → Option (List ℕ)) (t : Ticket) (size : ℕ) (buffer : List ℕ) : Type 0 where
  pub countable : Countable f t
  pub ends : 53 + length (joined (parts_of f t)) ≡ size
  pub message : laid_in_turn (over t.head buffer) 53 (parts_of f t) ≡ encode f t ++ drop size buffer

-- so it is for every lawful ticket for which these numbers are counted, in every buffer that is long enough
abbrev pub PartsAreMessage : Room → ℕ → Type 0
PartsAreMessage n size =
    (f : ℕ → Option (List ℕ)) (t : Ticket) → Lawful f t → needs f t ≡ n → (buffer : List ℕ) → size ≤ length buffer → LaidByParts f t size buffer

-- The text of a field, handed out as a part of the caller's message.
use Rattle.std.specs.Prelude.{◌≡◌, ℕ, ◌+◌, ◌-◌, ◌≤◌, List, ◌∷◌, length, take, drop, Ok, Err, Option, Result, nat_lt}
use Rattle.std.specs.Borrow.{Bor}
use Rattle.refusal.specs.Chain.{then, demand}
use Rattle.refusal.specs.declared.causes.SheetCause.TheVariants.{NoSuchEntry}
use Rattle.refusal.specs.declared.faults.SheetFault.{SheetFault}
use Rattle.refusal.specs.declared.faults.SheetFault.TheVariants.{Own}
use Rattle.octets.specs.Bytes.{part}
use Rattle.field.specs.Fields.{Field}
use Rattle.message.specs.Items.{Shape, seen}
use Rattle.message.specs.Summaries.{ticket_summary}
use Rattle.message.specs.Totals.{numbered_at}
use Rattle.message.specs.declared.part.Part.{Part}
use Rattle.ticket.specs.Reading.{ticket_in}
use Rattle.ticket.specs.Rooms.{largest, room_of}
use Rattle.ticket.specs.Tickets.{Ticket, text_bytes, fields_bytes}

-- x is the bytes of m from place a to place b, in the same memory
pub record PartAt (m : Bor (List ℕ)) (a b : ℕ) (x : Bor (List ℕ)) : Type 0 where
  pub within : b ≤ length m.now
  pub holds : x.now ≡ part m.now a (b - a)
  pub block : x.ref_ptr.0 ≡ m.ref_ptr.0
  pub place : x.ref_ptr.1 ≡ m.ref_ptr.1 + a

-- the bytes of a part stand in the message at its place
abbrev pub StandsIn : Bor (List ℕ) → Part → Type 0
StandsIn m x = PartAt m x.place (x.place + length x.bytes.now) x.bytes

-- they are n bytes from place a on
pub record StandsAt (m : Bor (List ℕ)) (a n : ℕ) (x : Part) : Type 0 where
  pub place : x.place ≡ a
  pub size : length x.bytes.now ≡ n
  pub holds : x.bytes.now ≡ part m.now a n
  pub taken : StandsIn m x

-- the text of field n of the ticket: its bytes, at their place, as a part of the caller's message
pub record HandedOut (f : ℕ → Option (List ℕ)) (m : Bor (List ℕ)) (n : ℕ) (t : Ticket) (x : Part) : Type 0 where
  pub field : Field
  pub later : List Field
  pub which : drop n t.fields ≡ field ∷ later
  pub bytes : x.bytes.now ≡ text_bytes f field.characters
  pub at : x.place ≡ 73 + length (fields_bytes f (take n t.fields)) + 13
  pub taken : StandsIn m x

abbrev pub no_field : ℕ → SheetFault
no_field n = Own NoSuchEntry (record { «record» = 0; field = n; place = 0 })

-- what is answered for field n of the ticket
abbrev pub Handed : (ℕ → Option (List ℕ)) → Bor (List ℕ) → ℕ → Ticket → Result Part SheetFault → Type 0
Handed f m n t (Ok x) = HandedOut f m n t x
Handed f m n t (Err e) = (length t.fields ≤ n) × (e ≡ no_field n)

-- what is answered where reading tells this
abbrev pub TextAnswer : (ℕ → Option (List ℕ)) → Bor (List ℕ) → ℕ → Result Ticket SheetFault → Result Part SheetFault → Type 0
TextAnswer f m n (Ok t) r = Handed f m n t r
TextAnswer f m n (Err e) r = r ≡ Err e

-- the shape of field n where the ticket has one, as it is found
abbrev pub shape_in : (ℕ → Option (List ℕ)) → List ℕ → ℕ → Result Shape SheetFault
shape_in f m n =
    then (seen (ticket_summary f) (ticket_in f (room_of largest) m)) (λ s.
    then (demand (nat_lt n s.needs.fields) (no_field n)) (λ _. numbered_at f m s.end 7000 n))

-- What is promised of reading and of the bytes of tickets, in every text code.
use Rattle.std.specs.Prelude.{◌≡◌, ℕ, List, Ok, Option}
use Rattle.ticket.specs.Lawful.{Lawful, Fits, needs}
use Rattle.ticket.specs.declared.room.Room.{Room}
use Rattle.ticket.specs.Reading.{ticket_in}
use Rattle.ticket.specs.Tickets.{Ticket, encode}

-- the bytes are those of the ticket, which is lawful and fits the room
pub record TicketOf (f : ℕ → Option (List ℕ)) (room : Room) (m : List ℕ) (t : Ticket) : Type 0 where
  pub lawful : Lawful f t
  pub fits : Fits (needs f t) room
  pub bytes : encode f t ≡ m

-- a message is accepted exactly when it is the bytes of a lawful ticket that fits, and that ticket is told
pub record AcceptsExactly (f : ℕ → Option (List ℕ)) (room : Room) (m : List ℕ) : Type 0 where
  pub told : (t : Ticket) → ticket_in f room m ≡ Ok t → TicketOf f room m t
  pub accepted : (t : Ticket) → TicketOf f room m t → ticket_in f room m ≡ Ok t

-- two lawful tickets have the same bytes exactly when they are equal
abbrev pub BytesDetermine : (ℕ → Option (List ℕ)) → Type 0
BytesDetermine f = (t u : Ticket) → Lawful f t → Lawful f u → ((encode f t ≡ encode f u → t ≡ u) × (t ≡ u → encode f t ≡ encode f u))

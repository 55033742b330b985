-- Fields of a ticket.
use Rattle.std.specs.Prelude.{ℕ, List}
use Rattle.field.specs.Areas.{Area}

-- a text in a formatting and a rectangle
pub record Field : Type 0 where
  pub area : Area
  pub formatting : ℕ
  pub characters : List ℕ

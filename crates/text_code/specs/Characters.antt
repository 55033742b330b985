-- Which characters a text may hold.
use Rattle.std.specs.Prelude.{ℕ, Bool, true, not, ◌&&◌, ◌||◌, nat_le}
use Rattle.text_code.specs.declared.characters.Permitted.{Permitted}
use Rattle.text_code.specs.declared.characters.Permitted.TheVariants.{Any, TicketText}

-- all but 0 to 9, 11 to 31 and 127 to 159
abbrev pub is_allowed : ℕ → Bool
is_allowed c = not (nat_le c 9 || (nat_le 11 c && nat_le c 31) || (nat_le 127 c && nat_le c 159))

abbrev pub permits : Permitted → ℕ → Bool
permits Any c = true
permits TicketText c = is_allowed c

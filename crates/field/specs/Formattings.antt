-- Formattings: bold 1, italic 2 and small 4, added.
use Rattle.std.specs.Prelude.{◌≡◌, ℕ, Bool, true, false, Some, None, Option, nat_le}
use Rattle.field.specs.declared.formatting.Formatting.{Formatting}

abbrev pub lawful_formatting : ℕ → Bool
lawful_formatting n = nat_le n 7

-- the formatting of a number that is lawful, else nothing
abbrev pub FormattingOf : ℕ → Option Formatting → Type 0
FormattingOf n (Some x) = (x.value ≡ n) × (lawful_formatting n ≡ true)
FormattingOf n None = lawful_formatting n ≡ false

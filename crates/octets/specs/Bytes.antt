-- Bytes, and parts of a message.
use Rattle.std.specs.Prelude.{ℕ, Bool, ◌&&◌, List, take, drop, nat_le}

-- the n bytes of m from a place on
abbrev pub part : List ℕ → ℕ → ℕ → List ℕ
part m place n = take n (drop place m)

abbrev pub within : ℕ → ℕ → ℕ → Bool
within low high b = nat_le low b && nat_le b high

abbrev pub is_digit : ℕ → Bool
is_digit b = within 48 57 b

abbrev pub is_printable : ℕ → Bool
is_printable b = within 32 126 b

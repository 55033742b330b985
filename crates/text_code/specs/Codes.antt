-- The spellings of ISO 8859-1 and of UTF-8.
use Rattle.std.specs.Prelude.{ℕ, ◌+◌, ◌/◌, ◌%◌, cond, ◌&&◌, List, [], ◌∷◌, Some, None, Option, nat_le}

-- characters 0 to 255 by the one byte of their number
abbrev pub latin1 : ℕ → Option (List ℕ)
latin1 n = cond (nat_le n 255) (Some (n ∷ [])) None

-- 10xxxxxx, with the last six bits of n
abbrev pub continuation : ℕ → ℕ
continuation n = 128 + n % 64

-- 0xxxxxxx
abbrev pub one_byte : ℕ → List ℕ
one_byte n = n ∷ []

-- 110xxxxx 10xxxxxx
abbrev pub two_bytes : ℕ → List ℕ
two_bytes n = (192 + n / 64) ∷ continuation n ∷ []

-- 1110xxxx 10xxxxxx 10xxxxxx
abbrev pub three_bytes : ℕ → List ℕ
three_bytes n = (224 + n / 4096) ∷ continuation (n / 64) ∷ continuation n ∷ []

-- 11110xxx 10xxxxxx 10xxxxxx 10xxxxxx
abbrev pub four_bytes : ℕ → List ℕ
four_bytes n = (240 + n / 262144) ∷ continuation (n / 4096) ∷ continuation (n / 64) ∷ continuation n ∷ []

-- the shortest form that holds the number; none for the surrogates D800 to DFFF, and none above 10FFFF
unfoldable pub utf8 : ℕ → Option (List ℕ)
utf8 n =
    cond (nat_le n 0x7F) (Some (one_byte n))
    (cond (nat_le n 0x7FF) (Some (two_bytes n))
    (cond (nat_le 0xD800 n && nat_le n 0xDFFF) None
    (cond (nat_le n 0xFFFF) (Some (three_bytes n))
    (cond (nat_le n 0x10FFFF) (Some (four_bytes n)) None))))

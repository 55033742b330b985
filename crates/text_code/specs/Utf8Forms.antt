-- How the front of some bytes is read in UTF-8: which byte may follow which.
use Rattle.std.specs.Prelude.{ℕ, zero, suc, ◌+◌, ◌-◌, ◌*◌, ◌%◌, cond, ◌&&◌, List, length, Some, None, Option, ◌==◌, nat_le, nat_lt, slice_index}
use Rattle.text_code.specs.declared.codes.Decoded.{Decoded}

abbrev pub and_then : {A B : Type 0} → Option A → (A → Option B) → Option B
and_then None next = None
and_then (Some x) next = next x

-- a longer form than needed would begin with a lower second byte
abbrev pub least_second : ℕ → ℕ
least_second first = cond (first == 0xE0) 0xA0 (cond (first == 0xF0) 0x90 0x80)

-- a surrogate or a number above 10FFFF would begin with a higher second byte
abbrev pub greatest_second : ℕ → ℕ
greatest_second first = cond (first == 0xED) 0x9F (cond (first == 0xF4) 0x8F 0xBF)

-- the last six bits of the byte at a place, if it is there and lies between two
unfoldable pub bits_at : List ℕ → ℕ → ℕ → ℕ → Option ℕ
bits_at bytes place low high =
    cond (nat_lt place (length bytes) && (nat_le low (slice_index bytes place) && nat_le (slice_index bytes place) high)) (Some (slice_index bytes place % 64)) None

abbrev pub decoded : ℕ → ℕ → Option Decoded
decoded n k = Some (record { character = n; length = k })

-- so many more bytes from a place on, each with six bits for a number that has come so far, in a form of n bytes
abbrev pub rest_at : List ℕ → ℕ → ℕ → ℕ → ℕ → Option Decoded
rest_at bytes n so_far place zero = decoded so_far n
rest_at bytes n so_far place (suc more) =
    and_then (bits_at bytes place 0x80 0xBF) (λ bits.
    rest_at bytes n (so_far * 64 + bits) (place + 1) more)

-- a form of n bytes: the bits of the first byte above its lead, then six of each that follows
abbrev pub long_at : List ℕ → ℕ → ℕ → ℕ → Option Decoded
long_at bytes first lead n =
    and_then (bits_at bytes 1 (least_second first) (greatest_second first)) (λ second.
    rest_at bytes n ((first - lead) * 64 + second) 2 (n - 2))

-- the character of the form that a first byte begins, or none
unfoldable pub form_at : List ℕ → ℕ → Option Decoded
form_at bytes first =
    cond (nat_le first 0x7F) (decoded first 1)
    (cond (nat_le 0xC2 first && nat_le first 0xDF) (long_at bytes first 0xC0 2)
    (cond (nat_le 0xE0 first && nat_le first 0xEF) (long_at bytes first 0xE0 3)
    (cond (nat_le 0xF0 first && nat_le first 0xF4) (long_at bytes first 0xF0 4) None)))

-- A code with one character of its own choice.
use Rattle.std.specs.Prelude.{ℕ, cond, ◌&&◌, List, [], ◌∷◌, Some, None, Option, ◌==◌, nat_le}
use Rattle.text_code.specs.declared.codes.Decoded.{Decoded}

-- characters 0 to 127 by their own byte, and the sign by byte 128
abbrev pub with_sign : ℕ → ℕ → Option (List ℕ)
with_sign sign n = cond (nat_le n 127) (Some (n ∷ [])) (cond (n == sign && nat_le n 1114111) (Some (128 ∷ [])) None)

-- what byte 128 is read as
abbrev pub sign_read : ℕ → Option Decoded
sign_read sign = cond (nat_le 128 sign && nat_le sign 1114111) (Some (record { character = sign; length = 1 })) None

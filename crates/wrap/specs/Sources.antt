-- Characters that stand in a source from a place to its end.
use Rattle.std.specs.Prelude.{◌≡◌, ℕ, ◌+◌, ◌^◌, ◌<◌, ◌≤◌, List, [], ◌∷◌, length, drop, Some, None, Option}
use Rattle.text_code.specs.declared.codes.Decoded.{Decoded}
use Rattle.text_code.specs.Spellings.{Spelled}

-- what is read at a place where these characters stand: the first, with the others behind it, or nothing at the end
abbrev pub ReadAs : (ℕ → List ℕ → Type 0) → ℕ → List ℕ → Option Decoded → Type 0
ReadAs stands place [] None = Unit {0}
ReadAs stands place [] (Some d) = ⊥
ReadAs stands place (c ∷ cs) None = ⊥
ReadAs stands place (c ∷ cs) (Some d) = (d.character ≡ c) × stands (place + d.length) cs

-- a character takes at least one place, and none behind the end
pub record Within (end place : ℕ) (d : Decoded) : Type 0 where
  pub some : 1 ≤ d.length
  pub before : place + d.length ≤ end
  pub counts : place + d.length < 2 ^ 64

-- bytes from an index on are the spelling of the characters
abbrev pub EncodedStands : (ℕ → Option (List ℕ)) → List ℕ → ℕ → List ℕ → Type 0
EncodedStands f bytes place cs = Spelled f cs (drop place bytes)

abbrev pub encoded_end : List ℕ → ℕ
encoded_end bytes = length bytes

-- numbers from an index on are the characters
abbrev pub NumbersStand : List ℕ → ℕ → List ℕ → Type 0
NumbersStand numbers place cs = cs ≡ drop place numbers

abbrev pub numbers_end : List ℕ → ℕ
numbers_end numbers = length numbers

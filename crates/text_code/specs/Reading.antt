-- What reading the front of some bytes tells, and what checking a whole text tells.
use Rattle.std.specs.Prelude.{◌≡◌, ℕ, ◌<◌, true, false, cond, ◌⊎◌, List, length, take, drop, Some, None, Ok, Err, Option, Result}
use Rattle.std.specs.List.{AllByRecursion}
use Rattle.text_code.specs.declared.codes.Decoded.{Decoded}
use Rattle.text_code.specs.declared.characters.CharacterFault.{CharacterFault}
use Rattle.text_code.specs.declared.characters.Permitted.{Permitted}
use Rattle.text_code.specs.Characters.{permits}
use Rattle.text_code.specs.Spellings.{Begins, NoneBegins, Spelled}

-- the character whose spelling begins the bytes and the length of that spelling, or that there is none
abbrev pub Front : (ℕ → Option (List ℕ)) → List ℕ → Option Decoded → Type 0
Front f bytes (Some d) = Begins f d.character d.length bytes
Front f bytes None = NoneBegins f bytes

-- what was read at the front, if it is permitted
abbrev pub permitted_front : Permitted → Option Decoded → Option Decoded
permitted_front p None = None
permitted_front p (Some d) = cond (permits p d.character) (Some d) None

-- the bytes are the spelling of the characters cs, and each of them is permitted
pub record Text (f : ℕ → Option (List ℕ)) (p : Permitted) (cs bytes : List ℕ) : Type 0 where
  pub spelled : Spelled f cs bytes
  pub permitted : AllByRecursion (λ c. permits p c ≡ true) cs

-- what stands before a place is a text of permitted characters, and no permitted character is spelled at that place
pub record Faulty (f : ℕ → Option (List ℕ)) (p : Permitted) (bytes : List ℕ) (place : ℕ) : Type 0 where
  pub within : place < length bytes
  pub before : (cs : List ℕ) × Text f p cs (take place bytes)
  pub fault : NoneBegins f (drop place bytes) ⊎ ((n : ℕ) × (k : ℕ) × Begins f n k (drop place bytes) × (permits p n ≡ false))

-- the number of characters of a text, or the place of the first that is not spelled or not permitted
abbrev pub Checked : (ℕ → Option (List ℕ)) → Permitted → List ℕ → Result ℕ CharacterFault → Type 0
Checked f p bytes (Ok n) = (cs : List ℕ) × Text f p cs bytes × (length cs ≡ n)
Checked f p bytes (Err fault) = Faulty f p bytes fault.place

-- no other answer is true, so the bytes are accepted exactly when they spell some list of permitted characters
abbrev pub OnlyAnswer : (ℕ → Option (List ℕ)) → Permitted → List ℕ → Result ℕ CharacterFault → Type 0
OnlyAnswer f p bytes r = (q : Result ℕ CharacterFault) → Checked f p bytes q → q ≡ r

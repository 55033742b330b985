-- What spelling one character or a list of characters tells.
use Rattle.std.specs.Prelude.{◌≡◌, ℕ, ◌+◌, ◌<◌, ◌≤◌, false, cond, ◌⊎◌, List, length, take, Some, None, Ok, Err, Option, Result, slice_index}
use Rattle.std.specs.Option.{option_map}
use Rattle.lists.specs.Laying.{laid}
use Rattle.text_code.specs.declared.characters.CharacterFault.{CharacterFault}
use Rattle.text_code.specs.declared.characters.Permitted.{Permitted}
use Rattle.text_code.specs.declared.spelling.Spelling.{Spelling}
use Rattle.text_code.specs.Characters.{permits}
use Rattle.text_code.specs.Reading.{Text}
use Rattle.text_code.specs.Spellings.{Spelled}

abbrev pub spelling_bytes : Spelling → List ℕ
spelling_bytes s = take s.length s.bytes

-- the number of bytes that spell a character, or none where it has no spelling or is not permitted
abbrev pub permitted_length : (ℕ → Option (List ℕ)) → Permitted → ℕ → Option ℕ
permitted_length f p c = cond (permits p c) (option_map length (f c)) None

-- the characters before an index are permitted and spelled, and the one at that index is not
pub record Unwritable (f : ℕ → Option (List ℕ)) (p : Permitted) (cs : List ℕ) (index : ℕ) : Type 0 where
  pub within : index < length cs
  pub before : (bytes : List ℕ) × Text f p (take index cs) bytes
  pub fault : (f (slice_index cs index) ≡ None) ⊎ (permits p (slice_index cs index) ≡ false)

-- the number of bytes of a text, or the index of the first character that has no spelling or is not permitted
abbrev pub Measured : (ℕ → Option (List ℕ)) → Permitted → List ℕ → Result ℕ CharacterFault → Type 0
Measured f p cs (Ok n) = (bytes : List ℕ) × Text f p cs bytes × (length bytes ≡ n)
Measured f p cs (Err fault) = Unwritable f p cs fault.place

-- no other answer is true
abbrev pub OnlyMeasure : (ℕ → Option (List ℕ)) → Permitted → List ℕ → Result ℕ CharacterFault → Type 0
OnlyMeasure f p cs r = (q : Result ℕ CharacterFault) → Measured f p cs q → q ≡ r

-- a buffer with the spelling of the characters laid over it, and where that ends
pub record LaidTo (f : ℕ → Option (List ℕ)) (cs was : List ℕ) (place : ℕ) (after : List ℕ) (end : ℕ) : Type 0 where
  pub bytes : List ℕ
  pub spelled : Spelled f cs bytes
  pub ends : end ≡ place + length bytes
  pub fits : end ≤ length was
  pub holds : after ≡ laid was place bytes

-- no spelling of the characters fits behind the place, and the buffer is as it was
pub record Unlaid (f : ℕ → Option (List ℕ)) (cs was : List ℕ) (place : ℕ) (after : List ℕ) : Type 0 where
  pub unfit : (bytes : List ℕ) → Spelled f cs bytes → length was < place + length bytes
  pub holds : after ≡ was

abbrev pub Laid : (ℕ → Option (List ℕ)) → List ℕ → List ℕ → ℕ → List ℕ → Option ℕ → Type 0
Laid f cs was place after (Some end) = LaidTo f cs was place after end
Laid f cs was place after None = Unlaid f cs was place after

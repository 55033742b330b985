-- What checking a text tells: the first faulty character, else whether the text fits.
use Rattle.std.specs.Prelude.{◌≡◌, ℕ, Bool, true, false, List, Ok, Err, Option, Result}
use Rattle.text_code.specs.declared.characters.Permitted.TheVariants.{TicketText}
use Rattle.text_code.specs.Reading.{Faulty, Text}
use Rattle.text_code.specs.Writing.{Unwritable}
use Rattle.wrap.specs.declared.checks.TextFault.{TextFault}
use Rattle.wrap.specs.declared.checks.TextFault.TheVariants.{Character, TooLarge}
use Rattle.wrap.specs.Flow.{fits}

-- an answer, by what it means that the text fits or not and that a place is faulty
abbrev pub Outcome : (Bool → Type 0) → (ℕ → Type 0) → Result (Unit {0}) TextFault → Type 0
Outcome Fit Fault (Ok done) = Fit true
Outcome Fit Fault (Err (Character place)) = Fault place
Outcome Fit Fault (Err TooLarge) = Fit false

-- the bytes spell a ticket text that fits, or not, as the answer says
pub record TextFit (f : ℕ → Option (List ℕ)) (height width : ℕ) (bytes : List ℕ) (answer : Bool) : Type 0 where
  pub characters : List ℕ
  pub text : Text f TicketText characters bytes
  pub fit : fits height width characters ≡ answer

abbrev pub TextChecked : (ℕ → Option (List ℕ)) → ℕ → ℕ → List ℕ → Result (Unit {0}) TextFault → Type 0
TextChecked f height width bytes = Outcome (TextFit f height width bytes) (Faulty f TicketText bytes)

-- the characters are a ticket text that fits, or not, as the answer says
pub record CharactersFit (f : ℕ → Option (List ℕ)) (height width : ℕ) (cs : List ℕ) (answer : Bool) : Type 0 where
  pub bytes : List ℕ
  pub text : Text f TicketText cs bytes
  pub fit : fits height width cs ≡ answer

abbrev pub CharactersChecked : (ℕ → Option (List ℕ)) → ℕ → ℕ → List ℕ → Result (Unit {0}) TextFault → Type 0
CharactersChecked f height width cs = Outcome (CharactersFit f height width cs) (Unwritable f TicketText cs)

-- no other answer is true
abbrev pub OnlyCheck : (Result (Unit {0}) TextFault → Type 0) → Result (Unit {0}) TextFault → Type 0
OnlyCheck Checked r = (q : Result (Unit {0}) TextFault) → Checked q → q ≡ r

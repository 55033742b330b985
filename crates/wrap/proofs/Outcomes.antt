-- A check has one true answer.
use Rattle.std.proofs.Common.{◌≡◌, ℕ, Bool, true, false, cond, List, length, Ok, Err, Option, Result, sym, refl, ap, ◌∙◌, arith}
use Rattle.std.proofs.lemmas.Bool.{true≢false}
use Rattle.text_code.specs.declared.characters.CharacterFault.{CharacterFault}
use Rattle.text_code.specs.declared.characters.Permitted.TheVariants.{TicketText}
use Rattle.text_code.specs.Reading.{Checked, OnlyAnswer}
use Rattle.text_code.specs.Spellings.{Spelled, UniqueDecoding}
use Rattle.text_code.specs.Writing.{Measured, OnlyMeasure}
use Rattle.wrap.specs.declared.checks.TextFault.{TextFault}
use Rattle.wrap.specs.declared.checks.TextFault.TheVariants.{Character, TooLarge}
use Rattle.wrap.specs.Checks.{CharactersChecked, CharactersFit, OnlyCheck, Outcome, TextChecked, TextFit}
use Rattle.wrap.specs.Flow.{fits}

-- one answer is true where the fit has one value, one place is the first fault, and no text has both
one_outcome : (Fit : Bool → Type 0) (Fault : ℕ → Type 0) → ((a b : Bool) → Fit a → Fit b → a ≡ b) → ((p q : ℕ) → Fault p → Fault q → p ≡ q) → ((a : Bool) (p : ℕ) → Fit a → Fault p → ⊥) → (r : Result (Unit {0}) TextFault) → Outcome Fit Fault r → OnlyCheck (Outcome Fit Fault) r
one_outcome Fit Fault fit fault never (Ok u) o (Ok v) p = refl
one_outcome Fit Fault fit fault never (Ok u) o (Err (Character q)) p = absurd (never true q o p)
one_outcome Fit Fault fit fault never (Ok u) o (Err TooLarge) p = absurd (true≢false (fit true false o p))
one_outcome Fit Fault fit fault never (Err (Character q)) o (Ok v) p = absurd (never true q p o)
one_outcome Fit Fault fit fault never (Err (Character q)) o (Err (Character s)) p = ap (λ n. Err (Character n)) (fault s q p o)
one_outcome Fit Fault fit fault never (Err (Character q)) o (Err TooLarge) p = absurd (never false q p o)
one_outcome Fit Fault fit fault never (Err TooLarge) o (Ok v) p = absurd (true≢false (fit true false p o))
one_outcome Fit Fault fit fault never (Err TooLarge) o (Err (Character q)) p = absurd (never false q o p)
one_outcome Fit Fault fit fault never (Err TooLarge) o (Err TooLarge) p = refl

same_place : (p q : ℕ) (r : Result ℕ CharacterFault) → Err (record { place = p }) ≡ r → Err (record { place = q }) ≡ r → p ≡ q
same_place p q r e f =
    let h : ◌≡◌ {A = Result ℕ CharacterFault} (Err (record { place = p })) (Err (record { place = q })) = e ∙ sym f in
    ap place_of h
  where
    place_of : Result ℕ CharacterFault → ℕ
    place_of (Ok n) = 0
    place_of (Err fault) = fault.place

apart : (n p : ℕ) (r : Result ℕ CharacterFault) → Ok n ≡ r → Err (record { place = p }) ≡ r → ⊥
apart n p r e f = let z : ◌≡◌ {A = ℕ} 0 1 = cc in omega arith

pub record Told (Is : Result (Unit {0}) TextFault → Type 0) (r : Result (Unit {0}) TextFault) : Type 0 where
  pub answer : Is r
  pub only : OnlyCheck Is r

-- what a check of the fit answers
abbrev pub fit_answer : Bool → Result (Unit {0}) TextFault
fit_answer fit = cond fit (Ok tt) (Err TooLarge)

fit_outcome : (Fit : Bool → Type 0) (Fault : ℕ → Type 0) (b : Bool) → Fit b → Outcome Fit Fault (fit_answer b)
fit_outcome Fit Fault true x = x
fit_outcome Fit Fault false x = x

-- the check of a text of bytes
text_told : (f : ℕ → Option (List ℕ)) (h w : ℕ) (bytes : List ℕ) (o : Result ℕ CharacterFault) (r : Result (Unit {0}) TextFault) → OnlyAnswer f TicketText bytes o → UniqueDecoding f → TextChecked f h w bytes r → Told (TextChecked f h w bytes) r
text_told f h w bytes o r only unique is =
    record {
      answer = is;
      only = one_outcome (TextFit f h w bytes) _ (λ a b s t. sym s.fit ∙ ap (fits h w) (unique s.characters t.characters bytes s.text.spelled t.text.spelled) ∙ t.fit)
          (λ p q s t. same_place p q o (only (Err (record { place = p })) s) (only (Err (record { place = q })) t))
          (λ a p s t. apart (length s.characters) p o (only (Ok (length s.characters)) (s.characters, s.text, refl)) (only (Err (record { place = p })) t)) r is;
    }

pub text_faulty : (f : ℕ → Option (List ℕ)) (h w : ℕ) (bytes : List ℕ) (fault : CharacterFault) (r : Result (Unit {0}) TextFault) → Checked f TicketText bytes (Err fault) → OnlyAnswer f TicketText bytes (Err fault) → UniqueDecoding f → r ≡ Err (Character fault.place) → Told (TextChecked f h w bytes) r
text_faulty f h w bytes fault r faulty only unique e = rw e (text_told f h w bytes (Err fault) (Err (Character fault.place)) only unique faulty)

pub text_fits : (f : ℕ → Option (List ℕ)) (h w n : ℕ) (bytes : List ℕ) (r : Result (Unit {0}) TextFault) → Checked f TicketText bytes (Ok n) → OnlyAnswer f TicketText bytes (Ok n) → UniqueDecoding f → ((cs : List ℕ) → Spelled f cs bytes → r ≡ fit_answer (fits h w cs)) → Told (TextChecked f h w bytes) r
text_fits f h w n bytes r (cs, text, e) only unique fit =
    rw (fit cs text.spelled) (text_told f h w bytes (Ok n) (fit_answer (fits h w cs)) only unique (fit_outcome (TextFit f h w bytes) _ (fits h w cs) (record { characters = cs; text = text; fit = refl })))

-- the check of a list of characters
characters_told : (f : ℕ → Option (List ℕ)) (h w : ℕ) (cs : List ℕ) (o : Result ℕ CharacterFault) (r : Result (Unit {0}) TextFault) → OnlyMeasure f TicketText cs o → CharactersChecked f h w cs r → Told (CharactersChecked f h w cs) r
characters_told f h w cs o r only is =
    record {
      answer = is;
      only = one_outcome (CharactersFit f h w cs) _ (λ a b s t. sym s.fit ∙ t.fit)
          (λ p q s t. same_place p q o (only (Err (record { place = p })) s) (only (Err (record { place = q })) t))
          (λ a p s t. apart (length s.bytes) p o (only (Ok (length s.bytes)) (s.bytes, s.text, refl)) (only (Err (record { place = p })) t)) r is;
    }

pub characters_faulty : (f : ℕ → Option (List ℕ)) (h w : ℕ) (cs : List ℕ) (fault : CharacterFault) (r : Result (Unit {0}) TextFault) → Measured f TicketText cs (Err fault) → OnlyMeasure f TicketText cs (Err fault) → r ≡ Err (Character fault.place) → Told (CharactersChecked f h w cs) r
characters_faulty f h w cs fault r faulty only e = rw e (characters_told f h w cs (Err fault) (Err (Character fault.place)) only faulty)

pub characters_fits : (f : ℕ → Option (List ℕ)) (h w n : ℕ) (cs : List ℕ) (r : Result (Unit {0}) TextFault) → Measured f TicketText cs (Ok n) → OnlyMeasure f TicketText cs (Ok n) → r ≡ fit_answer (fits h w cs) → Told (CharactersChecked f h w cs) r
characters_fits f h w n cs r (bytes, text, e) only fit =
    rw fit (characters_told f h w cs (Ok n) (fit_answer (fits h w cs)) only (fit_outcome (CharactersFit f h w cs) _ (fits h w cs) (record { bytes = bytes; text = text; fit = refl })))

-- The fit of a text, word by word.
use Rattle.std.proofs.Common.{◌≡◌, ℕ, ◌+◌, true, false, ◌&&◌, ltb, leb, List, [], sym, ap, ◌∙◌}
use Rattle.wrap.specs.declared.cursor.Word.{Word}
use Rattle.wrap.specs.Flow.{WordAt, words, all_fit, fits}
use Rattle.wrap.specs.Walking.{Arrived}

-- the words from a cursor on fit exactly when the whole text does
pub record FitLeft (st : ℕ → List ℕ → Type 0) (h w place r k : ℕ) (cs : List ℕ) : Type 0 where
  pub rest : List ℕ
  pub stands : st place rest
  pub same : all_fit h w (words w false r k rest) ≡ fits h w cs

fit_word : (st : ℕ → List ℕ → Type 0) (h w : ℕ) (expected : List WordAt) (word : Word) → (a : Arrived st w expected word) → all_fit h w expected ≡ ((leb word.length w && ltb word.row h) && all_fit h w (words w false word.row (word.column + word.length) a.rest))
fit_word st h w expected word a =
    ap (all_fit h w) a.parts ∙ ap (λ (n : ℕ). (leb n w && ltb word.row h) && all_fit h w (words w false word.row (word.column + word.length) a.rest)) (sym a.long)

pub fit_more : (st : ℕ → List ℕ → Type 0) (h w place r k : ℕ) (cs : List ℕ) (word : Word) (place' r' k' : ℕ) → place' ≡ word.end → r' ≡ word.row → k' ≡ word.column + word.length → (leb word.length w && ltb word.row h) ≡ true → (left : FitLeft st h w place r k cs) → Arrived st w (words w false r k left.rest) word → FitLeft st h w place' r' k' cs
fit_more st h w place r k cs word place' r' k' e f i inside left a =
    record {
      rest = a.rest;
      stands = rw e a.behind;
      same = rw (f, i) (sym (fit_word st h w (words w false r k left.rest) word a ∙ ap (λ b. b && all_fit h w (words w false word.row (word.column + word.length) a.rest)) inside) ∙ left.same);
    }

pub fit_not : (st : ℕ → List ℕ → Type 0) (h w place r k : ℕ) (cs : List ℕ) (word : Word) → (leb word.length w && ltb word.row h) ≡ false → (left : FitLeft st h w place r k cs) → Arrived st w (words w false r k left.rest) word → false ≡ fits h w cs
fit_not st h w place r k cs word outside left a =
    sym (fit_word st h w (words w false r k left.rest) word a ∙ ap (λ b. b && all_fit h w (words w false word.row (word.column + word.length) a.rest)) outside) ∙ left.same

pub fit_all : (st : ℕ → List ℕ → Type 0) (h w place r k : ℕ) (cs : List ℕ) → (left : FitLeft st h w place r k cs) → words w false r k left.rest ≡ [] → true ≡ fits h w cs
fit_all st h w place r k cs left e = sym (ap (all_fit h w) e) ∙ left.same

pub fit_start : (st : ℕ → List ℕ → Type 0) (h w place r k : ℕ) (cs : List ℕ) → (place ≡ 0) × (r ≡ 0) × (k ≡ 0) → st 0 cs → FitLeft st h w place r k cs
fit_start st h w place r k cs e s = record { rest = cs; stands = rw e.0 s; same = rw (e.1, e.2) }

-- One step of a walk through a source.
use Rattle.std.proofs.Common.{◌≡◌, ℕ, ◌+◌, Bool, true, false, cond, ltb, List, [], ◌∷◌, ◌++◌, length, Some, None, sym, refl, ap, ◌∙◌, subst, arith}
use Rattle.text_code.specs.declared.codes.Decoded.{Decoded}
use Rattle.wrap.specs.declared.classes.CharacterClass.{CharacterClass}
use Rattle.wrap.specs.declared.classes.CharacterClass.TheVariants.{Blank, LineFeed, Ink}
use Rattle.wrap.specs.declared.cursor.Word.{Word}
use Rattle.wrap.specs.Classes.{class_of, by_class, take_ink, drop_ink}
use Rattle.wrap.specs.Flow.{WordAt, put, behind, words}
use Rattle.wrap.specs.Sources.{ReadAs}
use Rattle.wrap.specs.Walking.{Arrived}

-- what a character that was read says of those that stand there
pub record Read (st : ℕ → List ℕ → Type 0) (place : ℕ) (d : Decoded) (cs : List ℕ) : Type 0 where
  pub others : List ℕ
  pub parts : cs ≡ d.character ∷ others
  pub stands : st (place + d.length) others

pub read_some : (st : ℕ → List ℕ → Type 0) (place : ℕ) (d : Decoded) (cs : List ℕ) → ReadAs st place cs (Some d) → Read st place d cs
read_some st place d [] r = absurd r
read_some st place d (c ∷ cs) r = record { others = cs; parts = ap (λ x. x ∷ cs) (sym r.0); stands = r.1 }

pub read_none : (st : ℕ → List ℕ → Type 0) (place : ℕ) (cs : List ℕ) → ReadAs st place cs None → cs ≡ []
read_none st place [] r = refl
read_none st place (c ∷ cs) r = absurd r

-- the run of ink in the first of the characters
pub take_ink_lem : (c : ℕ) (cs : List ℕ) (class : CharacterClass) → class_of c ≡ class → take_ink (c ∷ cs) ≡ by_class class [] [] (c ∷ take_ink cs)
take_ink_lem c cs class e = ap (λ k. by_class k [] [] (c ∷ take_ink cs)) e

pub drop_ink_lem : (c : ℕ) (cs : List ℕ) (class : CharacterClass) → class_of c ≡ class → drop_ink (c ∷ cs) ≡ by_class class (c ∷ cs) (c ∷ cs) (drop_ink cs)
drop_ink_lem c cs class e = ap (λ k. by_class k (c ∷ cs) (c ∷ cs) (drop_ink cs)) e

pub words_class : (w : ℕ) (i : Bool) (r k c : ℕ) (cs : List ℕ) (class : CharacterClass) → class_of c ≡ class → words w i r k (c ∷ cs) ≡ by_class class (words w false r (cond (ltb k w) (k + 1) k) cs) (words w false (r + 1) 0 cs) (cond i (words w true r k cs) (put w r k (c ∷ take_ink cs) ∷ words w true (put w r k (c ∷ take_ink cs)).row (behind (put w r k (c ∷ take_ink cs))) cs))
words_class w i r k c cs class e = ap (λ x. by_class x (words w false r (cond (ltb k w) (k + 1) k) cs) (words w false (r + 1) 0 cs) (cond i (words w true r k cs) (put w r k (c ∷ take_ink cs) ∷ words w true (put w r k (c ∷ take_ink cs)).row (behind (put w r k (c ∷ take_ink cs))) cs))) e

-- a text is its first run of ink and what stands behind it
ink_step : (c : ℕ) (cs : List ℕ) (class : CharacterClass) → take_ink cs ++ drop_ink cs ≡ cs → by_class class [] [] (c ∷ take_ink cs) ++ by_class class (c ∷ cs) (c ∷ cs) (drop_ink cs) ≡ c ∷ cs
ink_step c cs Blank e = refl
ink_step c cs LineFeed e = refl
ink_step c cs Ink e = ap (λ zs. c ∷ zs) e

pub ink_parts : (cs : List ℕ) → take_ink cs ++ drop_ink cs ≡ cs
ink_parts [] = refl
ink_parts (c ∷ cs) = ink_step c cs (class_of c) (ink_parts cs)

-- inside a word, the words to come are those behind it
words_step : (w r k c : ℕ) (cs : List ℕ) (class : CharacterClass) → class_of c ≡ class → words w true r k cs ≡ words w false r k (drop_ink cs) → words w true r k (c ∷ cs) ≡ words w false r k (by_class class (c ∷ cs) (c ∷ cs) (drop_ink cs))
words_step w r k c cs Blank e h = words_class w true r k c cs Blank e ∙ sym (words_class w false r k c cs Blank e)
words_step w r k c cs LineFeed e h = words_class w true r k c cs LineFeed e ∙ sym (words_class w false r k c cs LineFeed e)
words_step w r k c cs Ink e h = words_class w true r k c cs Ink e ∙ h

pub words_behind : (w r k : ℕ) (cs : List ℕ) → words w true r k cs ≡ words w false r k (drop_ink cs)
words_behind w r k [] = refl
words_behind w r k (c ∷ cs) = words_step w r k c cs (class_of c) refl (words_behind w r k cs)

-- how far a run of ink has been counted
pub record RunTo (st : ℕ → List ℕ → Type 0) (cs : List ℕ) (end count : ℕ) : Type 0 where
  pub rest : List ℕ
  pub stands : st end rest
  pub long : count + length (take_ink rest) ≡ length (take_ink cs)
  pub same : drop_ink rest ≡ drop_ink cs

pub run_start : (st : ℕ → List ℕ → Type 0) (place : ℕ) (cs : List ℕ) → st place cs → RunTo st cs place 0
run_start st place cs s = record { rest = cs; stands = s; long = omega arith; same = refl }

pub run_more : (st : ℕ → List ℕ → Type 0) (cs : List ℕ) (end count : ℕ) (d : Decoded) → class_of d.character ≡ Ink → ((ds : List ℕ) → st end ds → ReadAs st end ds (Some d)) → RunTo st cs end count → RunTo st cs (end + d.length) (count + 1)
run_more st cs end count d e read run =
    let q = read_some st end d run.rest (read run.rest run.stands) in
    let t : take_ink run.rest ≡ d.character ∷ take_ink q.others = ap take_ink q.parts ∙ take_ink_lem d.character q.others Ink e in
    let u : drop_ink run.rest ≡ drop_ink q.others = ap drop_ink q.parts ∙ drop_ink_lem d.character q.others Ink e in
    record { rest = q.others; stands = q.stands; long = omega (arith, ap length t, run.long); same = sym u ∙ run.same }

-- a run ends where what comes next is no ink
pub record RunAll (st : ℕ → List ℕ → Type 0) (cs : List ℕ) (end count : ℕ) : Type 0 where
  pub long : count ≡ length (take_ink cs)
  pub behind : st end (drop_ink cs)

run_ended : (st : ℕ → List ℕ → Type 0) (cs : List ℕ) (end count : ℕ) → (run : RunTo st cs end count) → take_ink run.rest ≡ [] → RunAll st cs end count
run_ended st cs end count run e =
    let p : run.rest ≡ drop_ink run.rest = sym (ink_parts run.rest) ∙ ap (λ zs. zs ++ drop_ink run.rest) e in
    record { long = omega (arith, run.long, ap length e); behind = subst (st end) (p ∙ run.same) run.stands }

pub run_none : (st : ℕ → List ℕ → Type 0) (cs : List ℕ) (end count : ℕ) → ((ds : List ℕ) → st end ds → ReadAs st end ds None) → RunTo st cs end count → RunAll st cs end count
run_none st cs end count read run = run_ended st cs end count run (ap take_ink (read_none st end run.rest (read run.rest run.stands)))

no_ink : (c : ℕ) (cs : List ℕ) (class : CharacterClass) → class_of c ≡ class → (class ≡ Ink → ⊥) → take_ink (c ∷ cs) ≡ []
no_ink c cs Blank e n = take_ink_lem c cs Blank e
no_ink c cs LineFeed e n = take_ink_lem c cs LineFeed e
no_ink c cs Ink e n = absurd (n refl)

pub run_other : (st : ℕ → List ℕ → Type 0) (cs : List ℕ) (end count : ℕ) (d : Decoded) → (class_of d.character ≡ Ink → ⊥) → ((ds : List ℕ) → st end ds → ReadAs st end ds (Some d)) → RunTo st cs end count → RunAll st cs end count
run_other st cs end count d n read run =
    let q = read_some st end d run.rest (read run.rest run.stands) in
    run_ended st cs end count run (ap take_ink q.parts ∙ no_ink d.character q.others (class_of d.character) refl n)

-- a word that begins with its first character
pub arrives : (w r k c : ℕ) (cs : List ℕ) (row column n : ℕ) → class_of c ≡ Ink → put w r k (c ∷ take_ink cs) ≡ record { row = row; column = column; characters = c ∷ take_ink cs } → n ≡ length (c ∷ take_ink cs) → words w false r k (c ∷ cs) ≡ record { row = row; column = column; characters = c ∷ take_ink cs } ∷ words w false row (column + n) (drop_ink cs)
arrives w r k c cs row column n e p l =
    let x : WordAt = record { row = row; column = column; characters = c ∷ take_ink cs } in
    words_class w false r k c cs Ink e ∙ ap (λ (y : WordAt). y ∷ words w true y.row (behind y) cs) p
    ∙ ap (λ zs. x ∷ zs) (words_behind w row (column + length (c ∷ take_ink cs)) cs ∙ ap (λ (m : ℕ). words w false row (column + m) (drop_ink cs)) (sym l))

pub arrived : (st : ℕ → List ℕ → Type 0) (w r k c : ℕ) (cs : List ℕ) (word : Word) → class_of c ≡ Ink → st word.start (c ∷ cs) → st word.end (drop_ink cs) → put w r k (c ∷ take_ink cs) ≡ record { row = word.row; column = word.column; characters = c ∷ take_ink cs } → word.length ≡ length (c ∷ take_ink cs) → Arrived st w (words w false r k (c ∷ cs)) word
arrived st w r k c cs word e here there p l =
    record {
      characters = c ∷ take_ink cs;
      rest = drop_ink cs;
      here = subst (λ zs. st word.start (c ∷ zs)) (sym (ink_parts cs)) here;
      behind = there;
      long = l;
      parts = arrives w r k c cs word.row word.column word.length e p l;
    }

-- the words to come from a cursor are those that were to come at the start
pub record WordsLeft (st : ℕ → List ℕ → Type 0) (w place r k : ℕ) (expected : List WordAt) : Type 0 where
  pub rest : List ℕ
  pub stands : st place rest
  pub same : words w false r k rest ≡ expected

pub left_more : (st : ℕ → List ℕ → Type 0) (w place r k r' k' : ℕ) (d : Decoded) (expected : List WordAt) → ((ds : List ℕ) → st place ds → ReadAs st place ds (Some d)) → ((cs : List ℕ) → words w false r k (d.character ∷ cs) ≡ words w false r' k' cs) → WordsLeft st w place r k expected → WordsLeft st w (place + d.length) r' k' expected
left_more st w place r k r' k' d expected read step left =
    let q = read_some st place d left.rest (read left.rest left.stands) in
    record { rest = q.others; stands = q.stands; same = sym (step q.others) ∙ ap (words w false r k) (sym q.parts) ∙ left.same }

pub left_none : (st : ℕ → List ℕ → Type 0) (w place r k : ℕ) (expected : List WordAt) → ((ds : List ℕ) → st place ds → ReadAs st place ds None) → WordsLeft st w place r k expected → expected ≡ []
left_none st w place r k expected read left =
    sym left.same ∙ ap (words w false r k) (read_none st place left.rest (read left.rest left.stands))

pub left_word : (st : ℕ → List ℕ → Type 0) (w place r k : ℕ) (d : Decoded) (word : Word) (expected : List WordAt) → class_of d.character ≡ Ink → ((ds : List ℕ) → st place ds → ReadAs st place ds (Some d)) → ((c : ℕ) (cs : List ℕ) → class_of c ≡ Ink → st place (c ∷ cs) → st (place + d.length) cs → Arrived st w (words w false r k (c ∷ cs)) word) → WordsLeft st w place r k expected → Arrived st w expected word
left_word st w place r k d word expected e read puts left =
    let q = read_some st place d left.rest (read left.rest left.stands) in
    let a = puts d.character q.others e (subst (st place) q.parts left.stands) q.stands in
    subst (λ ws. Arrived st w ws word) (ap (words w false r k) (sym q.parts) ∙ left.same) a

pub left_cursor : (st : ℕ → List ℕ → Type 0) (w place r k place' r' k' : ℕ) (expected : List WordAt) → place' ≡ place → r' ≡ r → k' ≡ k → WordsLeft st w place r k expected → WordsLeft st w place' r' k' expected
left_cursor st w place r k place' r' k' expected e f h left = rw (e, f, h) left

-- A character is a blank, a line feed or ink, and a word is a run of ink.
use Rattle.std.specs.Prelude.{ℕ, cond, List, [], ◌∷◌, ◌==◌}
use Rattle.wrap.specs.declared.classes.CharacterClass.{CharacterClass}
use Rattle.wrap.specs.declared.classes.CharacterClass.TheVariants.{Blank, LineFeed, Ink}

abbrev pub class_of : ℕ → CharacterClass
class_of c = cond (c == 32) Blank (cond (c == 10) LineFeed Ink)

-- one of three by the class: for a blank, for a line feed, for ink
abbrev pub by_class : {X : Type 0} → CharacterClass → X → X → X → X
by_class Blank x y z = x
by_class LineFeed x y z = y
by_class Ink x y z = z

-- the run of ink at the front of a text, and what stands behind it
abbrev pub take_ink : List ℕ → List ℕ
take_ink [] = []
take_ink (c ∷ cs) = by_class (class_of c) [] [] (c ∷ take_ink cs)

abbrev pub drop_ink : List ℕ → List ℕ
drop_ink [] = []
drop_ink (c ∷ cs) = by_class (class_of c) (c ∷ cs) (c ∷ cs) (drop_ink cs)

-- all ink of a text
abbrev pub ink_of : List ℕ → List ℕ
ink_of [] = []
ink_of (c ∷ cs) = by_class (class_of c) (ink_of cs) (ink_of cs) (c ∷ ink_of cs)

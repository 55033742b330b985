-- Going through a source from word to word.
use Rattle.std.specs.Prelude.{◌≡◌, ℕ, ◌+◌, false, List, [], ◌∷◌, ◌++◌, length, Some, None, Option}
use Rattle.wrap.specs.declared.cursor.Word.{Word}
use Rattle.wrap.specs.declared.walking.Run.{Run}
use Rattle.wrap.specs.Classes.{take_ink, drop_ink}
use Rattle.wrap.specs.Flow.{WordAt, words}

-- the run of ink at the front of some characters
pub record InkRun (stands : ℕ → List ℕ → Type 0) (cs : List ℕ) (run : Run) : Type 0 where
  pub long : run.length ≡ length (take_ink cs)
  pub behind : stands run.end (drop_ink cs)

-- a word that is the first of those to come, its characters, and what stands behind it
pub record Arrived (stands : ℕ → List ℕ → Type 0) (width : ℕ) (expected : List WordAt) (word : Word) : Type 0 where
  pub characters : List ℕ
  pub rest : List ℕ
  pub here : stands word.start (characters ++ rest)
  pub behind : stands word.end rest
  pub long : word.length ≡ length characters
  pub parts : expected ≡ record { row = word.row; column = word.column; characters = characters } ∷ words width false word.row (word.column + word.length) rest

-- the first of the words to come, or that there is none
abbrev pub NextWord : (ℕ → List ℕ → Type 0) → ℕ → List WordAt → Option Word → Type 0
NextWord stands width expected None = expected ≡ []
NextWord stands width expected (Some word) = Arrived stands width expected word

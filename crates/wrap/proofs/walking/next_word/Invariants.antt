use Rattle.std.proofs.Common.{ℕ, ◌-◌, ◌≤◌, false, List}
use Rattle.wrap.specs.Flow.{words}
use Rattle.wrap.proofs.Steps.{WordsLeft}
use Rattle.wrap.proofs.walking.next_word.Given as goal

abbrev pub invariant-loop-decoded : goal.invariant-loop-decoded
invariant-loop-decoded g l =
    ((cs : List ℕ) → g.S.Characters.stands l.source l.initial.cursor.place cs → WordsLeft (g.S.Characters.stands l.source) l.width l.cursor.place l.cursor.row l.cursor.column (words l.width false l.initial.cursor.row l.initial.cursor.column cs))
    × (l.initial.cursor.place ≤ l.cursor.place)

abbrev pub decreases-loop-decoded : goal.decreases-loop-decoded
decreases-loop-decoded g l = g.S.Characters.end l.source - l.cursor.place

use Rattle.std.proofs.Common.{ℕ, ◌+◌, ◌-◌, ◌≤◌, List}
use Rattle.wrap.proofs.Steps.{RunTo}
use Rattle.wrap.proofs.walking.ink_run.Given as goal

abbrev pub invariant-loop-decoded : goal.invariant-loop-decoded
invariant-loop-decoded g l = ((cs : List ℕ) → g.S.Characters.stands l.source l.place cs → RunTo (g.S.Characters.stands l.source) cs l.end l.length) × (l.place + l.length ≤ l.end) × (l.place ≤ g.S.Characters.end l.source → l.end ≤ g.S.Characters.end l.source)

abbrev pub decreases-loop-decoded : goal.decreases-loop-decoded
decreases-loop-decoded g l = g.S.Characters.end l.source - l.end

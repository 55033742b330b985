use Rattle.std.proofs.Common.{ℕ, ◌-◌, List}
use Rattle.wrap.proofs.Fits.{FitLeft}
use Rattle.wrap.proofs.fitting.fits_in.Given as goal

abbrev pub invariant-loop-word : goal.invariant-loop-word
invariant-loop-word g l = (cs : List ℕ) → g.S.Characters.stands l.source 0 cs → FitLeft (g.S.Characters.stands l.source) l.height l.width l.cursor.place l.cursor.row l.cursor.column cs

abbrev pub decreases-loop-word : goal.decreases-loop-word
decreases-loop-word g l = g.S.Characters.end l.source - l.cursor.place

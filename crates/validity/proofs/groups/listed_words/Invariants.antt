use Rattle.std.proofs.Common.{length}
use Rattle.validity.proofs.Scanning.{ScannedTo}
use Rattle.validity.proofs.groups.listed_words.Given as goal

abbrev pub invariant-loop-rest : goal.invariant-loop-rest
invariant-loop-rest g l = ScannedTo (g.C.ReadingCode.spells l.code) l.bytes l.rest l.digits l.value l.gap l.words

abbrev pub decreases-loop-rest : goal.decreases-loop-rest
decreases-loop-rest g l = length l.rest

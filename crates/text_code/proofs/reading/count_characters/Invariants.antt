use Rattle.std.proofs.Common.{length}
use Rattle.text_code.proofs.Checking.{CheckedTo}
use Rattle.text_code.proofs.reading.count_characters.Given as goal

abbrev pub invariant-loop-decoded : goal.invariant-loop-decoded
invariant-loop-decoded g l = CheckedTo (g.C.ReadingCode.spells l.code) l.permitted l.bytes l.rest l.characters

abbrev pub decreases-loop-decoded : goal.decreases-loop-decoded
decreases-loop-decoded g l = length l.rest

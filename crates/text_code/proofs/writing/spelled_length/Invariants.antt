use Rattle.text_code.proofs.Measuring.{MeasuredTo}
use Rattle.text_code.proofs.writing.spelled_length.Given as goal

abbrev pub invariant-loop-index : goal.invariant-loop-index
invariant-loop-index g l = MeasuredTo (g.C.ReadingCode.spells l.code) l.permitted l.characters l.index l.length

use Rattle.text_code.proofs.Laying.{LeftToLay}
use Rattle.text_code.proofs.writing.lay_characters.Given as goal

abbrev pub invariant-loop-character : goal.invariant-loop-character
invariant-loop-character g l = LeftToLay (g.C.ReadingCode.spells l.code) l.characters l.initial.buffer l.place l.buffer l.character-index l.at

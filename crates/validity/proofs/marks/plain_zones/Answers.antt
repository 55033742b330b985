use Rattle.std.proofs.Common.{refl}
use Rattle.validity.specs.Zoning.{word_of, words_of, count_of}
use Rattle.validity.proofs.marks.plain_zones.Goals as goal

pub returns : goal.returns
unfolding word_of words_of count_of
returns c = refl

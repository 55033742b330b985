use Rattle.validity.proofs.Packing.{zone_mark}
use Rattle.validity.proofs.marks.mark.Goals as goal

pub returns : goal.returns
returns c f e = zone_mark c.args.words.now c.args.zone f c.requires e

use Rattle.std.proofs.Common.{◌<◌, arith, rules}
use Rattle.std.proofs.iter.runs.Sources.{sums}
use Rattle.validity.proofs.Packing.{ones_bound}
use Rattle.validity.specs.Zoning.{ones_of}
use Rattle.validity.proofs.marks.count_zones.Goals as goal

pub sum-requires-clause-fits : goal.sum-requires-clause-fits
sum-requires-clause-fits c =
    let b : ones_of c.args.words.now < 4294967296 = omega (arith, ones_bound c.args.words.now c.fits-words, c.told-words) in
    search (rules, sums)

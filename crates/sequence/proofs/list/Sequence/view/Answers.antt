use Rattle.std.proofs.Common.{arith}
use Rattle.std.proofs.lemmas.Grind.{common_steps}
use Rattle.sequence.specs.Held.{held}
use Rattle.sequence.proofs.PieceLaws.{piece_told}
use Rattle.sequence.proofs.list.Sequence.view.Goals as goal

pub returns-in_err-get-clause-piece : goal.returns-in_err-get-clause-piece
returns-in_err-get-clause-piece g c = piece_told (held c.args.self.now) c.args.place c.args.count _ (grind (arith, common_steps))

pub returns-clause-piece : goal.returns-clause-piece
returns-clause-piece g c = piece_told (held c.args.self.now) c.args.place c.args.count _ (grind (arith, common_steps))

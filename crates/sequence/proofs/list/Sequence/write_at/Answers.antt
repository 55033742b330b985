use Rattle.std.proofs.Common.{◌+◌, ◌-◌, ◌≤◌, length, refl, ◌∙◌, arith, rules}
use Rattle.sequence.specs.Held.{held}
use Rattle.sequence.proofs.FrontLaws.{front_laid}
use Rattle.sequence.proofs.PieceLaws.{lies_told, pieces_spliced}
use Rattle.sequence.proofs.list.Sequence.write_at.Goals as goal

pub returns-in_err-check_range-clause-pieces : goal.returns-in_err-check_range-clause-pieces
returns-in_err-check_range-clause-pieces g c = λ ps n l.
    search (rules, lies_told ps n (held c.args.self.now) c.args.place (length c.args.entries.now) l)

pub returns-clause-pieces : goal.returns-clause-pieces
returns-clause-pieces g c = λ ps n l.
    let s = c.args.self.now in
    let p = c.args.place in
    let b = c.args.entries.now in
    let fits : p + length b ≤ s.len = search rules in
    let holds = front_laid p (p + length b - p) s.len s.items.now c.copy_from_slice.new.self b s.within fits (omega arith) c.copy_from_slice.ensures.after in
    (refl, holds ∙ pieces_spliced ps n (held s) p (length b) b l)

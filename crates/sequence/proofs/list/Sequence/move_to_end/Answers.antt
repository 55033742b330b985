use Rattle.std.proofs.Common.{◌≡◌, ◌+◌, ◌≤◌, length, take, drop, refl, ◌∙◌, rules}
use Rattle.std.proofs.lemmas.List.{length-take-le, take_at}
use Rattle.sequence.specs.Parts.{moved}
use Rattle.sequence.specs.Held.{held}
use Rattle.sequence.proofs.PartLaws.{length_moved}
use Rattle.sequence.proofs.PieceLaws.{lies_told, pieces_moved}
use Rattle.sequence.proofs.list.Sequence.move_to_end.Goals as goal

pub returns-in_err-check_range-clause-pieces : goal.returns-in_err-check_range-clause-pieces
returns-in_err-check_range-clause-pieces g c = λ ps n l.
    search (rules, lies_told ps n (held c.args.self.now) c.args.place c.args.count l)

pub returns-clause-pieces : goal.returns-clause-pieces
returns-clause-pieces g c = λ ps n l.
    let s = c.args.self.now in
    let h = held s in
    let p = c.args.place in
    let k = c.args.count in
    let whole : length h ≡ s.len = length-take-le s.len s.items.now s.within in
    let fits : p + k ≤ length h = search rules in
    let holds : take s.len c.move_behind.new.items ≡ moved p k h =
    rw c.move_behind.ensures (take_at (moved p k h) (drop s.len s.items.now) s.len (length_moved p k h fits ∙ whole)) in (refl, holds ∙ pieces_moved ps n h p k l)

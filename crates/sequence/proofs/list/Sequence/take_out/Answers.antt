use Rattle.std.proofs.Common.{◌+◌, ◌≤◌, length, refl, ap, ◌∙◌, arith, rules}
use Rattle.std.proofs.lemmas.List.{length-take-le}
use Rattle.sequence.specs.Held.{held}
use Rattle.sequence.proofs.PartLaws.{length_moved}
use Rattle.sequence.proofs.FrontLaws.{front_fewer}
use Rattle.sequence.proofs.PieceLaws.{pieces_without}
use Rattle.sequence.proofs.list.Sequence.take_out.Goals as goal

pub overflow_sub-self : goal.overflow_sub-self
overflow_sub-self g c =
    let h = held c.args.self.now in
    let m = c.move_to_end.new.self in
    let fits : c.args.place + c.args.count ≤ length h = search rules in
    omega (arith, ap length c.in_ok-move_to_end.ensures.holds, length_moved c.args.place c.args.count h fits, length-take-le m.len m.items.now m.within)

pub returns-clause-pieces : goal.returns-clause-pieces
returns-clause-pieces g c = λ ps n l.
    let h = held c.args.self.now in
    let p = c.args.place in
    let k = c.args.count in
    let m = c.move_to_end.new.self in
    let fits : p + k ≤ length h = search rules in
    (refl, front_fewer p k m.len m.items.now h m.within fits c.in_ok-move_to_end.ensures.holds ∙ pieces_without ps n h p k l)

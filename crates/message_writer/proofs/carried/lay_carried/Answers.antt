use Rattle.std.proofs.Common.{◌+◌, ◌≤◌, length, ap, ◌∙◌, arith}
use Rattle.lists.specs.Laying.{laid}
use Rattle.message_writer.specs.Parts.{record_items}
use Rattle.message_writer.proofs.Turns.{in_turn}
use Rattle.message_writer.proofs.PartLaws.{joined_record, length_record_items}
use Rattle.message_writer.proofs.carried.lay_carried.Goals as goal

pub returns-clause-after : goal.returns-clause-after
returns-clause-after c =
    let a = c.args in
    let id = a.id.now in
    let version = a.version.now in
    let body = a.body.now in
    let room : a.place + (12 + length body) ≤ length a.buffer.now = c.in_ok-check_within.ensures.bound in
    c.lay_record_items.ensures
    ∙ in_turn a.buffer.now a.place (record_items id version body) (omega (arith, length_record_items id version body (omega arith) (omega arith)))
    ∙ ap (laid a.buffer.now a.place) (joined_record id version body)

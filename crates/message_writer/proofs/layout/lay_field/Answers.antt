use Rattle.std.proofs.Common.{◌+◌, ◌≤◌, length, ◌∙◌, arith}
use Rattle.field.specs.Areas.{area_of}
use Rattle.message_writer.specs.Parts.{field_items}
use Rattle.message_writer.proofs.Turns.{in_turn}
use Rattle.message_writer.proofs.PartLaws.{length_field_items}
use Rattle.message_writer.proofs.layout.lay_field.Goals as goal

pub returns-clause-after : goal.returns-clause-after
returns-clause-after c =
    let a = c.args in
    let area = area_of a.rectangle in
    let formatting = a.formatting.value in
    let text = a.text.now in
    let room : a.place + (13 + length text) ≤ length a.buffer.now = c.in_ok-check_within.ensures.bound in
    c.lay_field_items.ensures ∙ in_turn a.buffer.now a.place (field_items area formatting text) (omega (arith, length_field_items area formatting text))

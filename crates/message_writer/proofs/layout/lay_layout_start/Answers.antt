use Rattle.std.proofs.Common.{◌≡◌, ◌+◌, ◌≤◌, length, refl, ◌∙◌, arith}
use Rattle.message_writer.specs.Parts.{layout_start, start_items}
use Rattle.message_writer.proofs.Turns.{in_turn}
use Rattle.message_writer.proofs.PartLaws.{starts_layout}
use Rattle.message_writer.proofs.layout.lay_layout_start.Goals as goal

pub returns-clause-after : goal.returns-clause-after
returns-clause-after c =
    let a = c.args in
    let room : a.place + 20 ≤ length a.buffer.now = c.in_ok-check_within.ensures.bound in
    let long : length (layout_start a.fields a.body_length) ≡ 20 = refl in
    c.lay_start_items.ensures ∙ in_turn a.buffer.now a.place (start_items a.fields a.body_length) (omega (arith, long))

pub returns-clause-layout : goal.returns-clause-layout
returns-clause-layout c = starts_layout c.args.fields c.args.body_length

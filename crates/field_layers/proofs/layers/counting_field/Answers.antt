use Rattle.std.proofs.Common.{map, None, Some, sym, subst, ◌∙◌}
use Rattle.field.specs.Areas.{area_of_cells}
use Rattle.field_layers.specs.Layers.{CountsAt}
use Rattle.field_layers.proofs.Layering.{at_most_one, counted_in, counts_none, last_counts, last_hidden, lawful_area_lem, lawful_counting, lawful_covers, meet_where_shared, meets_later}
use Rattle.field_layers.proofs.layers.counting_field.Goals as goal

pub returns-in_err-last : goal.returns-in_err-last
returns-in_err-last g c =
    let ys = map g.F.HasCells.area c.args.fields.now in
    let a = subst (CountsAt ys c.args.line c.args.column) (sym c.from_residual.ensures) (counts_none g.F.HasCells.area c.args.fields.now c.args.line c.args.column c.in_err-last.ensures) in
    record { answer = a; field = counted_in ys c.args.line c.args.column c.from_residual.result a; one = at_most_one; shared = meet_where_shared; rectangles = lawful_area_lem; lawful = lawful_covers; counting = lawful_counting }

pub returns-then-meets_none : goal.returns-then-meets_none
returns-then-meets_none g c =
    let place = g.F.HasCells.area in
    let xs = c.args.fields.now in
    let k = c.in_ok-last.last in
    let m = meets_later place xs k c.index-fields-last.result (area_of_cells c.cells.result) c.meets_none.result c.in_ok-last.ensures.0 c.index-fields-last.is c.cells.ensures.value c.meets_none.ensures in
    let a = last_counts place xs c.args.line c.args.column k c.in_ok-last.ensures (sym m ∙ c.if-meets_none.true) in
    record { answer = a; field = counted_in _ c.args.line c.args.column (Some k) a; one = at_most_one; shared = meet_where_shared; rectangles = lawful_area_lem; lawful = lawful_covers; counting = lawful_counting }

pub returns-else-meets_none : goal.returns-else-meets_none
returns-else-meets_none g c =
    let place = g.F.HasCells.area in
    let xs = c.args.fields.now in
    let k = c.in_ok-last.last in
    let m = meets_later place xs k c.index-fields-last.result (area_of_cells c.cells.result) c.meets_none.result c.in_ok-last.ensures.0 c.index-fields-last.is c.cells.ensures.value c.meets_none.ensures in
    let a = last_hidden place xs c.args.line c.args.column k c.in_ok-last.ensures (sym m ∙ c.if-meets_none.false) in
    record { answer = a; field = counted_in _ c.args.line c.args.column None a; one = at_most_one; shared = meet_where_shared; rectangles = lawful_area_lem; lawful = lawful_covers; counting = lawful_counting }

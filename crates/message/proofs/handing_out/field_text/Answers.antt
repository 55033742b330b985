use Rattle.std.proofs.Common.{Err, ap, ◌∙◌}
use Rattle.message.proofs.HandingOut.{text_handed, text_refused}
use Rattle.message.proofs.handing_out.field_text.Goals as goal
use Rattle.std.proofs.lemmas.Result.{err_from_is_err_and}

pub returns-in_err-field : goal.returns-in_err-field
returns-in_err-field g c =
    let f = g.C.ReadingCode.spells c.args.code.now in
    let short = g.met.C.ReadingCode.short c.args.code.now in
    let bounded = g.met.C.ReadingCode.bounded c.args.code.now in
    let apart = g.met.C.ReadingCode.apart c.args.code.now in
    let p = err_from_is_err_and c.from_residual.result c.from_residual.ensures.1 in
    record { answer = text_refused f short bounded apart c.args.message c.args.number c.in_err-field.field-0.0 c.from_residual.result c.in_err-field.ensures.value (p.1 ∙ ap Err p.2) }

pub returns : goal.returns
returns g c =
    let f = g.C.ReadingCode.spells c.args.code.now in
    let short = g.met.C.ReadingCode.short c.args.code.now in
    let bounded = g.met.C.ReadingCode.bounded c.args.code.now in
    let apart = g.met.C.ReadingCode.apart c.args.code.now in
    record { answer = text_handed f short bounded apart c.args.message c.args.number c.in_ok-field.field c.in_ok-field.ensures.value c.in_ok-field.ensures.part }

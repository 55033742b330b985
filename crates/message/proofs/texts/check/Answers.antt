use Rattle.field.specs.Areas.{area_of}
use Rattle.message.proofs.texts.check.Goals as goal
use Rattle.ticket.proofs.TextLaws.{text_only}

pub returns-clause-value : goal.returns-clause-value
returns-clause-value g c =
    text_only (g.C.ReadingCode.spells c.args.code.now) (area_of c.args.rectangle) c.args.text.now c.check_text.result (g.met.C.ReadingCode.short c.args.code.now) (g.met.C.ReadingCode.bounded c.args.code.now) c.check_text.ensures.only

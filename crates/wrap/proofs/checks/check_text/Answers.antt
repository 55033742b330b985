use Rattle.std.proofs.Common.{rules}
use Rattle.wrap.proofs.Outcomes.{text_faulty, text_fits}
use Rattle.wrap.proofs.checks.check_text.Goals as goal

pub returns-in_err-count_characters-clause-only : goal.returns-in_err-count_characters-clause-only
returns-in_err-count_characters-clause-only g c =
    let e = c.in_err-count_characters.ensures in
    (text_faulty (g.C.ReadingCode.spells c.args.code.now) c.args.height c.args.width c.args.bytes.now c.in_err-count_characters.field-0.0 c.from_residual.result e.answer e.only e.unique (search rules)).only

pub returns-clause-only : goal.returns-clause-only
returns-clause-only g c =
    let e = c.in_ok-count_characters.ensures in
    (text_fits (g.C.ReadingCode.spells c.args.code.now) c.args.height c.args.width c.in_ok-count_characters.field-0 c.args.bytes.now c.check_fit.result e.answer e.only e.unique c.check_fit.ensures.answer).only

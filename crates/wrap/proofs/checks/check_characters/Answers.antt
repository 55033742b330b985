use Rattle.std.proofs.Common.{refl, rules}
use Rattle.wrap.proofs.Outcomes.{characters_faulty, characters_fits}
use Rattle.wrap.proofs.checks.check_characters.Goals as goal

pub returns-in_err-spelled_length-clause-only : goal.returns-in_err-spelled_length-clause-only
returns-in_err-spelled_length-clause-only g c =
    let e = c.in_err-spelled_length.ensures in
    (characters_faulty (g.C.ReadingCode.spells c.args.code.now) c.args.height c.args.width c.args.characters.now c.in_err-spelled_length.field-0.0 c.from_residual.result e.answer e.only (search rules)).only

pub returns-clause-answer : goal.returns-clause-answer
returns-clause-answer g c =
    let e = c.in_ok-spelled_length.ensures in
    (characters_fits (g.C.ReadingCode.spells c.args.code.now) c.args.height c.args.width c.in_ok-spelled_length.field-0 c.args.characters.now c.check_fit.result e.answer e.only (c.check_fit.ensures.answer c.args.characters.now refl)).answer

pub returns-clause-only : goal.returns-clause-only
returns-clause-only g c =
    let e = c.in_ok-spelled_length.ensures in
    (characters_fits (g.C.ReadingCode.spells c.args.code.now) c.args.height c.args.width c.in_ok-spelled_length.field-0 c.args.characters.now c.check_fit.result e.answer e.only (c.check_fit.ensures.answer c.args.characters.now refl)).only

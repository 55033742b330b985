use Rattle.std.proofs.Common.{None, ap, ap₂, sym, ◌∙◌, take, drop}
use Rattle.std.proofs.lemmas.Bool.{cond-true}
use Rattle.validity.specs.Periods.{between, moment_at, two_parts}
use Rattle.validity.proofs.period_text.read_period.Goals as goal

pub returns : goal.returns
returns c =
    let bytes = c.args.bytes.now in
    let p = c.in_ok-first.ensures in
    c.period_between.ensures
    ∙ ap₂ between (c.moment_at.ensures ∙ ap moment_at p.texts.0) (c.moment_at-2.ensures ∙ ap moment_at p.texts.1)
    ∙ sym (cond-true (two_parts bytes) (between (moment_at (take 19 bytes)) (moment_at (take 19 (drop 22 bytes)))) None (sym p.whether))

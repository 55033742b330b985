use Rattle.std.proofs.Common.{sym, ◌∙◌}
use Rattle.validity.proofs.Writings.{cut_in_two}
use Rattle.validity.proofs.period_text.two_parts.Goals as goal

pub returns : goal.returns
returns c =
    let p = c.in_ok-first.ensures.cases in
    let q = c.in_ok-strip_prefix.ensures.cases in
    let r = c.in_ok-last.ensures.cases in
    let t = cut_in_two c.args.bytes.now c.in_ok-first.rest.now c.in_ok-strip_prefix.field-0.now p.1 p.2 q.0 q.1 q.2 r.long in
    record { whether = sym t.0; texts = (p.0, r.same ∙ t.1) }

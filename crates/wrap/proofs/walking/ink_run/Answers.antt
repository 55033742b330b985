use Rattle.std.proofs.Common.{sym, ◌∙◌, arith}
use Rattle.wrap.proofs.Steps.{run_start, run_more, run_none, run_other}
use Rattle.wrap.proofs.walking.ink_run.Goals as goal

pub loop-decoded-init : goal.loop-decoded-init
loop-decoded-init g c = (λ cs s. run_start (g.S.Characters.stands c.args.source.now) c.args.place cs s, omega arith, λ h. h)

pub loop-decoded-preserved : goal.loop-decoded-preserved
loop-decoded-preserved g c =
    let i = c.loop-decoded.invariant in
    let w = c.in-Some.ensures.within in
    let e = c.in-Ink.ensures.class in (
      λ cs s. run_more (g.S.Characters.stands c.args.source.now) cs c.loop-decoded.end c.loop-decoded.length c.in-Some.decoded (sym e) c.in-Some.ensures.character (i.0 cs s),
      omega (arith, i.1, w.some),
      λ h. w.before,
    )

pub returns-in_default : goal.returns-in_default
returns-in_default g c =
    let i = c.loop-decoded.invariant in
    record {
      run = λ cs s. let a = run_none (g.S.Characters.stands c.args.source.now) cs c.loop-decoded.end c.loop-decoded.length c.in_default.ensures.character (i.0 cs s) in record { long = a.long; behind = a.behind };
      ahead = i.1;
      within = i.2;
    }

pub returns-in_default-class_of : goal.returns-in_default-class_of
returns-in_default-class_of g c =
    let i = c.loop-decoded.invariant in
    record {
      run = λ cs s. let a = run_other (g.S.Characters.stands c.args.source.now) cs c.loop-decoded.end c.loop-decoded.length c.in-Some.decoded (λ e. c.in_default-class_of.not-Ink (c.class_of.ensures.class ∙ e)) c.in-Some.ensures.character (i.0 cs s) in record { long = a.long; behind = a.behind };
      ahead = i.1;
      within = i.2;
    }

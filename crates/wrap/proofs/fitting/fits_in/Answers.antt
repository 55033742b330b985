use Rattle.std.proofs.Common.{sym}
use Rattle.wrap.proofs.Fits.{fit_all, fit_more, fit_not, fit_start}
use Rattle.wrap.proofs.Flowing.{fits_inside, ink_in_order, one_to_a_cell, reading_order}
use Rattle.wrap.proofs.fitting.fits_in.Goals as goal

pub loop-word-init : goal.loop-word-init
loop-word-init g c =
    let at = c.start-cursor.result in
    λ cs s. fit_start (g.S.Characters.stands c.args.source.now) c.args.height c.args.width at.place at.row at.column cs c.start-cursor.ensures s

pub loop-word-preserved : goal.loop-word-preserved
loop-word-preserved g c =
    let at = c.loop-word.cursor in
    let next = c.behind-cursor.result in
    let e = c.behind-cursor.ensures in
    λ cs s. let left = c.loop-word.invariant cs s in
    fit_more (g.S.Characters.stands c.args.source.now) c.args.height c.args.width at.place at.row at.column cs c.in-Some.word next.place next.row next.column e.0 e.1 e.2 (sym c.if-not-is_inside.ensures) left (c.in-Some.ensures.word left.rest left.stands)

pub returns-then-not-is_inside : goal.returns-then-not-is_inside
returns-then-not-is_inside g c =
    let at = c.loop-word.cursor in
    record {
      answer = λ cs s. let left = c.loop-word.invariant cs s in
          fit_not (g.S.Characters.stands c.args.source.now) c.args.height c.args.width at.place at.row at.column cs c.in-Some.word (sym c.if-not-is_inside.ensures) left (c.in-Some.ensures.word left.rest left.stands);
      inside = fits_inside;
      order = reading_order;
      apart = one_to_a_cell;
      ink = ink_in_order;
    }

pub returns : goal.returns
returns g c =
    let at = c.loop-word.cursor in
    record {
      answer = λ cs s. let left = c.loop-word.invariant cs s in
          fit_all (g.S.Characters.stands c.args.source.now) c.args.height c.args.width at.place at.row at.column cs left (c.in_default.ensures.word left.rest left.stands);
      inside = fits_inside;
      order = reading_order;
      apart = one_to_a_cell;
      ink = ink_in_order;
    }

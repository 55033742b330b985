use Rattle.std.proofs.Common.{refl}
use Rattle.field.specs.Areas.{Area, area_of}
use Rattle.wrap.specs.Flow.{blank_in}
use Rattle.wrap.proofs.Painting.{added_last, fill_kept, kept_more, last_shows, none_shows_blank, text_all, text_more, text_start}
use Rattle.wrap.proofs.grid.Grid.print.Goals as goal

pub loop-word-init : goal.loop-word-init
loop-word-init g c =
    let at = c.start-cursor.result in
    (λ cs s. text_start (g.S.Characters.stands c.args.source.now) (area_of c.args.rectangle) c.args.formatting at.place at.row at.column cs c.clear.new.self c.start-cursor.ensures s, λ l k p q e. refl)

pub loop-word-preserved : goal.loop-word-preserved
loop-word-preserved g c =
    let a : Area = area_of c.args.rectangle in
    let at = c.loop-word.cursor in
    let next = c.behind-cursor.result in
    let e = c.behind-cursor.ensures in
    let i = c.loop-word.invariant in
    let after = c.print_word.new.self in (
      λ cs s. let left = i.0 cs s in
          text_more (g.S.Characters.stands c.args.source.now) a c.args.formatting at.place at.row at.column cs c.clear.new.self c.loop-word.self after c.in-Some.word next.place next.row next.column e.0 e.1 e.2 left (c.in-Some.ensures.word left.rest left.stands) c.print_word.ensures.printed,
      kept_more a c.clear.new.self c.loop-word.self after i.1 c.print_word.ensures.kept,
    )

pub returns : goal.returns
returns g c =
    let a : Area = area_of c.args.rectangle in
    let at = c.loop-word.cursor in
    let i = c.loop-word.invariant in
    record {
      printed = λ cs s. let left = i.0 cs s in
          text_all (g.S.Characters.stands c.args.source.now) a c.args.formatting at.place at.row at.column cs c.args.self.now c.clear.new.self c.loop-word.self c.clear.ensures left (c.in_default.ensures.word left.rest left.stands);
      kept = kept_more a c.args.self.now c.clear.new.self c.loop-word.self (fill_kept a (blank_in c.args.formatting) c.args.self.now c.clear.new.self c.clear.ensures) i.1;
      added = added_last;
      last = last_shows;
      none = none_shows_blank;
    }

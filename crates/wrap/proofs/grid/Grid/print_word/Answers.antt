use Rattle.std.proofs.Common.{◌+◌, ◌<◌, ◌≤◌, [], ◌∷◌, length, refl, arith}
use Rattle.field.specs.Areas.{Area, area_of}
use Rattle.wrap.proofs.Painting.{kept_more, paint_kept, word_all, word_ended, word_more, word_start}
use Rattle.wrap.proofs.grid.Grid.print_word.Goals as goal

pub loop-at-init : goal.loop-at-init
loop-at-init g c =
    let word = c.args.word in
    (λ cs rest s e. word_start (g.S.Characters.stands c.args.source.now) (area_of c.args.frame.rectangle) c.args.frame.formatting word.row word.column word.start cs rest c.args.self.now s, λ l k p q e. refl)

pub returns-in_default : goal.returns-in_default
returns-in_default g c =
    let word = c.args.word in
    let i = c.loop-at.invariant in
    record {
      printed = λ cs rest s e.
          let h : c.loop-at.at < length cs = omega (arith, e, c.loop-at-test.true) in
          word_ended (g.S.Characters.stands c.args.source.now) (area_of c.args.frame.rectangle) c.args.frame.formatting word.row word.column c.loop-at.at c.loop-at.place cs rest c.args.self.now c.loop-at.self h c.in_default.ensures.character (i.0 cs rest s e);
      kept = i.1;
    }

pub loop-at-preserved : goal.loop-at-preserved
loop-at-preserved g c =
    let word = c.args.word in
    let i = c.loop-at.invariant in
    let a : Area = area_of c.args.frame.rectangle in
    let was = c.args.self.now in
    let before = c.loop-at.self in
    let after = c.print_character.new.self in
    let d = c.in-Some.decoded in (
      λ cs rest s e.
          let h : c.loop-at.at < length cs = omega (arith, e, c.loop-at-test.true) in
          word_more (g.S.Characters.stands c.args.source.now) a c.args.frame.formatting word.row word.column c.loop-at.at c.loop-at.place cs rest was before after d h c.in-Some.ensures.character c.print_character.ensures (i.0 cs rest s e),
      kept_more a was before after i.1 (paint_kept a c.args.frame.formatting (record { row = word.row; column = word.column + c.loop-at.at; character = d.character } ∷ []) before after c.print_character.ensures),
    )

pub returns : goal.returns
returns g c =
    let word = c.args.word in
    let i = c.loop-at.invariant in
    record {
      printed = λ cs rest s e.
          let h : length cs ≤ c.loop-at.at = omega (arith, e, c.loop-at-test.false) in
          word_all (g.S.Characters.stands c.args.source.now) (area_of c.args.frame.rectangle) c.args.frame.formatting word.row word.column c.loop-at.at c.loop-at.place cs rest c.args.self.now c.loop-at.self h (i.0 cs rest s e);
      kept = i.1;
    }

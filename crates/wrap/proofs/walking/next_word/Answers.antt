use Rattle.std.proofs.Common.{◌+◌, false, cond, ltb, sym, refl, arith}
use Rattle.wrap.specs.declared.classes.CharacterClass.TheVariants.{Blank, LineFeed}
use Rattle.wrap.specs.Flow.{words}
use Rattle.wrap.proofs.Steps.{left_cursor, left_more, left_none, left_word, words_class}
use Rattle.wrap.proofs.walking.next_word.Goals as goal

pub loop-decoded-init : goal.loop-decoded-init
loop-decoded-init g c = (λ cs s. record { rest = cs; stands = s; same = refl }, omega arith)

pub returns-in-Ink : goal.returns-in-Ink
returns-in-Ink g c =
    let i = c.loop-decoded.invariant in
    let at = c.loop-decoded.cursor in
    let d = c.in-Some.decoded in
    let w = c.in-Some.ensures.within in
    record {
      word = λ cs s. left_word (g.S.Characters.stands c.args.source.now) c.args.width at.place at.row at.column d c.put_word.result (words c.args.width false c.args.from.row c.args.from.column cs) (sym c.in-Ink.ensures.class) c.in-Some.ensures.character c.put_word.ensures.word (i.0 cs s);
      ahead = (omega (arith, i.1, c.put_word.ensures.ahead), c.put_word.ensures.within w.before);
    }

pub loop-decoded-preserved-in-Blank : goal.loop-decoded-preserved-in-Blank
loop-decoded-preserved-in-Blank g c =
    let i = c.loop-decoded.invariant in
    let at = c.loop-decoded.cursor in
    let d = c.in-Some.decoded in
    let st = g.S.Characters.stands c.args.source.now in
    let w = c.args.width in
    let column = cond (ltb at.column w) (at.column + 1) at.column in
    let e = c.over_blank-cursor.ensures in
    let next = c.over_blank-cursor.result in (
      λ cs s. left_cursor st w (at.place + d.length) at.row column next.place next.row next.column (words w false c.args.from.row c.args.from.column cs) e.0 e.1 e.2
          (left_more st w at.place at.row at.column at.row column d (words w false c.args.from.row c.args.from.column cs) c.in-Some.ensures.character
          (λ ds. words_class w false at.row at.column d.character ds Blank (sym c.in-Blank.ensures.class)) (i.0 cs s)),
      omega (arith, i.1, e.0),
    )

pub loop-decoded-preserved : goal.loop-decoded-preserved
loop-decoded-preserved g c =
    let i = c.loop-decoded.invariant in
    let at = c.loop-decoded.cursor in
    let d = c.in-Some.decoded in
    let st = g.S.Characters.stands c.args.source.now in
    let w = c.args.width in
    let e = c.over_line_feed-cursor.ensures in
    let next = c.over_line_feed-cursor.result in (
      λ cs s. left_cursor st w (at.place + d.length) (at.row + 1) 0 next.place next.row next.column (words w false c.args.from.row c.args.from.column cs) e.0 e.1 e.2
          (left_more st w at.place at.row at.column (at.row + 1) 0 d (words w false c.args.from.row c.args.from.column cs) c.in-Some.ensures.character
          (λ ds. words_class w false at.row at.column d.character ds LineFeed (sym c.in-LineFeed.ensures.class)) (i.0 cs s)),
      omega (arith, i.1, e.0),
    )

pub returns : goal.returns
returns g c =
    let at = c.loop-decoded.cursor in
    record {
      word = λ cs s. left_none (g.S.Characters.stands c.args.source.now) c.args.width at.place at.row at.column (words c.args.width false c.args.from.row c.args.from.column cs) c.in_default.ensures.character (c.loop-decoded.invariant.0 cs s);
      ahead = tt;
    }

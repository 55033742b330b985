use Rattle.std.proofs.Common.{◌≡◌, ◌+◌, ◌-◌, ◌*◌, length, replicate, ap, ◌∙◌, arith, rules}
use borrow.Rule.Slice.PartMut.{mid_of, put_mid}
use Rattle.wrap.proofs.Painting.{line_filled}
use Rattle.wrap.proofs.grid.Grid.fill_line.Goals as goal

pub returns : goal.returns
returns c =
    let first = c.args.line * 72 + c.args.column in
    let width = c.args.width in
    let n : first + width - first ≡ width = omega arith in
    let long : length (mid_of first width c.args.self.now.cells) ≡ width = search rules in
    let e = c.fill.ensures.after (λ y h. h) ∙ ap (λ k. replicate (length (mid_of first k c.args.self.now.cells)) c.args.cell) n ∙ ap (λ k. replicate k c.args.cell) long in
    line_filled c.args.line c.args.column width c.args.cell c.args.self.now _ c.requires.0 c.requires.1 (search rules)
    (ap (λ k. put_mid first k c.args.self.now.cells c.fill.new.self) n ∙ ap (put_mid first width c.args.self.now.cells) e)

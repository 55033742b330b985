use Rattle.std.proofs.Common.{◌+◌, ◌*◌, ltb, rules}
use Rattle.std.proofs.lemmas.Bool.{and_parts, ltb-true}
use Rattle.page.specs.Sizes.{inside}
use Rattle.page.proofs.Places.{index_at, stored_set}
use Rattle.page.proofs.grid.GridPage.place.Goals as goal

pub returns-clause-cells : goal.returns-clause-cells
returns-clause-cells g c =
    let m = g.M.CellMemory in let p = c.args.self.now in let s = p.size in
    let line = c.args.line in let column = c.args.column in
    let at = index_at (inside s line column) c.in_ok-index.index (line * s.columns + column) (search rules) in
    let within = ltb-true column s.columns (and_parts (ltb line s.lines) (ltb column s.columns) at.0).1 in
    λ l k _ q. stored_set s.columns c.in_ok-index.index (m.stored p.memory) (m.stored c.store.new.self) line column
    c.args.cell at.1 within c.store.ensures.cells l k q

use Rattle.std.proofs.Common.{◌+◌, ◌*◌, ◌<◌, get_or, ap, ◌∙◌, arith}
use Rattle.std.proofs.lemmas.List.{get_or-replicate}
use Rattle.page.specs.Cells.{blank}
use Rattle.wrap.proofs.grid.Grid.new.Goals as goal

pub returns : goal.returns
returns c =
    record { cells = λ l k p q. let h : l * 72 + k < 1080 = omega arith in ap (λ cells. get_or cells (l * 72 + k) (record { character = 0; formatting = 0 })) c.blank_cells.ensures ∙ get_or-replicate 1080 (l * 72 + k) blank (record { character = 0; formatting = 0 }) h }

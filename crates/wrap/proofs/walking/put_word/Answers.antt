use Rattle.std.proofs.Common.{◌≡◌, ◌+◌, ◌∷◌, length, sym, ◌∙◌, subst, arith}
use Rattle.wrap.specs.Classes.{take_ink, drop_ink}
use Rattle.wrap.proofs.Steps.{arrived}
use Rattle.wrap.proofs.walking.put_word.Goals as goal

pub returns : goal.returns
returns g c =
    let at = c.args.first.from in
    let st = g.S.Characters.stands c.args.source.now in
    let r = c.place_word.result in
    let e = c.place_word.ensures.place in
    record {
      word = λ x cs k here there.
          let run = c.ink_run-behind.ensures.run cs there in
          let l : 1 + c.ink_run-behind.result.length ≡ length (x ∷ take_ink cs) = omega (arith, run.long) in
          arrived st c.args.width at.row at.column x cs r k (subst (λ n. st n (x ∷ cs)) (sym e.0) here) (subst (λ n. st n (drop_ink cs)) (sym e.1) run.behind) (c.place_word.ensures.put (x ∷ take_ink cs) l) (e.2 ∙ l);
      ahead = omega (arith, e.1, c.ink_run-behind.ensures.ahead, c.args.first.ahead);
      within = λ h. omega (arith, e.1, c.ink_run-behind.ensures.within h);
    }

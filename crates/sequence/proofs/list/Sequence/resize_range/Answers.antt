use Rattle.std.proofs.Common.{◌≡◌, ◌+◌, ◌-◌, ◌≤◌, length, take, drop, sym, ap, ◌∙◌, arith, rules}
use lib.Seq.{paste}
use Rattle.std.proofs.lemmas.List.{length-take-le}
use Rattle.sequence.specs.Parts.{part, spliced}
use Rattle.sequence.specs.Held.{held}
use Rattle.sequence.proofs.PartLaws.{length_part}
use Rattle.sequence.proofs.FrontLaws.{front_resized}
use Rattle.sequence.proofs.PieceLaws.{pieces_spliced, pieces_added}
use Rattle.sequence.proofs.list.Sequence.resize_range.Goals as goal

pub returns : goal.returns
returns g c =
    let s = c.args.self.now in
    let xs = s.items.now in
    let h = held s in
    let p = c.args.place in
    let old = c.args.old_count in
    let new = c.args.new_count in
    let within : p + old ≤ s.len = search rules in
    let room : s.len - old + new ≤ length xs = search rules in
    let long : length (part p new xs) ≡ new = length_part p new xs (omega arith) in
    let end : c.move_tail.new.self.len ≡ p + new + (s.len - (p + old)) = c.move_tail.ensures.len in
    let holds : held c.move_tail.new.self ≡ spliced p old (part p new xs) h =
    ap (take c.move_tail.new.self.len) c.move_tail.ensures.entries
    ∙ ap (λ m. take m (paste xs (p + new) (drop (p + old) xs) (s.len - (p + old)))) end
    ∙ front_resized p old new s.len s.len xs (sym (length-take-le s.len xs s.within)) within room in
    record {
      holds = (part p new xs, long, holds);
      pieces = λ ps n l. (part p new xs, long, holds ∙ pieces_spliced ps n h p old (part p new xs) l);
      added = λ ps e at. (part p new xs, long, holds ∙ pieces_added ps h p old (part p new xs) e at);
      told = search rules;
      room = search rules;
      refused = search rules;
    }

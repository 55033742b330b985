use Rattle.std.proofs.Common.{codes, replicate, refl, ◌∙◌, arith}
use Rattle.lists.proofs.Laws.{filled_none, filled_overlaid, filled_whole}
use Rattle.octets.specs.Digits.{digits}
use Rattle.head.specs.Heads.{edition_bytes}
use Rattle.head.proofs.HeadLaws.{join_items}
use Rattle.head.proofs.codec.head_record.Goals as goal

pub returns : goal.returns
returns c =
    let h = c.args.items.now in
    let none = filled_none (replicate 53 0) 0 in
    let start = filled_overlaid 12 (codes "U_HEAD010041") none c.lay.ensures.after refl refl (omega arith) in
    let carrier = filled_overlaid 16 (digits 4 h.carrier) start c.lay-2.ensures.after c.number_digits.ensures refl (omega arith) in
    let key = filled_overlaid 36 h.key carrier c.lay-3.ensures.after refl (omega arith) (omega arith) in
    let edition = filled_overlaid 48 (edition_bytes h.edition) key c.lay-4.ensures.after c.edition_record.ensures refl (omega arith) in
    let flags = filled_overlaid 49 (digits 1 h.flags) edition c.lay-5.ensures.after c.number_digits-2.ensures refl (omega arith) in
    let language = filled_overlaid 51 h.language flags c.lay-6.ensures.after refl (omega arith) (omega arith) in
    let second = filled_overlaid 53 h.second_language language c.lay-7.ensures.after refl (omega arith) (omega arith) in
    filled_whole second ∙ join_items h

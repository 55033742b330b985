use Rattle.std.proofs.Common.{sym, ◌∙◌}
use Rattle.validity.proofs.ZoneAnswers.{kind_law, netz_in, set_law, words_in}
use Rattle.validity.proofs.zone_text.zones_of_text.Goals as goal

pub returns-then-is_netz : goal.returns-then-is_netz
returns-then-is_netz g c =
    let k = c.args.code.now in
    record {
      answer = netz_in (g.C.ReadingCode.spells k) c.args.bytes.now c.all_zones.result (g.met.C.ReadingCode.short k) (g.met.C.ReadingCode.apart k) (g.met.C.ReadingCode.plain k) (sym c.is_netz.ensures ∙ c.if-is_netz.true) c.all_zones.ensures;
      kinds = kind_law;
      sets = set_law;
    }

pub returns : goal.returns
returns g c =
    let k = c.args.code.now in
    record {
      answer = words_in (g.C.ReadingCode.spells k) c.args.bytes.now c.listed_words.result c.zones_of_words.result (g.met.C.ReadingCode.short k) (g.met.C.ReadingCode.apart k) (g.met.C.ReadingCode.plain k) (sym c.is_netz.ensures ∙ c.if-is_netz.false) c.listed_words.ensures c.zones_of_words.ensures;
      kinds = kind_law;
      sets = set_law;
    }

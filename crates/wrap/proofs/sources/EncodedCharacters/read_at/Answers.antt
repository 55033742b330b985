use Rattle.std.proofs.Common.{◌^◌, ◌<◌, length, rules}
use Rattle.wrap.proofs.Reading.{encoded_read, encoded_within}
use Rattle.wrap.proofs.sources.EncodedCharacters.read_at.Goals as goal

pub returns : goal.returns
returns g c =
    let code = c.args.self.now.code.now in
    let bytes = c.args.self.now.bytes.now in
    let f = g.C.ReadingCode.spells code in
    let m : length bytes < 2 ^ 64 = search rules in
    record {
      character = encoded_read f bytes c.args.place c.decode_at.result (g.met.C.ReadingCode.short code) (g.met.C.ReadingCode.apart code) c.decode_at.ensures.front c.decode_at.ensures.behind;
      within = encoded_within f bytes c.args.place c.decode_at.result (g.met.C.ReadingCode.short code) m c.decode_at.ensures.front c.decode_at.ensures.behind;
    }

use Rattle.std.proofs.Common.{◌-◌, ◌*◌, ◌+◌, None, Some, sym, ◌∙◌, rules}
use Rattle.text_code.proofs.Utf8Bits.{long_missing, long_read, rest_missing, rest_read}
use Rattle.text_code.proofs.utf8.read_long.Goals as goal

pub returns-in_err-get : goal.returns-in_err-get
returns-in_err-get g c = c.from_residual.ensures ∙ sym (long_missing c.args.bytes.now c.args.first c.args.lead g.row.N (search rules))

pub returns-in_err-second : goal.returns-in_err-second
returns-in_err-second g c =
    let l = long_read c.args.bytes.now c.args.first c.args.lead g.row.N _ _ _ c.last_bits.result None (search rules) (search rules) c.second_range.ensures.least c.second_range.ensures.greatest (c.last_bits.ensures.value c.second_range.ensures.whole) (search rules) in
    c.from_residual-in_err-second.ensures ∙ sym l

pub returns-in_err-byte-items : goal.returns-in_err-byte-items
returns-in_err-byte-items g c =
    let l = long_read c.args.bytes.now c.args.first c.args.lead g.row.N _ _ _ c.last_bits.result (Some c.in_ok-second.second) (search rules) (search rules) c.second_range.ensures.least c.second_range.ensures.greatest (c.last_bits.ensures.value c.second_range.ensures.whole) (search rules) in
    let character = (c.args.first - c.args.lead) * 64 + c.in_ok-second.second in
    c.from_residual-in_err-byte-items.ensures ∙ sym (l ∙ rest_missing c.args.bytes.now g.row.N character 2 (g.row.N - 2) (search rules) (search rules))

pub loop-byte-init : goal.loop-byte-init
loop-byte-init g c =
    let l = long_read c.args.bytes.now c.args.first c.args.lead g.row.N _ _ _ c.last_bits.result (Some c.in_ok-second.second) (search rules) (search rules) c.second_range.ensures.least c.second_range.ensures.greatest (c.last_bits.ensures.value c.second_range.ensures.whole) (search rules) in
    record { two = search rules; three = search rules; same = sym l }

pub returns-in_err-character : goal.returns-in_err-character
returns-in_err-character g c =
    let l = rest_read c.args.bytes.now c.in_ok-byte-items.byte-items.now g.row.N c.loop-byte.character c.loop-byte.byte-index _ _ c.last_bits-in-loop-byte.result None (search rules) (search rules) (search rules) c.new.ensures.start c.new.ensures.end (c.last_bits-in-loop-byte.ensures.value c.new.ensures.exhausted) (search rules) in
    c.from_residual-in_err-character.ensures ∙ sym (sym c.loop-byte.invariant.same ∙ l)

pub loop-byte-preserved : goal.loop-byte-preserved
loop-byte-preserved g c =
    let l = rest_read c.args.bytes.now c.in_ok-byte-items.byte-items.now g.row.N c.loop-byte.character c.loop-byte.byte-index _ _ c.last_bits-in-loop-byte.result (Some c.in_ok-character.field-0) (search rules) (search rules) (search rules) c.new.ensures.start c.new.ensures.end (c.last_bits-in-loop-byte.ensures.value c.new.ensures.exhausted) (search rules) in
    record { two = search rules; three = search rules; same = sym l ∙ c.loop-byte.invariant.same }

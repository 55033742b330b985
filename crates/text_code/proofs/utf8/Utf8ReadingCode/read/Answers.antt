use Rattle.std.proofs.Common.{None, sym, ◌∙◌, rules}
use Rattle.text_code.proofs.Utf8Fronts.{front, front_none, front_some}
use Rattle.text_code.proofs.utf8.Utf8ReadingCode.read.Goals as goal

pub returns-in-empty : goal.returns-in-empty
returns-in-empty c = record { front = front c.args.bytes.now None (sym (front_none c.args.bytes.now (search rules))) }

pub returns-in-len1-up : goal.returns-in-len1-up
returns-in-len1-up c =
    record { front = front c.args.bytes.now c.read_form.result (c.read_form.ensures ∙ sym (front_some c.args.bytes.now (search rules))) }

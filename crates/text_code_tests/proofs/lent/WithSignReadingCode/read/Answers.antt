use Rattle.std.proofs.Common.{ap, ◌∙◌, rules}
use Rattle.text_code_tests.specs.OneMore.{sign_read}
use Rattle.text_code_tests.proofs.Signs.{none_above, sign_front}
use Rattle.text_code_tests.proofs.lent.WithSignReadingCode.read.Goals as goal

pub returns-in-128 : goal.returns-in-128
returns-in-128 g c =
    record { front = sign_front (g.S.Sign.sign c.args.self.now.sign) c.args.bytes.now c.read_sign.result (search rules) (search rules) (c.read_sign.ensures ∙ ap sign_read c.sign.ensures) }

pub returns-in_default-byte : goal.returns-in_default-byte
returns-in_default-byte g c = record { front = none_above (g.S.Sign.sign c.args.self.now.sign) c.args.bytes.now (search rules) }

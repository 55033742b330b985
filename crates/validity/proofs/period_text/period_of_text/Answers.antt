use Rattle.std.proofs.Common.{sym, subst}
use Rattle.validity.specs.Periods.{PeriodOf}
use Rattle.validity.proofs.Writings.{in_every_code, period_law, read_in_every_code}
use Rattle.validity.proofs.period_text.period_of_text.Goals as goal

pub returns : goal.returns
returns c =
    let bytes = c.args.bytes.now in
    let a : PeriodOf bytes c.read_period.result = subst (PeriodOf bytes) (sym c.read_period.ensures) (period_law bytes) in
    record { answer = a; codes = in_every_code bytes c.read_period.result a; read = read_in_every_code bytes c.read_period.result a; law = period_law }

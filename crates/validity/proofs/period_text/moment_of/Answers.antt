use Rattle.std.proofs.Common.{◌≡◌, Some, sym, subst, ◌∙◌, rules}
use Rattle.std.proofs.lemmas.Bool.{and_from, false≢true}
use Rattle.calendar.specs.Gregorian.{real_date, real_time}
use Rattle.validity.specs.Periods.{MomentOf, moment_text}
use Rattle.validity.proofs.Writings.{moment_unwritten, moment_written, seconds_unwritten}
use Rattle.validity.proofs.period_text.moment_of.Goals as goal

pub returns-in_err-moment-clause-moment : goal.returns-in_err-moment-clause-moment
returns-in_err-moment-clause-moment c =
    let cs = c.args.text.now in
    let d = c.date_at-date.result in
    let t = c.time_at-time.result in
    subst (MomentOf cs) (sym c.from_residual.ensures)
    (moment_unwritten cs d t c.date_at-date.ensures c.time_at-time.ensures (λ rd rt _. false≢true (c.in_err-moment.ensures.accepts ∙ and_from (real_date d) (real_time t) rd rt)))

pub returns-then-eq-clause-moment : goal.returns-then-eq-clause-moment
returns-then-eq-clause-moment c =
    let cs = c.args.text.now in
    let d = c.date_at-date.result in
    let t = c.time_at-time.result in
    let w : cs ≡ moment_text d t = search rules in
    moment_written cs (Some c.in_ok-moment.moment) d t c.date_at-date.ensures c.time_at-time.ensures w c.in_ok-moment.ensures.accepts c.in_ok-moment.ensures.holds

pub returns-else-eq-clause-moment : goal.returns-else-eq-clause-moment
returns-else-eq-clause-moment c =
    let cs = c.args.text.now in
    let d = c.date_at-date.result in
    let t = c.time_at-time.result in
    let not : cs ≡ moment_text d t → ⊥ = search rules in
    moment_unwritten cs d t c.date_at-date.ensures c.time_at-time.ensures (λ _ _. not)

pub returns-else-eq-clause-seconds : goal.returns-else-eq-clause-seconds
returns-else-eq-clause-seconds c =
    let cs = c.args.text.now in
    let d = c.date_at-date.result in
    let t = c.time_at-time.result in
    let not : cs ≡ moment_text d t → ⊥ = search rules in
    seconds_unwritten cs d t c.date_at-date.ensures c.time_at-time.ensures not

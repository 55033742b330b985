use Rattle.std.proofs.Common.{◌≡◌, ◌+◌, ◌-◌, min, leb, length, Ok, Err, sym, ap, ◌∙◌, arith}
use Rattle.message.proofs.CarriedSteps.{carried_done, carried_full, carried_more, carried_stop}
use Rattle.message.proofs.carried.total_carried.Goals as goal
use Rattle.message.specs.Items.{seen}
use Rattle.message.specs.Totals.{total}
use Rattle.refusal.specs.Chain.{then, demand}
use Rattle.refusal.specs.declared.causes.SheetCause.TheVariants.{TooManyEntries}
use Rattle.refusal.specs.declared.faults.SheetFault.TheVariants.{Own}
use Rattle.std.proofs.lemmas.Result.{err_from_is_err_and}
use Rattle.ticket.specs.Reading.{carried_from}

pub loop-records-init : goal.loop-records-init
loop-records-init c =
    let m = c.args.message.now in
    let room = c.args.room in
    let first = c.of_carried-start.ensures in
    let none : room - room ≡ 0 = omega arith in
    let most : c.args.most - 0 ≡ c.args.most = omega arith in
    let all =
    ap (λ s. seen (total 0 (room - s.room)) (carried_from m s.room (c.args.most - 0) s.number s.place)) first
    ∙ (λ i. seen (total 0 (none i)) (carried_from m room (most i) 2 c.args.place)) in
    (all, (ap (λ s. s.number) first, omega (arith, ap (λ s. s.room) first)))

pub returns-then-message-start : goal.returns-then-message-start
returns-then-message-start c =
    let a = c.loop-records.records in
    let s = c.loop-records.start in
    sym (carried_done c.args.message.now a (c.args.room - s.room) s.room (c.args.most - a) s.number s.place c.if-message-start.true) ∙ c.loop-records.invariant.0

pub returns-in_err-next : goal.returns-in_err-next
returns-in_err-next c =
    let a = c.loop-records.records in
    let s = c.loop-records.start in
    let p = err_from_is_err_and c.from_residual.result c.from_residual.ensures.1 in
    p.1 ∙ ap Err p.2
    ∙ carried_stop c.args.message.now (total a (c.args.room - s.room)) s.room (c.args.most - a) (c.args.most - (a + 1)) s.number s.place c.in_err-next.field-0.0 (omega arith) c.if-message-start.false c.in_err-next.ensures.value
    ∙ c.loop-records.invariant.0

pub loop-records-preserved : goal.loop-records-preserved
loop-records-preserved c =
    let m = c.args.message.now in
    let x = c.in_ok-next.next in
    let n = length x.body.bytes.now in
    let a = c.loop-records.records in
    let s = c.loop-records.start in
    let b = c.args.room - s.room in
    let j = c.args.most - (a + 1) in
    let said = c.in_ok-next.ensures in
    let next = c.behind-start.ensures in
    let number : min (s.number + 1) 18446744073709551615 ≡ s.number + 1 = omega (arith, c.loop-records.invariant.1.0) in
    let bytes : c.args.room - (s.room - n) ≡ b + n = omega (arith, c.loop-records.invariant.1.1, said.room) in
    let again =
    ap (λ t. seen (total (a + 1) (c.args.room - t.room)) (carried_from m t.room j t.number t.place)) next
    ∙ ap (λ k. seen (total (a + 1) (c.args.room - (s.room - n))) (carried_from m (s.room - n) j k (x.body.place + n))) number
    ∙ ap (λ d. seen (total (a + 1) d) (carried_from m (s.room - n) j (s.number + 1) (x.body.place + n))) bytes
    ∙ carried_more m a b s.room (c.args.most - a) j s.number s.place x (omega arith) c.if-message-start.false said.behind said.value
    ∙ c.loop-records.invariant.0 in
    let counted : c.behind-start.result.number ≡ 2 + (a + 1) = omega (arith, ap (λ t. t.number) next, number, c.loop-records.invariant.1.0) in
    (again, (counted, omega (arith, ap (λ t. t.room) next, c.loop-records.invariant.1.1)))

-- there is room for no more
pub returns-in_err-demand : goal.returns-in_err-demand
returns-in_err-demand c =
    let m = c.args.message.now in
    let a = c.loop-records.records in
    let s = c.loop-records.start in
    let p = err_from_is_err_and c.from_residual-in_err-demand.result c.from_residual-in_err-demand.ensures.1 in
    let refused = c.in_err-demand.ensures ∙ ap (λ i. demand (leb (length m) s.place) (Own TooManyEntries i)) c.in_record.ensures in
    p.1 ∙ ap Err p.2
    ∙ ap (λ r. then r (λ _. Ok (record { records = a; bytes = c.args.room - s.room }))) refused
    ∙ sym (carried_full m a (c.args.room - s.room) s.room (c.args.most - a) s.number s.place (omega arith))
    ∙ c.loop-records.invariant.0

pub returns : goal.returns
returns c =
    let m = c.args.message.now in
    let a = c.loop-records.records in
    let s = c.loop-records.start in
    let last : a ≡ c.args.most = omega arith in
    let fine = c.in_ok-demand.ensures ∙ ap (λ i. demand (leb (length m) s.place) (Own TooManyEntries i)) c.in_record.ensures in
    ap (λ k. Ok (record { records = k; bytes = c.args.room - s.room })) (sym last)
    ∙ ap (λ r. then r (λ _. Ok (record { records = a; bytes = c.args.room - s.room }))) fine
    ∙ sym (carried_full m a (c.args.room - s.room) s.room (c.args.most - a) s.number s.place (omega arith))
    ∙ c.loop-records.invariant.0

use Rattle.std.proofs.Common.{◌≡◌, ◌+◌, ◌-◌, min, length, Err, sym, ap, ◌∙◌, arith}
use Rattle.message.proofs.FieldSteps.{fields_done, fields_more, fields_stop}
use Rattle.message.proofs.layout.Layout.total_fields.Goals as goal
use Rattle.message.specs.Items.{seen}
use Rattle.message.specs.Totals.{behind}
use Rattle.std.proofs.lemmas.Result.{err_from_is_err_and}
use Rattle.ticket.specs.Reading.{fields_at}

pub loop-init : goal.loop-init
loop-init g c =
    let f = g.C.ReadingCode.spells c.args.code.now in
    let room = c.args.room in
    let first = c.of_fields-start.ensures in
    let none : room - room ≡ 0 = omega arith in
    let count : c.args.count - 0 ≡ c.args.count = omega arith in
    let all =
    ap (λ s. seen (behind s.place (room - s.room)) (fields_at f c.args.self.message.now c.args.self.end s.room (c.args.count - 0) s.number s.place)) first
    ∙ (λ i. seen (behind 73 (none i)) (fields_at f c.args.self.message.now c.args.self.end room (count i) 0 73)) in
    (all, (ap (λ s. s.number) first, omega (arith, ap (λ s. s.room) first)))

pub returns-in_err-field-clause-value : goal.returns-in_err-field-clause-value
returns-in_err-field-clause-value g c =
    let f = g.C.ReadingCode.spells c.args.code.now in
    let s = c.loop.start in
    let left = c.args.count - c.loop.counter in
    let p = err_from_is_err_and c.from_residual.result c.from_residual.ensures.1 in
    p.1 ∙ ap Err p.2
    ∙ fields_stop f c.args.self.message.now c.args.self.end (behind s.place (c.args.room - s.room)) s.room left (left - 1) s.number s.place c.in_err-field.field-0.0 (omega arith) c.in_err-field.ensures.value
    ∙ c.loop.invariant.0

pub loop-preserved : goal.loop-preserved
loop-preserved g c =
    let f = g.C.ReadingCode.spells c.args.code.now in
    let m = c.args.self.message.now in
    let end = c.args.self.end in
    let x = c.in_ok-field.field in
    let n = length x.text.bytes.now in
    let s = c.loop.start in
    let b = c.args.room - s.room in
    let j = c.args.count - (c.loop.counter + 1) in
    let said = c.in_ok-field.ensures in
    let next = c.behind-start.ensures in
    let number : min (s.number + 1) 18446744073709551615 ≡ s.number + 1 = omega (arith, c.loop.invariant.1.0) in
    let bytes : c.args.room - (s.room - n) ≡ b + n = omega (arith, c.loop.invariant.1.1, said.room) in
    let again =
    ap (λ t. seen (behind t.place (c.args.room - t.room)) (fields_at f m end t.room j t.number t.place)) next
    ∙ ap (λ k. seen (behind (x.text.place + n) (c.args.room - (s.room - n))) (fields_at f m end (s.room - n) j k (x.text.place + n))) number
    ∙ ap (λ d. seen (behind (x.text.place + n) d) (fields_at f m end (s.room - n) j (s.number + 1) (x.text.place + n))) bytes
    ∙ fields_more f m end b s.room (c.args.count - c.loop.counter) j s.number s.place x (omega arith) said.value
    ∙ c.loop.invariant.0 in
    let counted = ap (λ t. t.number) next ∙ number ∙ ap (λ k. k + 1) c.loop.invariant.1.0 in
    (again, (counted, omega (arith, ap (λ t. t.room) next, c.loop.invariant.1.1)))

pub returns-clause-value : goal.returns-clause-value
returns-clause-value g c =
    let f = g.C.ReadingCode.spells c.args.code.now in
    let s = c.loop.start in
    sym (fields_done f c.args.self.message.now c.args.self.end (c.args.room - s.room) s.room (c.args.count - c.loop.counter) s.number s.place (omega arith)) ∙ c.loop.invariant.0

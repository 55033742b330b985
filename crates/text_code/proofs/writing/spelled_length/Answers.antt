use Rattle.std.proofs.Common.{◌≡◌, Ok, Err, rules}
use Rattle.text_code.specs.declared.characters.CharacterFault.{CharacterFault}
use Rattle.text_code.proofs.Measuring.{measured_more, measured_all, only_measure, unwritable_at}
use Rattle.text_code.proofs.writing.spelled_length.Goals as goal

pub returns-in_err-length : goal.returns-in_err-length
returns-in_err-length g c =
    let f = g.C.ReadingCode.spells c.args.code.now in
    let w = unwritable_at f c.args.permitted c.args.characters.now c.loop-index.index c.loop-index.length c.loop-index-test.true c.loop-index.invariant (search rules) in
    let fault : CharacterFault = record { place = c.loop-index.index } in
    let e : c.from_residual.result ≡ Err fault = search rules in
    rw e (record { answer = w; only = only_measure f c.args.permitted c.args.characters.now (Err fault) w })

pub loop-index-preserved : goal.loop-index-preserved
loop-index-preserved g c =
    measured_more (g.C.ReadingCode.spells c.args.code.now) c.args.permitted c.args.characters.now c.loop-index.index c.loop-index.length c.in_ok-length.field-0 (g.met.C.ReadingCode.short c.args.code.now) c.loop-index-test.true c.loop-index.invariant (search rules)

pub returns : goal.returns
returns g c =
    let f = g.C.ReadingCode.spells c.args.code.now in
    let a = measured_all f c.args.permitted c.args.characters.now c.loop-index.index c.loop-index.length c.loop-index.invariant c.loop-index-test.false in
    record { answer = a; only = only_measure f c.args.permitted c.args.characters.now (Ok c.loop-index.length) a }

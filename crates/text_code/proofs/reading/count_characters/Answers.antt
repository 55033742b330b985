use Rattle.std.proofs.Common.{◌-◌, length, Ok, Err, arith, rules}
use Rattle.text_code.proofs.Checking.{promised, read_long, checked_none, checked_more, checked_all, faulty_at}
use Rattle.text_code.proofs.reading.count_characters.Goals as goal

pub loop-decoded-init : goal.loop-decoded-init
loop-decoded-init g c = checked_none (g.C.ReadingCode.spells c.args.code.now) c.args.permitted c.args.bytes.now

pub loop-decoded-smaller : goal.loop-decoded-smaller
loop-decoded-smaller g c =
    let h = read_long (g.C.ReadingCode.spells c.args.code.now) c.args.permitted c.loop-decoded.rest.now c.read.result c.in-Some.decoded (g.met.C.ReadingCode.short c.args.code.now) c.read.ensures.front c.in-Some.ensures in
    omega (arith, h)

pub loop-decoded-preserved : goal.loop-decoded-preserved
loop-decoded-preserved g c =
    checked_more (g.C.ReadingCode.spells c.args.code.now) c.args.permitted c.args.bytes.now c.loop-decoded.rest.now c.loop-decoded.characters c.read.result c.in-Some.decoded (g.met.C.ReadingCode.short c.args.code.now) c.loop-decoded.invariant c.read.ensures.front c.in-Some.ensures

pub returns-then-is_empty : goal.returns-then-is_empty
returns-then-is_empty g c =
    let f = g.C.ReadingCode.spells c.args.code.now in
    let a = checked_all f c.args.permitted c.args.bytes.now c.loop-decoded.rest.now c.loop-decoded.characters c.loop-decoded.invariant (search rules) in
    let p = promised f c.args.permitted c.args.bytes.now (Ok c.loop-decoded.characters) (g.met.C.ReadingCode.short c.args.code.now) (g.met.C.ReadingCode.apart c.args.code.now) a in
    record { answer = p.answer; only = p.only; unique = p.unique }

pub returns-else-is_empty : goal.returns-else-is_empty
returns-else-is_empty g c =
    let f = g.C.ReadingCode.spells c.args.code.now in
    let place = length c.args.bytes.now - length c.loop-decoded.rest.now in
    let w = faulty_at f c.args.permitted c.args.bytes.now c.loop-decoded.rest.now c.loop-decoded.characters c.read.result c.loop-decoded.invariant (search rules) c.read.ensures.front c.in_default.ensures in
    let p = promised f c.args.permitted c.args.bytes.now (Err (record { place = place })) (g.met.C.ReadingCode.short c.args.code.now) (g.met.C.ReadingCode.apart c.args.code.now) w in
    record { answer = p.answer; only = p.only; unique = p.unique }

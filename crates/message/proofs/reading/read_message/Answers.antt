use Rattle.std.proofs.Common.{ap, ◌∙◌, arith}
use Rattle.message.proofs.SummaryLaws.{summary_told}
use Rattle.message.proofs.reading.read_message.Goals as goal
use Rattle.ticket.specs.Rooms.{room_of}
use Rattle.message.specs.Summaries.{summary_in}
use Rattle.ticket.proofs.TicketLaws.{accepts_exactly, bytes_determine}

pub returns : goal.returns
returns g c =
    let f = g.C.ReadingCode.spells c.args.code.now in
    let short = g.met.C.ReadingCode.short c.args.code.now in
    let bounded = g.met.C.ReadingCode.bounded c.args.code.now in
    let apart = g.met.C.ReadingCode.apart c.args.code.now in
    let room = room_of c.args.room in
    let m = c.args.message.now in
    record {
      value = c.contents_of.ensures.value ∙ ap (λ r. summary_in f r m) c.capped.ensures ∙ summary_told f short bounded apart room m;
      inside = c.contents_of.ensures.inside;
      exactly = accepts_exactly f short bounded apart room m (omega arith);
      alone = bytes_determine f short bounded apart;
    }

use Rattle.std.proofs.Common.{rules}
use Rattle.head.proofs.HeadLaws.{items_front}
use Rattle.head.proofs.codec.items_at_front.Goals as goal

pub returns-in_err-items : goal.returns-in_err-items
returns-in_err-items c = let e = items_front c.args.message.now in search rules

pub returns : goal.returns
returns c = let e = items_front c.args.message.now in search rules

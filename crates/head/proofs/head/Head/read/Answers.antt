use Rattle.std.proofs.Common.{Ok, sym, rules}
use Rattle.head.proofs.HeadLaws.{head_told}
use Rattle.head.proofs.Promises.{exactly_told}
use Rattle.head.proofs.head.Head.read.Goals as goal

pub returns-in_err-items-clause-exactly : goal.returns-in_err-items-clause-exactly
returns-in_err-items-clause-exactly c = exactly_told c.args.message.now _ (search rules)

pub of-requires : goal.of-requires
of-requires c = (head_told c.args.message.now c.in_ok-items.items (sym c.in_ok-items.ensures)).0

pub returns-clause-exactly : goal.returns-clause-exactly
returns-clause-exactly c = exactly_told c.args.message.now (Ok c.of.result) (search rules)

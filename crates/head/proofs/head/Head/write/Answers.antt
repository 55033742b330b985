use Rattle.head.proofs.Promises.{reads_back_all, alone_all}
use Rattle.head.proofs.head.Head.write.Goals as goal

pub returns-clause-reads_back : goal.returns-clause-reads_back
returns-clause-reads_back c = reads_back_all c.args.self.now.items c.args.self.now.checked

pub returns-clause-alone : goal.returns-clause-alone
returns-clause-alone c = alone_all c.args.self.now.items c.args.self.now.checked

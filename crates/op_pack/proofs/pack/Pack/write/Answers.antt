use Rattle.op_pack.proofs.BackLaws.{back_answer}
use Rattle.op_pack.proofs.pack.Pack.write.Goals as goal

pub returns-clause-reads_back : goal.returns-clause-reads_back
returns-clause-reads_back g c head =
    back_answer g.K.OpKind.meaning g.met.K.OpKind.laws head c.args.self.now.author c.args.self.now.ops c.print.result c.print.ensures.text c.print.ensures.author

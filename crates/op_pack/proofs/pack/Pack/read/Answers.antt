use Rattle.op_pack.proofs.PackLaws.{sound_answer}
use Rattle.op_pack.proofs.RuleLaws.{rules_answer}
use Rattle.op_pack.proofs.pack.Pack.read.Goals as goal

pub returns-clause-sound : goal.returns-clause-sound
returns-clause-sound g c = sound_answer g.K.OpKind.meaning g.met.K.OpKind.laws c.args.head.now c.args.text.now c.parse.result c.parse.ensures

pub returns-clause-rules : goal.returns-clause-rules
returns-clause-rules g c = rules_answer g.K.OpKind.meaning g.met.K.OpKind.laws c.args.head.now c.args.text.now c.parse.result c.parse.ensures

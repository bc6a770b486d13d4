use Rattle.std.proofs.Common.{rules}
use Rattle.op_kind.specs.Answers.{Answers}
use Rattle.op_kind.specs.Common.{common_at, CommonFault}
use Rattle.op_kind.proofs.AnswerLemmas.{sound_answer}
use Rattle.op_kind.proofs.common.read_common.Goals as goal

pub returns-in-Some-clause-sound : goal.returns-in-Some-clause-sound
returns-in-Some-clause-sound c =
    let answer : Answers (common_at c.args.place c.args.text.now) (CommonFault c.args.text.now) c.common_in.result = search rules in
    sound_answer c.args.place c.args.text.now c.common_in.result answer

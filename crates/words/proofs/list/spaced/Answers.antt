use Rattle.std.proofs.Common.{◌∙◌}
use Rattle.std.proofs.lemmas.Result.{IfOk-weaker}
use Rattle.words.proofs.ListLemmas.{spaced-map}
use Rattle.words.proofs.list.spaced.Goals as goal

pub returns : goal.returns
returns c = IfOk-weaker c.join.result _ _ (λ text is. is ∙ spaced-map (λ s. s.now) c.args.arguments.now) c.join.ensures.ok

use Rattle.std.proofs.Common.{◌∙◌, ap₂, max, ◌+◌, Some, sym, subst}
use Rattle.std.proofs.lemmas.Option.{same_Some}
use Rattle.entity_merge.specs.Joins.{DoesWord}
use Rattle.entity_merge.specs.declared.word.Merged.{Merged}
use Rattle.entity_merge.proofs.laws.merge_commits_have_the_clock_of_a_merge.Goals as goal

pub returns-clause-planned : goal.returns-clause-planned
returns-clause-planned g c = λ objects id local remote head author authors clock now plan answers is.
    (subst (λ (word : Merged). DoesWord g.K.OpKind.meaning objects id (Some local) remote author authors clock now word plan.edit plan.create plan.objects) is answers.1).edit_is

pub returns-clause-left : goal.returns-clause-left
returns-clause-left g c = λ before after local remote head author clock now joins. (joins.1.0, joins.1.1, joins.1.2)

pub returns-clause-time : goal.returns-clause-time
returns-clause-time g c = λ objects local remote clock edit one two at_one at_two time.
    time.is ∙ ap₂ (λ a b. max clock (max a b) + 1) (same_Some time.one one (sym time.says_one ∙ at_one)) (same_Some time.two two (sym time.says_two ∙ at_two))

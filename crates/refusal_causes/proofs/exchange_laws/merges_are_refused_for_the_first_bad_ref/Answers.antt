use Rattle.std.proofs.Common.{refl}
use Rattle.repo_steps.specs.declared.refusal.Refusal.TheVariants as refusal
use Rattle.refusal_causes.proofs.RunCauseLemmas.{merge_names_ref, merge_tells_ref}
use Rattle.refusal_causes.proofs.exchange_laws.merges_are_refused_for_the_first_bad_ref.Goals as goal

pub returns-clause-cause : goal.returns-clause-cause
returns-clause-cause c = λ call old new before after path request tells asks reads user is. merge_names_ref call old new before after tells (refusal.Damaged path) is request path asks reads user refl

pub returns-clause-refuses : goal.returns-clause-refuses
returns-clause-refuses c = λ call old new before after answer request word told tells asks reads user barred is. merge_tells_ref call old new before after tells answer is request word told asks reads user barred

use Rattle.std.proofs.Common.{refl, sym, ◌∙◌}
use Rattle.identity.specs.Commits.{no_entry}
use Rattle.identity.proofs.commit.version_name.Goals as goal

pub returns-clause-answers : goal.returns-clause-answers
returns-clause-answers g c = λ tells. (refl, no_entry c.in-Ok.tree (c.in-Ok.ensures.answers tells) (sym c.version_object.ensures ∙ c.in-None.is))

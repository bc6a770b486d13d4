use Rattle.std.proofs.Common.{refl, sym}
use Rattle.bug_edits.specs.NewOps.{new_common}
use Rattle.bug_edits.specs.declared.edit.BugEdit.TheVariants as kind
use Rattle.bug_edits.proofs.EditLemmas.{made_by_row, of_the_moment, seeds_differ}
use Rattle.bug_edits.proofs.laws.operations_are_made_anew.Goals as goal

pub returns-clause-added : goal.returns-clause-added
returns-clause-added c = of_the_moment

pub returns-clause-begun : goal.returns-clause-begun
returns-clause-begun c = λ moment title message. record { time = refl; nonce = refl; bare = refl; no_files = refl }

pub returns-clause-before : goal.returns-clause-before
returns-clause-before c = λ moment title bug op is. (new_common moment 2, sym (made_by_row moment (kind.Title title) bug op is))

pub returns-clause-nonces : goal.returns-clause-nonces
returns-clause-nonces c = seeds_differ

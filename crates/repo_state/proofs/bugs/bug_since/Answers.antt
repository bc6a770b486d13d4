use Rattle.std.proofs.Common.{◌∙◌, rules}
use Rattle.gb_store.specs.Files.{files_of}
use Rattle.repo_state.specs.Bugs.{AreLocal}
use Rattle.repo_state.specs.declared.side.Side.TheVariants as side
use Rattle.repo_state.proofs.ListingLemmas.{ids_of_refs}
use Rattle.repo_state.proofs.SinceLemmas.{rules_of_whole, since_of_a_bug}
use Rattle.repo_state.proofs.bugs.bug_since.Goals as goal

pub returns-in-Ok-clause-answers : goal.returns-in-Ok-clause-answers
returns-in-Ok-clause-answers g c = λ tells listed.
    let files = files_of (g.S.Store.history c.args.disk.now) in
    let folder = c.args.folder.now in
    let authors = c.as_slice.result.now in
    let are : AreLocal files folder authors = ids_of_refs files folder side.Identities c.args.identities.now listed authors (c.as_slice.ensures.value ∙ c.in_ok-authors.ensures) in
    since_of_a_bug files folder c.args.bug.now c.args.known.now authors are c.in-Ok.since (c.in-Ok.ensures.answers tells)

pub returns-in-Ok-clause-rules : goal.returns-in-Ok-clause-rules
returns-in-Ok-clause-rules g c = rules_of_whole c.in-Ok.since c.in-Ok.ensures.rules

pub returns-clause-answers : goal.returns-clause-answers
returns-clause-answers g c = λ tells listed.
    let files = files_of (g.S.Store.history c.args.disk.now) in
    let folder = c.args.folder.now in
    let authors = c.as_slice.result.now in
    let are : AreLocal files folder authors = ids_of_refs files folder side.Identities c.args.identities.now listed authors (c.as_slice.ensures.value ∙ c.in_ok-authors.ensures) in
    search rules

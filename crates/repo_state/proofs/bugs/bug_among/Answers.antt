use Rattle.std.proofs.Common.{[], ◌∷◌, ◌∙◌, rules}
use Rattle.gb_store.specs.Files.{files_of}
use Rattle.object_store.specs.Held.{objects_in}
use Rattle.bug_ops.specs.Kind.{bug_kind}
use Rattle.dag_entity.specs.Entities.{IsEntity}
use Rattle.repo_state.specs.Bugs.{AreLocal}
use Rattle.repo_state.specs.declared.side.Side.TheVariants as side
use Rattle.repo_state.proofs.BugSoundLemmas.{AreLocal-each}
use Rattle.repo_state.proofs.ListingLemmas.{ids_of_refs}
use Rattle.repo_state.proofs.bugs.bug_among.Goals as goal

pub returns-in-Ok-clause-answers : goal.returns-in-Ok-clause-answers
returns-in-Ok-clause-answers g c = λ tells listed.
    let files = files_of (g.S.Store.history c.args.disk.now) in
    let folder = c.args.folder.now in
    let bug = c.args.bug.now in
    let authors = c.as_slice.result.now in
    let are : AreLocal files folder authors = ids_of_refs files folder side.Identities c.args.identities.now listed authors (c.as_slice.ensures.value ∙ c.in_ok-authors.ensures) in
    let read : IsEntity bug_kind (objects_in files folder) bug.id (bug.name ∷ []) authors c.in-Ok.entity = search rules in
    record { authors = authors; locals = AreLocal-each files folder authors are; is = read }

pub returns-clause-answers : goal.returns-clause-answers
returns-clause-answers g c = λ tells listed.
    let files = files_of (g.S.Store.history c.args.disk.now) in
    let folder = c.args.folder.now in
    let authors = c.as_slice.result.now in
    let are : AreLocal files folder authors = ids_of_refs files folder side.Identities c.args.identities.now listed authors (c.as_slice.ensures.value ∙ c.in_ok-authors.ensures) in
    search rules

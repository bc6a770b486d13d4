-- What a bug has since a known commit, by what its entity has.
use Rattle.std.proofs.Common.{ℕ, List, Ok}
use Rattle.gb_text.specs.declared.id.Id.{Id}
use Rattle.gb_text.specs.declared.id.Name.{Name}
use Rattle.gb_store.specs.Files.{Files}
use Rattle.object_store.specs.Held.{objects_in}
use Rattle.bug_ops.specs.Kind.{bug_kind}
use Rattle.bug_ops.specs.declared.op.BugOp.{BugOp}
use Rattle.dag_entity.specs.Entities.{KeepsRules}
use Rattle.dag_entity.specs.Since.{IfPacks, SinceAnswers}
use Rattle.dag_entity.specs.declared.since.Since.{Since}
use Rattle.dag_entity.specs.declared.since.Since.TheVariants as since
use Rattle.repo_state.specs.Bugs.{AreLocal, BugSince, IfWhole}
use Rattle.repo_state.specs.declared.side.HeadEntry.{HeadEntry}
use Rattle.repo_state.proofs.BugSoundLemmas.{AreLocal-each}

pub since_of_a_bug : (files : Files) (folder : List ℕ) (bug : HeadEntry) (known : Name) (authors : List Id) → AreLocal files folder authors → (found : Since BugOp)
    → SinceAnswers bug_kind (objects_in files folder) bug.id bug.name known authors (Ok found) → BugSince files folder bug known (Ok found)
since_of_a_bug files folder bug known authors are since.Same is = is
since_of_a_bug files folder bug known authors are (since.Chain packs) is = is.1
since_of_a_bug files folder bug known authors are (since.Whole entity) is = (is.0, record { authors = authors; locals = AreLocal-each files folder authors are; is = is.1 })

pub rules_of_whole : (found : Since BugOp) → IfPacks (Ok found) (KeepsRules bug_kind) → IfWhole (Ok found) (KeepsRules bug_kind)
rules_of_whole since.Same rules = tt
rules_of_whole (since.Chain packs) rules = tt
rules_of_whole (since.Whole entity) rules = rules

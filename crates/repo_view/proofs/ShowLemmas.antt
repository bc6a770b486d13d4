-- The answers of parts, as answers of `show`.
use Rattle.std.proofs.Common.{◌≡◌, ◌≤◌, ◌+◌, ◌*◌, ◌∙◌, inr, ℕ, List, [], ◌∷◌, length, Ok, Err, sym, subst}
use Rattle.gb_store.specs.Files.{Files, History, files_of}
use Rattle.object_store.specs.Held.{objects_in}
use Rattle.bug_ops.specs.Kind.{bug_kind}
use Rattle.bug_ops.specs.declared.op.BugOp.{BugOp}
use Rattle.snapshot.specs.LastMention.{IsBugList, snapshot_of}
use Rattle.dag_entity.specs.Entities.{KeepsRules, ops_in}
use Rattle.dag_entity.specs.declared.entity.Entity.{Entity}
use Rattle.dag_entity.proofs.LawOrders.{operation_list}
use Rattle.identity.specs.declared.chain.Person.{Person}
use Rattle.render.specs.Show.{show_text_of}
use Rattle.repo_state.specs.Answers.{HasBadPerson, Reads}
use Rattle.ref_store.specs.declared.listing.RefEntry.{RefEntry}
use Rattle.repo_state.specs.Bugs.{FindsBug, IsBug, ReadsBelow}
use Rattle.repo_state.specs.Listed.{AreIdentityRefs}
use Rattle.repo_state.specs.People.{ArePeople}
use Rattle.repo_state.specs.Stops.{find_of_read}
use Rattle.repo_state.specs.declared.side.HeadEntry.{HeadEntry}
use Rattle.repo_state.specs.declared.stop.ReadStop.{ReadStop}
use Rattle.repo_state.specs.declared.stop.ReadStop.TheVariants as read
use Rattle.repo_view.specs.Shown.{ReadsShow, ShowAnswers}
use Rattle.repo_state.proofs.BugListLemmas.{entity_is_bug_list}
use Rattle.repo_state.proofs.PeopleLemmas.{reads_people}

-- what was listed is still so, where nothing was written
pub listed_still : (first now old : History) (folder : List ℕ) (entries refs : List RefEntry) → first ≡ old → now ≡ old → refs ≡ entries → AreIdentityRefs (files_of first) folder entries
    → AreIdentityRefs (files_of now) folder refs
listed_still first now old folder entries refs one two same listed =
    subst (λ (es : List RefEntry). AreIdentityRefs (files_of now) folder es) (sym same) (subst (λ (h : History). AreIdentityRefs (files_of h) folder entries) (one ∙ sym two) listed)

module _ (files : Files) (folder word : List ℕ) where
  -- where the people are not told, a bug with which nothing is wrong isn't
  pub no_people : (bug : HeadEntry) (entity : Entity BugOp) (s : ReadStop) → FindsBug files folder word bug → IsBug files folder bug entity
      → Reads (ArePeople files folder) (HasBadPerson files folder) (Err s) → ShowAnswers files folder word (Err (find_of_read s))
  no_people bug entity read.Memory finds is told = tt
  no_people bug entity read.Disk finds is told = tt
  no_people bug entity (read.Damaged path) finds is told = inr (bug, finds, entity, is, told)

  -- the text of the operations of a bug's packs is the bug as text
  pub bug_shown : (bug : HeadEntry) (entity : Entity BugOp) (people : List Person) (text : List ℕ) → FindsBug files folder word bug → IsBug files folder bug entity
      → KeepsRules bug_kind entity.packs → ArePeople files folder people
      → (IsBugList (ops_in bug_kind entity.packs) → text ≡ show_text_of (snapshot_of (ops_in bug_kind entity.packs)) people) → ShowAnswers files folder word (Ok text)
  bug_shown bug entity people text finds is rules are_people told = (
    bug,
    finds,
    record {
      entity = entity;
      is_bug = is;
      ops = ops_in bug_kind entity.packs;
      are = operation_list bug_kind (objects_in files folder) (bug.name ∷ []) entity.packs is.is.packs;
      begins = begins;
      people = people;
      are_people = are_people;
      is = told begins;
    },
  )
    where
      begins : IsBugList (ops_in bug_kind entity.packs)
      begins = entity_is_bug_list (objects_in files folder) bug.id (bug.name ∷ []) is.authors entity is.is rules

  -- what is read of the bug and then of the people
  pub show_reads : (bug : HeadEntry) (refs : List RefEntry) (before between after : ℕ) → FindsBug files folder word bug → AreIdentityRefs files folder refs
      → ReadsBelow files folder bug before between → after ≤ between + 3 * length refs → ReadsShow files folder word before after
  show_reads bug refs before between after finds listed below few = inr (bug, finds, between, below, reads_people files folder refs listed between after few)

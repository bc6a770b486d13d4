-- What a clock has seen that rises, which row a bug gets, and what each part of soundness says.
use Rattle.std.proofs.Common.{◌≡◌, ◌≢◌, ◌⊎◌, inl, inr, ◌≤◌, ◌<◌, ℕ, List, [], ◌∷◌, Some, ◌∙◌, ap, subst, arith}
use Rattle.gb_text.specs.Digits.{IsId, IsName}
use Rattle.gb_text.specs.declared.id.Id.{Id}
use Rattle.gb_text.specs.declared.id.Name.{Name}
use Rattle.gb_store.specs.Files.{Files, written}
use Rattle.gb_store.specs.declared.store.Change.{Change}
use Rattle.git_object.specs.declared.commit.Commit.{Commit}
use Rattle.git_object.specs.declared.object.Object.{Object}
use Rattle.object_store.specs.Held.{object_at, objects_in}
use Rattle.object_store.specs.Typed.{commit_at}
use Rattle.ref_store.specs.Refs.{Bad, Head}
use Rattle.lamport.specs.Clock.{seen_by}
use Rattle.lamport.specs.declared.clock.TheConstants.{CAP}
use Rattle.bug_ops.specs.Kind.{bug_kind}
use Rattle.bug_ops.specs.declared.op.BugOp.{BugOp}
use Rattle.dag_entity.specs.Entities.{IsOperationList}
use Rattle.dag_entity.specs.Faults.{EntityFaultHolds}
use Rattle.dag_entity.specs.Nodes.{IsNodeBelow}
use Rattle.dag_entity.specs.declared.entity.Loaded.{Loaded}
use Rattle.dag_entity.specs.declared.fault.EntityFault.{EntityFault}
use Rattle.dag_entity.specs.declared.fault.EntityFault.TheVariants.{AuthorUnknown}
use Rattle.identity.specs.Persons.{IsChain}
use Rattle.repo_state.specs.Bugs.{IsLocal}
use Rattle.repo_state.specs.Clocks.{clock_at, clock_write}
use Rattle.repo_state.specs.Rows.{stored_row}
use Rattle.repo_state.specs.Sides.{head_at}
use Rattle.repo_state.specs.Sound.{HasPart, IsAuthoredBug, IsSoundBug, IsSoundIdentity, IsSoundTracking}
use Rattle.repo_state.specs.Sound as parts
use Rattle.repo_state.specs.declared.clocks.ClockFile.{ClockFile}
use Rattle.repo_state.specs.declared.clocks.ClockFile.TheVariants as file
use Rattle.remote_name.specs.declared.remote.RemoteName.{RemoteName}
use Rattle.repo_state.specs.declared.side.HeadEntry.{HeadEntry}
use Rattle.repo_state.specs.declared.side.Side.TheVariants as side
use Rattle.repo_state.proofs.KindLemmas.{clock_at-capped, clock_at-object_write, clock_at-other, clock_at-ref_write, clock_at-row_write, clock_at-set, clock_at-user_write}
use Rattle.repo_writes.specs.Kinds.{IsClockOf, IsWrite}
use Rattle.std.proofs.Math.Nat.{max-le, min-le_right}
use Rattle.repo_writes.proofs.SoundLemmas.{by_kind, row-after}
use Rattle.row_text.specs.Rows.{row_text}
use Rattle.row_text.specs.declared.row.HeadRow.{HeadRow}
use Rattle.snapshot.specs.LastMention.{snapshot_of}

-- ---- a clock that rises

-- a clock that has seen a number is within the cap
seen-capped : (clock number : ℕ) → clock ≤ CAP → seen_by clock number ≤ CAP
seen-capped clock number capped = max-le capped (min-le_right number CAP)

module _ (folder : List ℕ) (files : Files) (change : Change) where
  abbrev Saw : ClockFile → Change → Type 0
  Saw which c = clock_at files folder which < clock_at (written files c) folder which
      → (bug : HeadEntry) × (number : ℕ) × (head_at files folder side.Bugs bug.id ≡ Head bug.name) × IsClockOf which (objects_in files folder) bug.name number
      × (clock_at (written files c) folder which ≡ seen_by (clock_at files folder which) number)

  pub saw : (which : ClockFile) → IsWrite folder files change → Saw which change
  saw which = by_kind folder files change (Saw which)
      (λ w up. absurd (omega (arith, up, clock_at-object_write files folder w.puts.text which)))
      (λ w up. absurd (omega (arith, up, clock_at-ref_write files folder side.Identities w.id w.head which)))
      (λ w up. absurd (omega (arith, up, clock_at-user_write files folder w.id which)))
      (λ w up. absurd (omega (arith, up, clock_at-ref_write files folder side.Bugs w.id w.head which)))
      (λ w. set w.which which w.bug w.number w.is_head w.is (seen-capped _ w.number (clock_at-capped files folder w.which)))
      (λ w up. absurd (omega (arith, up, clock_at-row_write files folder w.id (row_text w.row) which)))
    where
      set : (one two : ClockFile) (bug : HeadEntry) (number : ℕ) → head_at files folder side.Bugs bug.id ≡ Head bug.name → IsClockOf one (objects_in files folder) bug.name number
          → seen_by (clock_at files folder one) number ≤ CAP → Saw two (clock_write folder one (seen_by (clock_at files folder one) number))
      set file.BugsCreate file.BugsCreate bug number head is capped up = (bug, number, head, is, clock_at-set files folder file.BugsCreate _ capped)
      set file.BugsEdit file.BugsEdit bug number head is capped up = (bug, number, head, is, clock_at-set files folder file.BugsEdit _ capped)
      set file.BugsCreate file.BugsEdit bug number head is capped up =
          absurd (omega (arith, up, clock_at-other files folder file.BugsCreate file.BugsEdit (seen_by (clock_at files folder file.BugsCreate) number) (λ e. cc e)))
      set file.BugsEdit file.BugsCreate bug number head is capped up =
          absurd (omega (arith, up, clock_at-other files folder file.BugsEdit file.BugsCreate (seen_by (clock_at files folder file.BugsEdit) number) (λ e. cc e)))

-- ---- a row that is set

pub row_set : (folder : List ℕ) (files : Files) (change : Change) (id : Id) → IsWrite folder files change → IsId id
    → (stored_row (written files change) folder id ≡ stored_row files folder id)
    ⊎ ((row : HeadRow) × (stored_row (written files change) folder id ≡ Some row) × (head_at files folder side.Bugs id ≡ Head row.head)
    × ((stored : HeadRow) → stored_row files folder id ≡ Some stored → stored.head ≢ row.head))
row_set folder files change id wrote is = elim (row-after folder files change id is wrote) [
  | inl same ↦ inl same
  | inr set ↦
      let w = set.0 in
      inr (
        w.row,
        set.2,
        subst (λ (i : Id). head_at files folder side.Bugs i ≡ Head w.row.head) set.1 w.is_head,
        λ stored was. w.is_new stored (ap (stored_row files folder) set.1 ∙ was),
      )
]

-- ---- the parts of soundness

pub objects_kept : (folder : List ℕ) (files : Files) (name : Name) (text : List ℕ) → HasPart parts.Objects folder files → IsName name → objects_in files folder name ≡ Some text
    → (object : Object) × (object_at (objects_in files folder) name ≡ Some object)
objects_kept folder files name text has is stands = has.held name text is stands

pub identities_kept : (folder : List ℕ) (files : Files) (id : Id) (head : Name) → HasPart parts.Identities folder files → IsId id
    → head_at files folder side.Identities id ≡ Head head → IsChain (objects_in files folder) id head
identities_kept folder files id head has is at = subst (IsSoundIdentity (objects_in files folder) id) at (has id is)

pub bugs_kept : (folder : List ℕ) (files : Files) (id : Id) (head : Name) (found : EntityFault) → HasPart parts.Bugs folder files → IsId id
    → head_at files folder side.Bugs id ≡ Head head → ((author : Id) → found ≢ AuthorUnknown author)
    → EntityFaultHolds bug_kind (objects_in files folder) id (head ∷ []) [] found → ⊥
bugs_kept folder files id head found has is at other holds = (subst (IsSoundBug (objects_in files folder) id) at (has id is)) found other holds

pub authors_kept : (folder : List ℕ) (files : Files) (id : Id) (head : Name) (node : Loaded BugOp) → HasPart parts.Authors folder files → IsId id
    → head_at files folder side.Bugs id ≡ Head head → IsNodeBelow bug_kind (objects_in files folder) (head ∷ []) node
    → IsLocal files folder node.placed.pack.author
authors_kept folder files id head node has is at below = let kept : IsAuthoredBug folder files id (Head head) = subst (IsAuthoredBug folder files id) at (has id is) in kept.1 node below

pub tracking_kept : (folder : List ℕ) (remote : RemoteName) (files : Files) (id : Id) (head : Name) → HasPart parts.Tracking folder files → IsId id
    → head_at files folder (side.RemoteBugs remote) id ≡ Head head → (commit : Commit) × (commit_at (objects_in files folder) head ≡ Some commit)
tracking_kept folder remote files id head has is at =
    let both = has remote id is in
    subst (IsSoundTracking (objects_in files folder)) at both.0

pub rows_kept : (folder : List ℕ) (files : Files) (id : Id) (row : HeadRow) → HasPart parts.Rows folder files → IsId id → stored_row files folder id ≡ Some row
    → ((found : EntityFault) → ((author : Id) → found ≢ AuthorUnknown author) → EntityFaultHolds bug_kind (objects_in files folder) id (row.head ∷ []) [] found → ⊥)
    × ((ops : List BugOp) × IsOperationList bug_kind (objects_in files folder) (row.head ∷ []) ops × (row.row ≡ (snapshot_of ops).row))
rows_kept folder files id row has is stored = let row_is = has.1 id is row stored in (row_is.no_fault, (row_is.is.ops, row_is.is.are, row_is.is.is))

pub bugs_by_rows : (folder : List ℕ) (files : Files) → HasPart parts.Rows folder files → HasPart parts.Bugs folder files
bugs_by_rows folder files has = has.0

pub no_bad_ref : (folder : List ℕ) (files : Files) (id : Id) → IsId id
    → (HasPart parts.Identities folder files → head_at files folder side.Identities id ≢ Bad) × (HasPart parts.Bugs folder files → head_at files folder side.Bugs id ≢ Bad)
no_bad_ref folder files id is = (
  λ has at. subst (IsSoundIdentity (objects_in files folder) id) at (has id is),
  λ has at. subst (IsSoundBug (objects_in files folder) id) at (has id is),
)

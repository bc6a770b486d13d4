-- Laws of rows.
use Rattle.std.proofs.Common.{◌≡◌, ℕ, List, [], ◌∷◌, Some, ◌∙◌, ap}
use Rattle.std.specs.Prelude.{Contains}
use Rattle.gb_store.specs.Files.{Files}
use Rattle.object_batch.proofs.ClashLemmas.{Contains-first, Contains-later}
use Rattle.object_store.specs.Held.{objects_in}
use Rattle.bug_ops.specs.Kind.{bug_kind}
use Rattle.bug_ops.specs.declared.op.BugOp.{BugOp}
use Rattle.bug_ops.specs.declared.snapshot.Excerpt.{Excerpt}
use Rattle.dag_entity.specs.Entities.{IsOperationList}
use Rattle.dag_entity.proofs.LawOrders.{one_list}
use Rattle.snapshot.specs.LastMention.{snapshot_of}
use Rattle.repo_state.specs.Rows.{stored_row}
use Rattle.repo_state.specs.Sound.{IsSound}
use Rattle.repo_state.specs.declared.side.HeadEntry.{HeadEntry}
use Rattle.repo_state.proofs.UndamagedLemmas.{no_bad_bug}
use Rattle.row_text.specs.declared.row.HeadRow.{HeadRow}
use Rattle.repo_rows.specs.Reading.{IsHead}
use Rattle.repo_rows.specs.Reads.{ReadsBugs, ReadsRows}
use Rattle.repo_rows.specs.Rows.{HasBadBug, IsRow}

pub row_says : (files : Files) (folder : List ℕ) (bug : HeadEntry) (row : Excerpt) (ops : List BugOp) → IsRow files folder bug row
    → IsOperationList bug_kind (objects_in files folder) (bug.name ∷ []) ops → row ≡ (snapshot_of ops).row
row_says files folder bug row ops is are =
    is.is.is ∙ ap (λ (list : List BugOp). (snapshot_of list).row)
    (one_list bug_kind (objects_in files folder) (objects_in files folder) (bug.name ∷ []) (bug.name ∷ []) is.is.ops ops (λ placed. (λ x. x, λ x. x)) is.is.are are)

pub sound_undamaged : (files : Files) (folder path : List ℕ) → IsSound folder files → HasBadBug files folder path → ⊥
sound_undamaged files folder path sound (id, is_id, damaged, at) = no_bad_bug folder files sound id is_id damaged

-- bugs whose stored rows are of their heads are not read
not_read : (files : Files) (folder : List ℕ) (bugs : List HeadEntry) (before after : ℕ) → ReadsBugs files folder bugs before after
    → ((bug : HeadEntry) → Contains bugs bug → (row : HeadRow) × (stored_row files folder bug.id ≡ Some row) × (row.head ≡ bug.name)) → after ≡ before
not_read files folder [] before after same current = same
not_read files folder (bug ∷ bugs) before after (mid, first, later) current =
    let own = current bug (Contains-first bug bugs) in
    not_read files folder bugs mid after later (λ other has. current other (Contains-later bug bugs other has)) ∙ first.current own.0 own.1 own.2

pub rows_not_read : (files : Files) (folder : List ℕ) (before after : ℕ) → ReadsRows files folder before after
    → ((bug : HeadEntry) → IsHead files folder bug → (row : HeadRow) × (stored_row files folder bug.id ≡ Some row) × (row.head ≡ bug.name)) → after ≡ before
rows_not_read files folder before after reads current = not_read files folder reads.bugs before after reads.reads (λ bug has. current bug (reads.each bug has))

-- The rows of a folder's bugs: what lists show of each, and the row that is stored of it.
use Rattle.std.specs.Prelude.{◌≡◌, ℕ, List, [], ◌∷◌, Option}
use Rattle.gb_text.specs.declared.id.Id.{Id}
use Rattle.gb_text.specs.declared.id.Name.{Name}
use Rattle.gb_store.specs.Files.{Files}
use Rattle.object_store.specs.Held.{Objects as Held}
use Rattle.excerpt_cache.specs.Rows.{row_at}
use Rattle.bug_ops.specs.Kind.{bug_kind}
use Rattle.bug_ops.specs.declared.op.BugOp.{BugOp}
use Rattle.bug_ops.specs.declared.snapshot.Excerpt.{Excerpt}
use Rattle.dag_entity.specs.Entities.{IsOperationList}
use Rattle.row_text.specs.Codec.{row_codec}
use Rattle.row_text.specs.declared.row.HeadRow.{HeadRow}
use Rattle.snapshot.specs.LastMention.{IsBugList, snapshot_of}

-- the row that is stored of a bug, with the head that it was made from
abbrev pub stored_row : Files → List ℕ → Id → Option HeadRow
stored_row files folder id = row_at row_codec files folder id

-- what lists show of a bug at a head: by the operations of the commits below it, in the order of edit clock, pack id and name
pub record IsExcerpt (objects : Held) (head : Name) (row : Excerpt) : Type 0 where
  pub ops : List BugOp
  pub are : IsOperationList bug_kind objects (head ∷ []) ops
  pub begins : IsBugList ops
  pub is : row ≡ (snapshot_of ops).row

-- The names that most proofs here cite, passed on from one place. Declares nothing.
pub use Rattle.gb_text.specs.Digits.{IsId, IsName}
pub use Rattle.gb_text.specs.declared.id.Id.{Id}
pub use Rattle.gb_text.specs.declared.id.Name.{Name}
pub use Rattle.gb_store.specs.Files.{Files, History, files_of, written}
pub use Rattle.gb_store.specs.Moments.{Wrote, WroteSome}
pub use Rattle.gb_store.specs.Turns.{InTurn}
pub use Rattle.gb_store.specs.declared.store.Change.{Change}
pub use Rattle.gb_store.proofs.MomentLemmas.{AllMoments-from_Wrote, Wrote-none, Wrote-one, Wrote-then, Wrote-wider, WroteBy-before, WroteSome-back, WroteSome-there}
pub use Rattle.object_store.specs.Held.{Objects, objects_after, objects_in}
pub use Rattle.object_store.specs.Puts.{object_write}
pub use Rattle.object_batch.specs.Batches.{MayBePut, missing_writes}
pub use Rattle.object_batch.specs.Needs.{PutsAfterNeeds}
pub use Rattle.object_batch.proofs.ClashLemmas.{Contains-first, Contains-later}
pub use Rattle.commit_walk.specs.Below.{IsBelow}
pub use Rattle.commit_walk.proofs.DistinctLemmas.{Contains-one}
pub use Rattle.ref_store.specs.Refs.{Absent, Head}
pub use Rattle.ref_store.specs.Setting.{ref_write}
pub use Rattle.remote_name.specs.declared.remote.RemoteName.{RemoteName}
pub use Rattle.bug_ops.specs.Kind.{bug_kind}
pub use Rattle.bug_ops.specs.Laws.{bug_keeps_laws}
pub use Rattle.bug_ops.specs.declared.op.BugOp.{BugOp}
pub use Rattle.dag_entity.specs.Entities.{IsEntity, IsRootClock}
pub use Rattle.dag_entity.specs.Nodes.{edit_at}
pub use Rattle.dag_entity.specs.declared.entity.Entity.{Entity}
pub use Rattle.entity_merge.specs.Joins.{both_heads, head_of}
pub use Rattle.entity_merge.specs.declared.word.Merged.{Merged}
pub use Rattle.repo_state.specs.Answers.{IsHeadAt}
pub use Rattle.repo_state.specs.Bugs.{EachIsLocal, IsLocal}
pub use Rattle.repo_state.specs.Clocks.{clock_at, clock_write, see_writes}
pub use Rattle.repo_state.specs.Sides.{has_ref, head_at, ref_place}
pub use Rattle.repo_state.specs.declared.clocks.ClockFile.{ClockFile}
pub use Rattle.repo_state.specs.declared.refs.EntityRef.{EntityRef}
pub use Rattle.repo_state.specs.declared.side.HeadEntry.{HeadEntry}
pub use Rattle.repo_state.specs.declared.side.Side.{Side}
pub use Rattle.repo_writes.specs.Kinds.{IsWrite}
pub use Rattle.merge_steps.specs.Merging.{MergeTurn, MergesBug, MergesPerson, merged_writes}
pub use Rattle.merge_steps.specs.declared.line.MergeOutcome.{MergeOutcome}

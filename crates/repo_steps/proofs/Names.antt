-- The names that most proofs here cite, passed on from one place. Declares nothing.
pub use Rattle.bug_edits.specs.EditTable.{edit_op}
pub use Rattle.bug_edits.specs.NewOps.{create_op, edited_comment_op, op_id}
pub use Rattle.bug_edits.specs.declared.edit.BugEdit.{BugEdit}
pub use Rattle.bug_edits.specs.declared.edit.NoChange.{NoChange}
pub use Rattle.bug_ops.specs.Kind.{bug_kind}
pub use Rattle.bug_ops.specs.Laws.{bug_keeps_laws}
pub use Rattle.bug_ops.specs.declared.op.BugOp.{BugOp}
pub use Rattle.commit_walk.proofs.DistinctLemmas.{Contains-nil, Contains-one}
pub use Rattle.commit_walk.specs.declared.below.TheConstants.{MOST_COMMITS}
pub use Rattle.dag_entity.specs.Appending.{appended_node, AreHeld, CanBeRead, MayBeAppended, MayBeWritten, appended_head}
pub use Rattle.dag_entity.specs.Entities.{ops_in, IsEntity}
pub use Rattle.dag_entity.specs.Extending.{extended}
pub use Rattle.dag_entity.specs.Nodes.{edit_at}
pub use Rattle.dag_entity.specs.declared.entity.Entity.{Entity}
pub use Rattle.dag_entity.specs.declared.entity.Loaded.{Loaded}
pub use Rattle.dag_entity.specs.declared.entity.Placed.{Placed}
pub use Rattle.gb_store.proofs.MomentLemmas.{Wrote-then, Wrote-one, Wrote-none, Wrote-wider, WroteBy-before, WroteSome-there}
pub use Rattle.gb_store.specs.Files.{Files, History, files_of, written}
pub use Rattle.gb_store.specs.Moments.{Wrote, at_moment, WroteSome, EachWrite}
pub use Rattle.gb_store.specs.declared.store.Change.{Change}
pub use Rattle.gb_text.specs.Digits.{IsId}
pub use Rattle.gb_text.specs.Folder.{joined}
pub use Rattle.gb_text.specs.declared.decimal.TheConstants.{GREATEST_TIME}
pub use Rattle.gb_text.specs.declared.id.Id.{Id}
pub use Rattle.gb_text.specs.declared.id.Name.{Name}
pub use Rattle.gb_text.specs.declared.ruled.Line.{Line}
pub use Rattle.gb_text.specs.declared.ruled.Message.{Message}
pub use Rattle.gb_text.specs.declared.ruled.Title.{Title}
pub use Rattle.git_object.proofs.NameLaws.{IsName-object_name}
pub use Rattle.git_object.specs.Grammar.{object_name}
pub use Rattle.git_object.specs.declared.commit.Commit.{Commit}
pub use Rattle.hex.specs.Hex.{encode_lower}
pub use Rattle.identity.proofs.IdLemmas.{IsId-version_id}
pub use Rattle.identity.proofs.NoFaultLemmas.{no_fault}
pub use Rattle.identity.specs.Persons.{IsChain}
pub use Rattle.lamport.specs.Clock.{seen_by, root_time_of, edit_time_of}
pub use Rattle.lamport.specs.declared.clock.TheConstants.{CAP}
pub use Rattle.object_batch.proofs.ClashLemmas.{Contains-first, Contains-cons_cases, Contains-later}
pub use Rattle.object_batch.specs.Batches.{missing_writes, MayBePut, CannotHave, HasLong}
pub use Rattle.object_batch.specs.Needs.{PutsAfterNeeds}
pub use Rattle.object_store.proofs.GrowthLemmas.{bind-some}
pub use Rattle.object_store.specs.Held.{objects_in, Objects, objects_after}
pub use Rattle.object_store.specs.Puts.{object_write}
pub use Rattle.object_store.specs.Texts.{IsShort}
pub use Rattle.object_store.specs.Typed.{commit_at}
pub use Rattle.object_store.specs.declared.read.TheConstants.{MOST_BYTES}
pub use Rattle.op_kind.specs.declared.place.Place.{Place}
pub use Rattle.op_pack.specs.Packs.{place_of}
pub use Rattle.ref_store.proofs.MapLemmas.{set_ref_reads, written-other}
pub use Rattle.ref_store.specs.Refs.{Head, Absent}
pub use Rattle.ref_store.specs.Setting.{ref_write}
pub use Rattle.repo_state.proofs.BugLemmas.{head_edit, one_entity}
pub use Rattle.repo_state.proofs.BugSoundLemmas.{IsBug-over}
pub use Rattle.repo_state.proofs.FoundLemmas.{IsLocal-user}
pub use Rattle.repo_state.proofs.KindLemmas.{clock_at-capped, objects-ref_write}
pub use Rattle.repo_state.proofs.PlaceLemmas.{ref-not_object, user-not_object, clock-not_object, ref-not_clock, ref-not_user, same_or_other}
pub use Rattle.repo_state.specs.Bugs.{IsBug, EachIsLocal, IsLocal}
pub use Rattle.repo_state.specs.Clocks.{clock_at, see_writes, clock_place, clock_write, clock_in}
pub use Rattle.repo_state.specs.Comments.{FindsComment, FindsNoComment}
pub use Rattle.repo_state.specs.Finds.{bug_finder, person_finder, Finder}
pub use Rattle.repo_state.specs.Sides.{head_at, ref_place, has_ref, is_there}
pub use Rattle.repo_state.specs.Users.{user_at, User, BadUser, NoUser, UserFound, user_entry, user_place, user_write}
pub use Rattle.repo_state.specs.declared.clocks.ClockFile.{ClockFile}
pub use Rattle.repo_state.specs.declared.side.HeadEntry.{HeadEntry}
pub use Rattle.repo_state.specs.declared.side.Side.{Side}
pub use Rattle.repo_state.specs.declared.stop.Missed.{Missed}
pub use Rattle.repo_steps.specs.Answers.{DoingAnswers, IsStopped}
pub use Rattle.repo_steps.specs.BugDoings.{root_addition, addition_objects, HasBug, HasCommented, HasFound, Growth, bug_of_comment, comment_growth, edit_growth, bug_says, addition_head, op_ids, some_id, addition_writes, later_addition, later_by, longer_bug, new_bug, bug_reads, clock_room, commit_room, new_operation, clock_writes, adds_op}
pub use Rattle.repo_steps.specs.Checks.{FirstFails, AllPass, Check, AreClear}
pub use Rattle.repo_steps.specs.Doing.{names, found, sizes, user_file, fresh, some_user, Doing}
pub use Rattle.repo_steps.specs.Doings.{doing_of, Refused, EditAnswers}
pub use Rattle.repo_steps.specs.PeopleDoings.{new_made, new_objects, HasUser, new_user, version_writes, edited_user, user_chain, new_text, HasBadChain, set_user, user_room, first_user_write, user_writes}
pub use Rattle.repo_steps.specs.Picked.{Picked}
pub use Rattle.repo_steps.specs.Steps.{OnlyChanges, BugBegins, BugGrows, new_version, begun_entity, Steps, first_user, first_user_place}
pub use Rattle.repo_steps.specs.Stops.{of_missed, of_no_change}
pub use Rattle.repo_steps.specs.Writes.{IsWriteOf}
pub use Rattle.repo_steps.specs.declared.env.Env.{Env}
pub use Rattle.repo_steps.specs.declared.plan.Addition.{Addition}
pub use Rattle.repo_steps.specs.declared.refusal.Refusal.{Refusal}
pub use Rattle.repo_steps.specs.declared.refusal.Stop.{Stop}
pub use Rattle.repo_writes.specs.Kinds.{IsWrite, an_object, ref_to}
pub use Rattle.bug_ops.specs.declared.snapshot.Snapshot.{Snapshot}
pub use Rattle.repo_state.specs.declared.comments.CommentEntry.{CommentEntry}
pub use Rattle.snapshot.specs.LastMention.{snapshot_of}
pub use Rattle.words.specs.declared.edit.Edit.{Edit}

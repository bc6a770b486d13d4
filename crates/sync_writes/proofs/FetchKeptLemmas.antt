-- What a fetch keeps of the own folder.
use Rattle.std.proofs.Common.{◌≡◌, ◌≢◌, inl, inr, ℕ, List, ◌++◌, Some, sym, ◌∙◌, ap, subst}
use Rattle.gb_text.specs.Digits.{IsId, IsName}
use Rattle.gb_text.specs.declared.id.Id.{Id}
use Rattle.gb_store.specs.Files.{Files, History, files_of, written}
use Rattle.gb_store.specs.Moments.{AllMoments, WroteBy}
use Rattle.gb_store.specs.declared.store.Change.{Change}
use Rattle.gb_store.proofs.MomentLemmas.{AllMoments-from_WroteBy}
use Rattle.git_object.specs.declared.commit.Commit.{Commit}
use Rattle.git_object.proofs.NameLaws.{IsName-object_name}
use Rattle.object_batch.proofs.LeadLemmas.{held_commit}
use Rattle.object_store.specs.Held.{Objects, objects_in}
use Rattle.object_store.specs.Typed.{commit_at}
use Rattle.object_store.proofs.HeldLemmas.{object_at-is}
use Rattle.ref_store.specs.Setting.{ref_write}
use Rattle.ref_store.proofs.FrameLemmas.{packed_reads-other}
use Rattle.repo_state.proofs.PlaceLemmas.{ref-not_packed}
use Rattle.remote_name.specs.declared.remote.RemoteName.{RemoteName}
use Rattle.repo_state.specs.Sides.{head_at, is_there, ref_place}
use Rattle.repo_state.specs.Sound.{HasPart, HasSoundBugs, IsSoundTracking, KeepsParts, Part}
use Rattle.repo_state.specs.Sound as parts
use Rattle.repo_state.specs.declared.side.Side.{Side}
use Rattle.repo_state.specs.declared.side.Side.TheVariants as side
use Rattle.repo_state.proofs.KindLemmas.{clock_at-ref_write, head_at-other_side, objects-ref_write, stored_row-ref_write, user_at-other_side}
use Rattle.repo_writes.specs.Kept.{IsOwnSide, LosesNothing}
use Rattle.repo_writes.proofs.KeptLemmas.{LosesNothing-none, LosesNothing-then}
use Rattle.sync_steps.specs.Places.{tracking_side}
use Rattle.sync_steps.specs.Writes.{IsTrackingWrite}
use Rattle.sync_steps.specs.declared.line.EntityWord.{EntityWord}
use Rattle.sync_steps.specs.declared.line.EntityWord.TheVariants as word
use Rattle.sync_writes.specs.Kinds.{FetchWrites}
use Rattle.sync_writes.proofs.PutLemmas.{head_at-set, put-keeps, put-loses_nothing}
use Rattle.repo_writes.proofs.StayLemmas.{authored-stays, bug-stays, identity-stays, nothing_lost, rows-stay, same-grew, tracking-stays, whole-stays}

-- ---- the head of a tracking ref

-- what stands for a remote is none of a folder's own sides
tracking_differs : (remote : RemoteName) (entity : EntityWord) (on : Side) → IsOwnSide on → tracking_side remote entity ≢ on
tracking_differs remote word.Identity side.Bugs own e = cc e
tracking_differs remote word.Identity side.Identities own e = cc e
tracking_differs remote word.Bug side.Bugs own e = cc e
tracking_differs remote word.Bug side.Identities own e = cc e
tracking_differs remote _ (side.RemoteBugs other) own e = own
tracking_differs remote _ (side.RemoteIdentities other) own e = own

module _ (own peer : List ℕ) (remote : RemoteName) (files : Files) (change : Change) (w : IsTrackingWrite own peer remote files change) where
  abbrev of : Side
  of = tracking_side remote w.word

  abbrev now : Files
  now = written files (ref_write own (ref_place of w.id) w.head)

  -- objects stay
  objects : objects_in now own ≡ objects_in files own
  objects = objects-ref_write files own of w.id w.head

  -- and so do the folder's own heads
  heads : (on : Side) → IsOwnSide on → (id : Id) → head_at now own on id ≡ head_at files own on id
  heads on mine id = head_at-other_side files own of on w.id id w.head (tracking_differs remote w.word on mine)

  -- the head is a name, since a name holds it
  is_name : IsName w.head
  is_name = let is = object_at-is (objects_in files own) w.head w.held.object w.held.is in subst IsName is.is_named (IsName-object_name is.text)

  -- and it is that of a held commit
  commit : (commit : Commit) × (commit_at (objects_in now own) w.head ≡ Some commit)
  commit = subst (λ (o : Objects). (commit : Commit) × (commit_at o w.head ≡ Some commit)) (sym objects) (held_commit (objects_in files own) w.head w.held)

  -- a tracking ref is as sound as before, or it is the one that was set
  tracking : (on : Side) (id : Id) → IsId id → IsSoundTracking (objects_in files own) (head_at files own on id) → IsSoundTracking (objects_in now own) (head_at now own on id)
  tracking on id is was = elim (head_at-set files own of on w.id id w.head w.is_id is is_name) [
    | inl same ↦ tracking-stays own files now objects on id same was
    | inr set ↦ subst (IsSoundTracking (objects_in now own)) (sym set.2) commit
  ]

  -- each bug is as sound as before
  bugs : HasSoundBugs own files → HasSoundBugs own now
  bugs has = λ id is. bug-stays own files now objects id (heads side.Bugs tt id) (has id is)

  -- each part stays
  track-keeps : (part : Part) → HasPart part own files → HasPart part own now
  track-keeps parts.Objects has = whole-stays own files now objects has
  track-keeps parts.Identities has = λ id is. identity-stays own files now objects id (heads side.Identities tt id) (has id is)
  track-keeps parts.Bugs has = bugs has
  track-keeps parts.Authors has = λ id is.
      authored-stays own files now objects (λ author _ stands. ap is_there (heads side.Identities tt author) ∙ stands) id (heads side.Bugs tt id) (has id is)
  track-keeps parts.Tracking has = λ seen id is. (tracking (side.RemoteBugs seen) id is (has seen id is).0, tracking (side.RemoteIdentities seen) id is (has seen id is).1)
  track-keeps parts.User has = λ bad. has (sym (user_at-other_side files own of w.id w.head (tracking_differs remote w.word side.Identities tt)) ∙ bad)
  track-keeps parts.Packed has = packed_reads-other files (ref_write own (ref_place of w.id) w.head) own (ref-not_packed own of w.id) ∙ has
  track-keeps parts.Rows has = (bugs has.0, rows-stay own files now objects (λ id. stored_row-ref_write files own of w.id id w.head) has.1)

  -- and nothing is lost
  track-loses_nothing : LosesNothing own files now
  track-loses_nothing = nothing_lost own files now (same-grew own files now objects) heads (clock_at-ref_write files own of w.id w.head)

-- ---- over the writes of a fetch

module _ (own peer : List ℕ) (remote : RemoteName) (entry : History) (earlier : List Change) (change : Change) where
  abbrev files : Files
  files = files_of (earlier ++ entry)

  -- each write keeps each part
  pub fetch-keeps : (part : Part) → HasPart part own files → FetchWrites own peer remote entry earlier change → HasPart part own (written files change)
  fetch-keeps part has (inl puts) = put-keeps own files change puts part has
  fetch-keeps part has (inr head) =
      subst (λ (c : Change). HasPart part own (written files c)) (sym head.set.write) (track-keeps own peer remote files change head.set part has)

  -- and loses nothing
  pub fetch-loses_nothing : FetchWrites own peer remote entry earlier change → LosesNothing own files (written files change)
  fetch-loses_nothing (inl puts) = put-loses_nothing own files change puts
  fetch-loses_nothing (inr head) =
      subst (λ (c : Change). LosesNothing own files (written files c)) (sym head.set.write) (track-loses_nothing own peer remote files change head.set)

-- a fetch keeps each part at each moment
pub fetch_keeps_parts : (own peer : List ℕ) (remote : RemoteName) (old new : History) → WroteBy (FetchWrites own peer remote) old new → KeepsParts own old new
fetch_keeps_parts own peer remote old new wrote = λ part good.
    AllMoments-from_WroteBy (FetchWrites own peer remote) (HasPart part own) old new (λ earlier change has may. fetch-keeps own peer remote old earlier change part has may) good wrote

-- and loses nothing
pub fetch_loses_nothing : (own peer : List ℕ) (remote : RemoteName) (old new : History) → WroteBy (FetchWrites own peer remote) old new → AllMoments (LosesNothing own (files_of old)) old new
fetch_loses_nothing own peer remote old new wrote =
    AllMoments-from_WroteBy (FetchWrites own peer remote) (LosesNothing own (files_of old)) old new
    (λ earlier change so_far may.
    let files = files_of (earlier ++ old) in
    LosesNothing-then own (files_of old) files (written files change) so_far (fetch-loses_nothing own peer remote old earlier change may))
    (LosesNothing-none own (files_of old)) wrote

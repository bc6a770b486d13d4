-- A fetch leaves the user, and what ended a call that merges says of the user.
use Rattle.std.proofs.Common.{◌≡◌, inl, inr, ◌++◌, refl, sym, ◌∙◌, ap, subst, ℕ, List, [], Err}
use Rattle.gb_store.specs.Files.{Files, History, files_of, written}
use Rattle.gb_store.specs.Moments.{IsMoment, WroteBy}
use Rattle.gb_store.specs.declared.store.Change.{Change}
use Rattle.gb_store.proofs.MomentLemmas.{AllMoments-from_WroteBy}
use Rattle.gb_store.specs.ObjectPath.{object_place}
use Rattle.gb_text.specs.Folder.{joined}
use Rattle.remote_name.specs.declared.remote.RemoteName.{RemoteName}
use Rattle.repo_state.specs.Users.{BadUser, NoUser, user_at}
use Rattle.repo_state.specs.declared.stop.ReadStop.{ReadStop}
use Rattle.repo_state.specs.declared.stop.ReadStop.TheVariants as read
use Rattle.repo_state.proofs.KindLemmas.{user_at-put, user_at-ref_write}
use Rattle.repo_state.proofs.PlaceLemmas.{object-not_packed, user-not_object}
use Rattle.repo_steps.proofs.Names.{object_name}
use Rattle.merge_steps.specs.Stops.{stop_of_read}
use Rattle.merge_steps.specs.Turns.{MergeAnswers}
use Rattle.merge_steps.specs.declared.stop.MergeStop.TheVariants as merge
use Rattle.merge_steps.specs.declared.stop.TurnStop.TheVariants as turn
use Rattle.sync_steps.specs.Places.{tracking_side}
use Rattle.sync_writes.specs.Kinds.{FetchWrites}

-- the last moment of a call
pub last_moment : (Rule : History → List Change → Change → Type 0) (old new : History) → WroteBy Rule old new → IsMoment old new new
last_moment Rule old new wrote = record { later = []; done = wrote.writes; before = wrote.grew; after = refl }

module _ (own peer : List ℕ) (remote : RemoteName) (old new : History) (sound : user_at (files_of old) own ≡ BadUser → ⊥) where
  -- the user is as it was
  abbrev Same : Files → Type 0
  Same files = user_at files own ≡ user_at (files_of old) own

  -- a write of a fetch leaves it
  leaves : (earlier : List Change) (change : Change) → Same (files_of (earlier ++ old)) → FetchWrites own peer remote old earlier change → Same (written (files_of (earlier ++ old)) change)
  leaves earlier change same (inl puts) =
      let files = files_of (earlier ++ old) in
      let text = puts.1.text in
      let still = user_at-put files own (joined own (object_place (object_name text))) text (λ e. user-not_object own (object_name text) (sym e)) (object-not_packed own (object_name text)) (λ bad. sound (sym same ∙ bad)) in
      subst (λ (c : Change). user_at (written files c) own ≡ user_at (files_of old) own) (sym puts.1.write) (still ∙ same)
  leaves earlier change same (inr head) =
      let files = files_of (earlier ++ old) in
      let still = user_at-ref_write files own (tracking_side remote head.set.word) head.set.id head.set.head (λ bad. sound (sym same ∙ bad)) in
      subst (λ (c : Change). user_at (written files c) own ≡ user_at (files_of old) own) (sym head.set.write) (still ∙ same)

  pub fetch_keeps_user : WroteBy (FetchWrites own peer remote) old new → user_at (files_of new) own ≡ user_at (files_of old) own
  fetch_keeps_user wrote =
      (AllMoments-from_WroteBy (FetchWrites own peer remote) Same old new leaves refl wrote).each new (last_moment (FetchWrites own peer remote) old new wrote)

-- ---- what ended a call

-- a merge is refused for want of a user where there is none
pub no_user : (folder : List ℕ) (remote : RemoteName) (now : ℕ) (old new : History) → MergeAnswers folder remote now old new (Err merge.NoUser) → user_at (files_of old) folder ≡ NoUser
no_user folder remote now old new (inl is) = is.0
no_user folder remote now old new (inr (inl (turn.Memory, told, ended))) = absurd (cc (told))
no_user folder remote now old new (inr (inl (turn.Disk, told, ended))) = absurd (cc (told))
no_user folder remote now old new (inr (inl (turn.Damaged path, told, ended))) = absurd (cc (told))
no_user folder remote now old new (inr (inl (turn.Taken name, told, ended))) = absurd (cc (told))
no_user folder remote now old new (inr (inr (none, between))) = absurd none

-- a fetch that ended a pull ended it by its own stop
pub read_damage : (why : ReadStop) (path : List ℕ) → stop_of_read why ≡ merge.Damaged path → why ≡ read.Damaged path
read_damage read.Memory path e = absurd (cc (e))
read_damage read.Disk path e = absurd (cc (e))
read_damage (read.Damaged at) path e = let same : at ≡ path = cc in ap read.Damaged same

pub read_has_user : (why : ReadStop) → stop_of_read why ≡ merge.NoUser → ⊥
read_has_user read.Memory e = cc (e)
read_has_user read.Disk e = cc (e)
read_has_user (read.Damaged at) e = cc (e)

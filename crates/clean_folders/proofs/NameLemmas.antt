-- A merge or a pull into a sound folder is refused for no taken name, where each text that it may name has its own.
use Rattle.std.proofs.Common.{◌≡◌, ◌⊎◌, ◌<◌, ◌^◌, inl, inr, refl, sym, ◌∙◌, ap, subst, ℕ, IsTrue, List, [], ◌∷◌, Contains, Option, Some, Result, Ok, Err}
use Rattle.std.proofs.lemmas.Option.{same_Some}
use Rattle.gb_text.specs.Overlap.{Overlap}
use Rattle.gb_text.specs.declared.id.Id.{Id}
use Rattle.gb_text.specs.declared.id.Name.{Name}
use Rattle.gb_store.specs.Files.{History, files_of}
use Rattle.git_object.specs.Grammar.{object_name}
use Rattle.git_object.proofs.NameLaws.{IsName-object_name}
use Rattle.object_store.specs.Held.{objects_after}
use Rattle.object_store.proofs.HeldLemmas.{object_at-is}
use Rattle.object_batch.specs.Batches.{CannotHave}
use Rattle.entity_merge.specs.declared.word.Merged.TheVariants as merged
use Rattle.remote_name.specs.declared.remote.RemoteName.{RemoteName}
use Rattle.repo_state.specs.Sound.{IsSound}
use Rattle.repo_state.specs.Sound as parts
use Rattle.repo_state.specs.Users.{User, user_at}
use Rattle.repo_state.specs.declared.refs.EntityRef.{EntityRef}
use Rattle.repo_state.specs.declared.stop.ReadStop.{ReadStop}
use Rattle.repo_state.specs.declared.stop.ReadStop.TheVariants as read
use Rattle.repo_writes.proofs.SoundLemmas.{keeps_parts, keeps_sound}
use Rattle.repo_steps.specs.declared.refusal.Refusal.TheVariants as refusal
use Rattle.repo_steps.specs.declared.refusal.Stop.TheVariants as stop
use Rattle.sync_writes.proofs.FetchKindLemmas.{fetch_writes}
use Rattle.merge_steps.specs.Merging.{HasPlan, IsBarred}
use Rattle.merge_steps.specs.Pulling.{PullAnswers}
use Rattle.merge_steps.specs.Stops.{stop_of_read, stop_of_turn}
use Rattle.merge_steps.specs.Turns.{EndedAtBug, EndedAtPerson, MergeAnswers}
use Rattle.merge_steps.specs.declared.stop.MergeStop.{MergeStop}
use Rattle.merge_steps.specs.declared.stop.MergeStop.TheVariants as merge
use Rattle.merge_steps.specs.declared.stop.TurnStop.{TurnStop}
use Rattle.merge_steps.specs.declared.stop.TurnStop.TheVariants as turn
use Rattle.merge_steps.proofs.MergeWriteLemmas.{merge_wrote}
use Rattle.words.specs.declared.pair.FolderPair.{FolderPair}
use Rattle.words.specs.declared.words.Asked.TheVariants as asked
use Rattle.words.specs.declared.words.MergeRequest.{MergeRequest}
use Rattle.words.specs.declared.words.PeerCommand.TheVariants.{Pull}
use Rattle.bug_run.specs.Answer.{Answer}
use Rattle.bug_run.specs.Exchanges.{Told, answer_of_merge, answer_of_pull, stop_of_merge}
use Rattle.bug_run.specs.Looks.{Guarded, first_unread, pair_looks}
use Rattle.bug_run.specs.Run.{Call, RunAnswers}
use Rattle.bug_run.specs.declared.status.Refused.TheVariants.{ByCommand}
use Rattle.bug_run.specs.declared.status.Status.TheVariants as status
use Rattle.bug_run.proofs.ExchangeLemmas.{apart}
use Rattle.bug_run.proofs.ExchangeWriteLemmas.{in_time}
use Rattle.bug_run.proofs.UserStayLemmas.{fetch_keeps_user}
use Rattle.bug_run.proofs.WordLemmas.{exchanged, merged as merge_asked}
use Rattle.refusal_causes.proofs.RequestLemmas.{refused_was}
use Rattle.operation_origins.proofs.LimitPullLemmas.{fetched_sound}
use Rattle.clean_folders.specs.Names.{HaveOneNameEach, MayBeNamed}

module _ (folder : List ℕ) (remote : RemoteName) (now : ℕ) (moment : now < 2 ^ 64) (base old new : History) (same_user : user_at (files_of old) folder ≡ user_at (files_of base) folder)
    (sound : IsSound folder (files_of old)) (one_each : HaveOneNameEach folder now base new) where
  -- no merge commit is barred in a folder that is sound then
  not_barred : (name : Name) (user : Id) (authors : List Id) (entity : EntityRef) (mid : History) → user_at (files_of old) folder ≡ User user → IsBarred folder user authors now entity name mid new
      → IsSound folder (files_of new) → ⊥
  not_barred name user authors entity mid is_user barred sound_end = by (subst (λ (h : History). CannotHave folder barred.texts h name) (sym barred.same) barred.cannot)
    where
      joins : (text : List ℕ) → Contains barred.texts text → MayBeNamed folder now base new text
      joins text c = inr (record {
        user = user;
        is_user = sym same_user ∙ is_user;
        id = entity.id;
        local = barred.local;
        tracked = barred.tracked;
        authors = authors;
        head = barred.head;
        edit = barred.edit;
        create = barred.create;
        texts = barred.texts;
        plan = subst (λ (h : History). HasPlan folder user authors now entity.id barred.local barred.tracked (merged.Joined barred.head) barred.edit barred.create barred.texts h) (sym barred.same) barred.plan;
        member = c;
      })

      by : CannotHave folder barred.texts new name → ⊥
      by (inl h) =
          let held = (sound_end parts.Objects).held (object_name h.text) h.taken.other (IsName-object_name h.text) h.taken.stands in
          let is = object_at-is (objects_after new folder) (object_name h.text) held.0 held.1 in
          let same : is.text ≡ h.taken.other = same_Some is.text h.taken.other (sym is.stands ∙ h.taken.stands) in
          let named : object_name h.taken.other ≡ object_name h.text = ap object_name (sym same) ∙ is.is_named in
          h.taken.differs (one_each h.taken.other h.text (inl (ap (objects_after new folder) named ∙ h.taken.stands)) (joins h.text h.member) named)
      by (inr h) = h.differ (one_each h.one h.two (joins h.one h.member_one) (joins h.two h.member_two) (h.named_one ∙ sym h.named_two))

  -- so no turn ends a merge for a taken name
  no_turn : (told : Name) (at : TurnStop) → merge.Taken told ≡ stop_of_turn at → IsSound folder (files_of new) → EndedAtPerson folder remote now at old new ⊎ EndedAtBug folder remote now at old new → ⊥
  no_turn told turn.Memory e sound_end ended = cc e
  no_turn told turn.Disk e sound_end ended = cc e
  no_turn told (turn.Damaged path) e sound_end ended = cc e
  no_turn told (turn.Taken name) e sound_end (inl person) = person.ended.ended
  no_turn told (turn.Taken name) e sound_end (inr bug) = not_barred name bug.tracked.user bug.first.authors bug.ended.at bug.ended.mid bug.tracked.is_user bug.ended.ended sound_end

  -- and nothing ends it so
  pub not_taken : (name : Name) → MergeAnswers folder remote now old new (Err (merge.Taken name)) → ⊥
  not_taken name done = by done
    where
      sound_end : IsSound folder (files_of new)
      sound_end =
          let wrote = merge_wrote folder remote now old new (Err (merge.Taken name)) moment done in
          (keeps_sound folder old new (keeps_parts folder old new wrote) sound).each new (record { later = []; done = wrote.writes; before = wrote.grew; after = refl })

      by : MergeAnswers folder remote now old new (Err (merge.Taken name)) → ⊥
      by (inl none) = none
      by (inr (inl (at, e, ended))) = no_turn name at e sound_end ended
      by (inr (inr (none, between))) = none

-- a read is never stopped by a taken name
read_differs : (name : Name) (why : ReadStop) → merge.Taken name ≡ stop_of_read why → ⊥
read_differs name read.Memory e = cc e
read_differs name read.Disk e = cc e
read_differs name (read.Damaged path) e = cc e

-- nor is a pull ended so
pull_not_taken : (own peer : List ℕ) (remote : RemoteName) (now : ℕ) → now < 2 ^ 64 → (old new : History) → (Overlap own peer → ⊥) → IsSound own (files_of old) → HaveOneNameEach own now old new → (name : Name)
    → PullAnswers own peer remote now old new (Err (merge.Taken name)) → ⊥
pull_not_taken own peer remote now moment old new apart sound one_each name (inl none) = none
pull_not_taken own peer remote now moment old new apart sound one_each name (inr (inl is)) = read_differs name is.stop is.is_why
pull_not_taken own peer remote now moment old new apart sound one_each name (inr (inr (fetched, done))) =
    not_taken own remote now moment old done.mid new (fetch_keeps_user own peer remote old done.mid (sound parts.User) (fetch_writes own peer remote apart old done.mid (Ok fetched) done.first))
    (fetched_sound own peer remote old done.mid fetched apart sound done.first) one_each name done.then

-- ---- the runs

-- what is told as a taken name ended the call
taken_end : (name : Name) (why : MergeStop) → stop.Refused (refusal.NameTaken name) ≡ stop_of_merge why → why ≡ merge.Taken name
taken_end name merge.Memory e = absurd (cc e)
taken_end name merge.Disk e = absurd (cc e)
taken_end name merge.NoUser e = absurd (cc e)
taken_end name (merge.Damaged path) e = absurd (cc e)
taken_end name (merge.Taken told) e = let same : told ≡ name = cc e in ap merge.Taken same

told_taken : {Lines : Type 0} (first : Option (List ℕ)) (old new : History) (answer : Lines → Answer) (Answers : Result Lines MergeStop → Type 0) (name : Name)
    → Guarded first (Told answer stop_of_merge Answers) old new (Err (stop.Refused (refusal.NameTaken name))) → Answers (Err (merge.Taken name))
told_taken first old new answer Answers name (inl ((at, unread, told), same)) = absurd (cc told)
told_taken first old new answer Answers name (inr (none, inl (why, ended, told))) = subst (λ (w : MergeStop). Answers (Err w)) (taken_end name why told) ended
told_taken first old new answer Answers name (inr (none, inr memory)) = absurd (cc (memory.0))

module _ (call : Call) (old new : History) (before after : List ℕ) (name : Name) (tells : IsTrue call.store_tells) where
  pub merge_run_not_taken : (request : MergeRequest) → call.asked ≡ asked.Merge request → IsSound request.folder (files_of old) → HaveOneNameEach request.folder call.moment.now old new
      → RunAnswers call old new before after (status.Refused (ByCommand (refusal.NameTaken name))) → ⊥
  merge_run_not_taken request asks sound one_each is =
      let m = merge_asked call request old new before after (status.Refused (ByCommand (refusal.NameTaken name))) asks is in
      let was = refused_was call.sink_tells call.takes_memory before after m.result (refusal.NameTaken name) m.printed in
      let Answers = MergeAnswers request.folder request.remote call.moment.now old new in
      let first = first_unread (files_of old) (request.folder ∷ []) in
      not_taken request.folder request.remote call.moment.now (in_time call.moment) old old new refl sound one_each name
      (told_taken first old new answer_of_merge Answers name (subst (Guarded first (Told answer_of_merge stop_of_merge Answers) old new) was (m.done tells)))

  pub pull_run_not_taken : (pair : FolderPair) (remote : RemoteName) → call.asked ≡ asked.Exchange (record { pair = pair; command = Pull remote }) → IsSound pair.own (files_of old)
      → HaveOneNameEach pair.own call.moment.now old new → RunAnswers call old new before after (status.Refused (ByCommand (refusal.NameTaken name))) → ⊥
  pull_run_not_taken pair remote asks sound one_each is =
      let e = exchanged call (record { pair = pair; command = Pull remote }) old new before after (status.Refused (ByCommand (refusal.NameTaken name))) asks is in
      let was = refused_was call.sink_tells call.takes_memory before after e.result (refusal.NameTaken name) e.printed in
      let Answers = PullAnswers pair.own pair.peer remote call.moment.now old new in
      let first = first_unread (files_of old) (pair_looks (Pull remote) pair (files_of old)) in
      pull_not_taken pair.own pair.peer remote call.moment.now (in_time call.moment) old new (apart pair) sound one_each name
      (told_taken first old new answer_of_pull Answers name (subst (Guarded first (Told answer_of_pull stop_of_merge Answers) old new) was (e.done tells)))

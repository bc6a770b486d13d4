-- What is printed of the lines of an exchange or a merge, and that a sound folder has a line for each entity.
use Rattle.std.proofs.Common.{◌≡◌, ◌<◌, ◌^◌, inl, inr, ℕ, zero, suc, Bool, true, false, IsTrue, ◌⊎◌, List, [], ◌∷◌, ◌++◌, length, take, Contains, Result, Ok, Err, Option, Some, None, refl, sym, ◌∙◌, ap, subst, arith}
use Rattle.std.proofs.lemmas.List.Elements.{Contains-append_right}
use Rattle.gb_text.specs.Digits.{IsId}
use Rattle.gb_text.specs.declared.id.Id.{Id}
use Rattle.gb_text.specs.declared.id.Name.{Name}
use Rattle.gb_store.specs.Files.{Files, History, files_of}
use Rattle.gb_store.specs.Moments.{WroteBy}
use Rattle.object_store.specs.Held.{objects_in}
use Rattle.gb_text.specs.Folder.{joined}
use Rattle.ref_store.specs.Refs.{Ref, Bad, packed_place}
use Rattle.remote_name.specs.declared.remote.RemoteName.{RemoteName}
use Rattle.repo_state.specs.Listed.{AreRefs, ref_with}
use Rattle.repo_state.specs.Sides.{head_at}
use Rattle.repo_state.specs.Sound.{IsSound, IsSoundBug, IsSoundIdentity, IsSoundTracking}
use Rattle.repo_state.specs.Sound as part
use Rattle.repo_state.specs.Users.{NoUser, user_at}
use Rattle.repo_state.specs.declared.refs.EntityRef.{EntityRef}
use Rattle.repo_state.specs.declared.side.Side.{Side}
use Rattle.repo_state.specs.declared.side.Side.TheVariants as side
use Rattle.repo_state.specs.declared.stop.ReadStop.{ReadStop}
use Rattle.repo_state.specs.declared.stop.ReadStop.TheVariants as read
use Rattle.repo_steps.specs.Stops.{stop_of_read}
use Rattle.repo_steps.specs.declared.refusal.Refusal.{Refusal}
use Rattle.repo_steps.specs.declared.refusal.Refusal.TheVariants as refusal
use Rattle.repo_steps.specs.declared.refusal.Stop.{Stop}
use Rattle.repo_steps.specs.declared.refusal.Stop.TheVariants as stop
use Rattle.repo_writes.proofs.SoundLemmas.{keeps_parts, keeps_sound}
use Rattle.merge_steps.specs.Merging.{IsBadTurn}
use Rattle.merge_steps.specs.Pulling.{PullAnswers}
use Rattle.merge_steps.specs.Turns.{MergeAnswers, NotBegun, entities_of as merged_entities}
use Rattle.merge_steps.specs.declared.line.MergeLine.{MergeLine}
use Rattle.merge_steps.specs.declared.line.Pulled.{Pulled}
use Rattle.merge_steps.specs.declared.stop.MergeStop.{MergeStop}
use Rattle.merge_steps.specs.declared.stop.MergeStop.TheVariants as merge
use Rattle.merge_steps.specs.declared.stop.TurnStop.TheVariants as turn
use Rattle.merge_steps.proofs.MergeWriteLemmas.{merge_wrote}
use Rattle.sync_steps.specs.Fetching.{FetchAnswers, IsBadTracking}
use Rattle.sync_steps.specs.Lines.{lines_text_of, refused_in}
use Rattle.sync_steps.specs.Pushing.{IsBadLocal, PushAnswers}
use Rattle.sync_steps.specs.Turns.{are_held, entities_of}
use Rattle.sync_steps.specs.declared.line.Line.{Line}
use Rattle.words.specs.declared.pair.FolderPair.{FolderPair}
use Rattle.words.specs.declared.words.Asked.TheVariants as asked
use Rattle.words.specs.declared.words.MergeRequest.{MergeRequest}
use Rattle.words.specs.declared.words.PeerCommand.{PeerCommand}
use Rattle.words.specs.declared.words.PeerCommand.TheVariants.{Fetch, Pull, Push}
use Rattle.words.specs.declared.words.PeerRequest.{PeerRequest}
use Rattle.bug_run.specs.Answer.{Answer}
use Rattle.bug_run.specs.Exchanges.{ExchangeAnswers, ExchangeWrites, MergeTold, Told, answer_of, answer_of_merge, answer_of_pull, stop_of_merge}
use Rattle.bug_run.specs.Looks.{Guarded, first_unread, pair_looks}
use Rattle.bug_run.specs.Printed.{HasLines, IsTold, Printed}
use Rattle.bug_run.specs.Run.{Call, MergeRequestAnswers, PeerRequestAnswers, PrintedAnswer, RunAnswers, status_for, status_of, text_of}
use Rattle.bug_run.specs.Served.{IsAnsweredBut, IsPeerUnread, MayRefuse, MayRefusePeer}
use Rattle.bug_run.specs.declared.status.Status.{Status}
use Rattle.bug_run.specs.declared.status.Status.TheVariants as status
use Rattle.bug_run.proofs.ExchangeLemmas.{exchange_stays_sound}
use Rattle.bug_run.proofs.ExchangeWriteLemmas.{exchange_wrote, in_time}
use Rattle.bug_run.proofs.LookLemmas.{begun, look_done, peer_unread, refused_by}
use Rattle.bug_run.proofs.ReadLemmas.{never_lines, other_status}
use Rattle.bug_run.proofs.UsageLemmas.{cut_of}
use Rattle.bug_run.proofs.UserStayLemmas.{fetch_keeps_user, last_moment, no_user, read_damage, read_has_user}
use Rattle.bug_run.proofs.WordLemmas.{exchanged, merged, never_by_words, printed_told}

-- ---- lines are printed

-- the status of lines is one by which lines were answered
pub has_lines : (count : ℕ) → HasLines (status_for count)
has_lines zero = inl refl
has_lines (suc count) = inr (suc count, refl)

-- a run that answered lines printed all of them
lines_printed : (tells takes : Bool) (before after : List ℕ) (result : Result Answer Stop) (answer : Status) → HasLines answer
    → Printed tells takes (text_of result) (status_of result) before after answer
    → (said : Answer) × (result ≡ Ok said) × (IsTrue tells → after ≡ before ++ said.text) × (answer ≡ status_for said.refused)
lines_printed tells takes before after (Ok said) answer has (inl h) = (said, refl, h.1, h.0)
lines_printed tells takes before after (Err s) answer has (inl h) = absurd (never_lines s (subst HasLines h.0 has))
lines_printed tells takes before after result answer has (inr (inl h)) = absurd ((other_status answer has).0 h.0)
lines_printed tells takes before after result answer has (inr (inr h)) = absurd ((other_status answer has).1 h.0)

-- so what was answered are these lines
told_lines : {Lines Why : Type 0} (first : Option (List ℕ)) (old new : History) (answer_of_lines : Lines → Answer) (stop_of : Why → Stop) (Answers : Result Lines Why → Type 0) (call : Call)
    (before after : List ℕ) (result : Result Answer Stop) (answer : Status)
    → IsTrue call.sink_tells → HasLines answer → Guarded first (Told answer_of_lines stop_of Answers) old new result → PrintedAnswer call result before after answer
    → (lines : Lines) × Answers (Ok lines) × (after ≡ before ++ (answer_of_lines lines).text) × (answer ≡ status_for (answer_of_lines lines).refused)
told_lines first old new answer_of_lines stop_of Answers call before after result answer prints has told printed =
    let was = lines_printed call.sink_tells call.takes_memory before after result answer has printed in
    let is = begun first (Told answer_of_lines stop_of Answers) old new was.0 (subst (Guarded first (Told answer_of_lines stop_of Answers) old new) was.1 told) in
    (is.0, is.1, was.2 prints ∙ ap (λ (a : Answer). before ++ a.text) is.2, was.3 ∙ ap (λ (a : Answer). status_for a.refused) is.2)

module _ (call : Call) (old new : History) (before after : List ℕ) (answer : Status) (pair : FolderPair) (tells : IsTrue call.store_tells) (prints : IsTrue call.sink_tells) where
  pub fetch_tells : (remote : RemoteName) → call.asked ≡ asked.Exchange (record { pair = pair; command = Fetch remote }) → RunAnswers call old new before after answer → HasLines answer
      → (lines : List Line) × FetchAnswers pair.own pair.peer remote old new (Ok lines) × (after ≡ before ++ lines_text_of lines) × (answer ≡ status_for (refused_in lines))
  fetch_tells remote asks is has =
      let e = exchanged call (record { pair = pair; command = Fetch remote }) old new before after answer asks is in
      told_lines (first_unread (files_of old) (pair_looks (Fetch remote) pair (files_of old))) old new answer_of stop_of_read (FetchAnswers pair.own pair.peer remote old new) call before after e.result answer prints has (e.done tells) e.printed

  pub push_tells : call.asked ≡ asked.Exchange (record { pair = pair; command = Push }) → RunAnswers call old new before after answer → HasLines answer
      → (lines : List Line) × PushAnswers pair.own pair.peer old new (Ok lines) × (after ≡ before ++ lines_text_of lines) × (answer ≡ status_for (refused_in lines))
  push_tells asks is has =
      let e = exchanged call (record { pair = pair; command = Push }) old new before after answer asks is in
      told_lines (first_unread (files_of old) (pair_looks Push pair (files_of old))) old new answer_of stop_of_read (PushAnswers pair.own pair.peer old new) call before after e.result answer prints has (e.done tells) e.printed

  pub pull_tells : (remote : RemoteName) → call.asked ≡ asked.Exchange (record { pair = pair; command = Pull remote }) → RunAnswers call old new before after answer → HasLines answer
      → (pulled : Pulled) × PullAnswers pair.own pair.peer remote call.moment.now old new (Ok pulled)
      × (after ≡ before ++ (answer_of_pull pulled).text) × (answer ≡ status_for (answer_of_pull pulled).refused)
  pull_tells remote asks is has =
      let e = exchanged call (record { pair = pair; command = Pull remote }) old new before after answer asks is in
      told_lines (first_unread (files_of old) (pair_looks (Pull remote) pair (files_of old))) old new answer_of_pull stop_of_merge (PullAnswers pair.own pair.peer remote call.moment.now old new) call before after e.result answer prints has (e.done tells) e.printed

pub merge_tells : (call : Call) (old new : History) (before after : List ℕ) (answer : Status) (request : MergeRequest) → IsTrue call.store_tells → IsTrue call.sink_tells
    → call.asked ≡ asked.Merge request → RunAnswers call old new before after answer → HasLines answer
    → (lines : List MergeLine) × MergeAnswers request.folder request.remote call.moment.now old new (Ok lines)
    × (after ≡ before ++ (answer_of_merge lines).text) × (answer ≡ status_for (answer_of_merge lines).refused)
merge_tells call old new before after answer request tells prints asks is has =
    let m = merged call request old new before after answer asks is in
    told_lines (first_unread (files_of old) (request.folder ∷ [])) old new answer_of_merge stop_of_merge (MergeAnswers request.folder request.remote call.moment.now old new) call before after m.result answer prints has (m.done tells) m.printed

-- ---- a sound folder has lines

-- a local ref of a sound folder is not bad
local_reads : (own : List ℕ) (files : Files) (id : Id) → IsSound own files → IsId id
    → (head_at files own side.Identities id ≡ Bad → ⊥) × (head_at files own side.Bugs id ≡ Bad → ⊥)
local_reads own files id sound is_id = (
  (λ e. subst (λ (r : Ref). IsSoundIdentity (objects_in files own) id r) e (sound part.Identities id is_id)),
  (λ e. subst (IsSoundBug (objects_in files own) id) e (sound part.Bugs id is_id)),
)

-- nor is a tracking ref
tracking_reads : (own : List ℕ) (files : Files) (remote : RemoteName) (id : Id) → IsSound own files → IsId id
    → (head_at files own (side.RemoteIdentities remote) id ≡ Bad → ⊥) × (head_at files own (side.RemoteBugs remote) id ≡ Bad → ⊥)
tracking_reads own files remote id sound is_id = (
  (λ e. subst (IsSoundTracking (objects_in files own)) e (sound part.Tracking remote id is_id).1),
  (λ e. subst (IsSoundTracking (objects_in files own)) e (sound part.Tracking remote id is_id).0),
)

-- the entity at which a call ended has a ref in the listing
listed : (files : Files) (folder : List ℕ) (of : Side) (refs done : List EntityRef) (at : EntityRef) (rest : List EntityRef) → AreRefs files folder of refs
    → refs ≡ done ++ at ∷ rest → IsId at.id × (head_at files folder of at.id ≡ ref_with at.head)
listed files folder of refs done at rest are is =
    (are.members at).0 (subst (λ (es : List EntityRef). Contains es at) (sym is) (Contains-append_right done (at ∷ rest) at (0, omega arith, refl)))

-- a fetch into a folder that is sound at its end was not ended by a tracking ref
fetch_not_damaged : (own peer : List ℕ) (remote : RemoteName) (old new : History) (path : List ℕ) → IsSound own (files_of new)
    → FetchAnswers own peer remote old new (Err (read.Damaged path)) → ⊥
fetch_not_damaged own peer remote old new path sound (inl none) = none.0
fetch_not_damaged own peer remote old new path sound (inr (inl e)) =
    by e.ended.at.head (listed (files_of old) peer side.Identities e.people (entities_of e.ended.done) e.ended.at e.ended.rest e.are.are_people e.ended.are).0 e.ended.ended
  where
    by : (head : Option Name) → IsId e.ended.at.id → IsBadTracking own peer (side.RemoteIdentities remote) e.ended.at.id head path e.ended.mid new → ⊥
    by None is_id none = none
    by (Some name) is_id (bad, same) =
        (tracking_reads own (files_of new) remote e.ended.at.id sound is_id).0 (ap (λ (h : History). head_at (files_of h) own (side.RemoteIdentities remote) e.ended.at.id) same ∙ bad.1)
fetch_not_damaged own peer remote old new path sound (inr (inr e)) =
    by e.ended.at.head (listed (files_of old) peer side.Bugs e.bugs (entities_of e.ended.done) e.ended.at e.ended.rest e.are.are_bugs e.ended.are).0 e.ended.ended
  where
    by : (head : Option Name) → IsId e.ended.at.id → IsBadTracking own peer (side.RemoteBugs remote) e.ended.at.id head path e.ended.mid new → ⊥
    by None is_id none = none
    by (Some name) is_id (bad, same) =
        (tracking_reads own (files_of new) remote e.ended.at.id sound is_id).1 (ap (λ (h : History). head_at (files_of h) own (side.RemoteBugs remote) e.ended.at.id) same ∙ bad.1)

-- a push from a folder that was sound at its beginning was not ended by a local ref
push_not_damaged : (own peer : List ℕ) (old new : History) (path : List ℕ) → IsSound own (files_of old) → PushAnswers own peer old new (Err (read.Damaged path)) → ⊥
push_not_damaged own peer old new path sound (inl none) = none.0
push_not_damaged own peer old new path sound (inr (inl e)) =
    by e.ended.at.head (listed (files_of old) own side.Identities e.people (entities_of e.ended.done) e.ended.at e.ended.rest e.are.are_people e.ended.are) e.ended.ended
  where
    by : (head : Option Name) → IsId e.ended.at.id × (head_at (files_of old) own side.Identities e.ended.at.id ≡ ref_with head)
        → IsBadLocal own peer side.Identities false e.ended.at.id head path e.ended.mid new → ⊥
    by None found is = (local_reads own (files_of old) e.ended.at.id sound found.0).0 found.1
    by (Some name) found none = none
push_not_damaged own peer old new path sound (inr (inr e)) =
    by (are_held e.person_turns) e.ended.at.head (listed (files_of old) own side.Bugs e.bugs (entities_of e.ended.done) e.ended.at e.ended.rest e.are.are_bugs e.ended.are) e.ended.ended
  where
    by : (held : Bool) (head : Option Name) → IsId e.ended.at.id × (head_at (files_of old) own side.Bugs e.ended.at.id ≡ ref_with head)
        → IsBadLocal own peer side.Bugs held e.ended.at.id head path e.ended.mid new → ⊥
    by true head found none = none
    by false None found is = (local_reads own (files_of old) e.ended.at.id sound found.0).1 found.1
    by false (Some name) found none = none

-- an exchange leaves the own folder sound
own_stays_sound : (command : PeerCommand) (pair : FolderPair) (old new : History) → IsSound pair.own (files_of old) → WroteBy (ExchangeWrites command pair) old new → IsSound pair.own (files_of new)
own_stays_sound (Fetch remote) pair old new sound wrote = ((exchange_stays_sound (Fetch remote) pair old new wrote).written.whole sound).each new (last_moment _ old new wrote)
own_stays_sound (Pull remote) pair old new sound wrote = ((exchange_stays_sound (Pull remote) pair old new wrote).written.whole sound).each new (last_moment _ old new wrote)
own_stays_sound Push pair old new sound wrote = ((exchange_stays_sound Push pair old new wrote).only_read.whole sound).each new (last_moment _ old new wrote)

-- a merge of a folder that is sound at its beginning and at its end was not ended by a ref, nor by the user file
merge_not_damaged : (folder : List ℕ) (remote : RemoteName) (now : ℕ) (old new : History) (path : List ℕ) → IsSound folder (files_of old) → IsSound folder (files_of new)
    → MergeAnswers folder remote now old new (Err (merge.Damaged path)) → ⊥
merge_not_damaged folder remote now old new path sound later (inl (bad, at, same)) = sound part.User bad
merge_not_damaged folder remote now old new path sound later (inr (inr (none, between))) = absurd none
merge_not_damaged folder remote now old new path sound later (inr (inl (turn.Memory, told, ended))) = absurd (cc (told))
merge_not_damaged folder remote now old new path sound later (inr (inl (turn.Disk, told, ended))) = absurd (cc (told))
merge_not_damaged folder remote now old new path sound later (inr (inl (turn.Taken name, told, ended))) = absurd (cc (told))
merge_not_damaged folder remote now old new path sound later (inr (inl (turn.Damaged at, told, inl e))) =
    by (listed (files_of old) folder (side.RemoteIdentities remote) e.tracked.people (merged_entities e.ended.done) e.ended.at e.ended.rest e.tracked.are_people e.ended.are) e.ended.ended
  where
    by : IsId e.ended.at.id × (head_at (files_of old) folder (side.RemoteIdentities remote) e.ended.at.id ≡ ref_with e.ended.at.head)
        → IsBadTurn folder (side.RemoteIdentities remote) side.Identities e.ended.at at e.ended.mid new → ⊥
    by found (inl (none, place), same) = (tracking_reads folder (files_of old) remote e.ended.at.id sound found.0).0 (found.1 ∙ ap ref_with none)
    by found (inr (name, is, bad), same) =
        (local_reads folder (files_of new) e.ended.at.id later found.0).0 (ap (λ (h : History). head_at (files_of h) folder side.Identities e.ended.at.id) same ∙ bad.1)
merge_not_damaged folder remote now old new path sound later (inr (inl (turn.Damaged at, told, inr e))) =
    by (listed (files_of old) folder (side.RemoteBugs remote) e.tracked.bugs (merged_entities e.ended.done) e.ended.at e.ended.rest e.tracked.are_bugs e.ended.are) e.ended.ended
  where
    by : IsId e.ended.at.id × (head_at (files_of old) folder (side.RemoteBugs remote) e.ended.at.id ≡ ref_with e.ended.at.head)
        → IsBadTurn folder (side.RemoteBugs remote) side.Bugs e.ended.at at e.ended.mid new → ⊥
    by found (inl (none, place), same) = (tracking_reads folder (files_of old) remote e.ended.at.id sound found.0).1 (found.1 ∙ ap ref_with none)
    by found (inr (name, is, bad), same) =
        (local_reads folder (files_of new) e.ended.at.id later found.0).1 (ap (λ (h : History). head_at (files_of h) folder side.Bugs e.ended.at.id) same ∙ bad.1)

answered_told : (Refuses : Refusal → Type 0) (result : Result Answer Stop) (answer : Status) → ((r : Refusal) → result ≡ Err (stop.Refused r) → Refuses r) → IsTold (status_of result) answer
    → IsAnsweredBut Refuses answer
answered_told Refuses result answer taken (inr (inl fault)) = inl (inr (inr (inr fault)))
answered_told Refuses result answer taken (inr (inr memory)) = inl (inr (inl memory))
answered_told Refuses (Ok said) answer taken (inl is) = inl (inl (subst HasLines (sym is) (has_lines said.refused)))
answered_told Refuses (Err stop.Memory) answer taken (inl is) = inl (inr (inl is))
answered_told Refuses (Err stop.Disk) answer taken (inl is) = inl (inr (inr (inl is)))
answered_told Refuses (Err (stop.Refused r)) answer taken (inl is) = inr (r, is, taken r refl)

-- the refusal of a call that merges is that of its stop
refused_as : (folder : List ℕ) (old : History) (r : Refusal) (why : MergeStop) → stop.Refused r ≡ stop_of_merge why → ((path : List ℕ) → why ≡ merge.Damaged path → ⊥)
    → (why ≡ merge.NoUser → user_at (files_of old) folder ≡ NoUser) → MayRefuse folder old r
refused_as folder old r merge.Memory told undamaged user = absurd (cc (told))
refused_as folder old r merge.Disk told undamaged user = absurd (cc (told))
refused_as folder old r merge.NoUser told undamaged user =
    let same : refusal.NoUser ≡ r = let e = told in cc in subst (MayRefuse folder old) same (user refl)
refused_as folder old r (merge.Damaged path) told undamaged user = absurd (undamaged path refl)
refused_as folder old r (merge.Taken name) told undamaged user =
    let same : refusal.NameTaken name ≡ r = let e = told in cc in subst (MayRefuse folder old) same tt

-- a stop of a read that refuses is damage
read_refuses : (r : Refusal) (why : ReadStop) → stop.Refused r ≡ stop_of_read why → (path : List ℕ) × (why ≡ read.Damaged path)
read_refuses r read.Memory told = absurd (cc (told))
read_refuses r read.Disk told = absurd (cc (told))
read_refuses r (read.Damaged path) told = (path, refl)

-- the refusals of a merge, in a folder that was sound
merge_refuses : (folder : List ℕ) (remote : RemoteName) (now : ℕ) → now < 2 ^ 64 → (old new : History) (r : Refusal) → IsSound folder (files_of old)
    → Told answer_of_merge stop_of_merge (MergeAnswers folder remote now old new) (Err (stop.Refused r)) → MayRefuse folder old r
merge_refuses folder remote now limit old new r sound (inr (want, (lines, is))) = absurd (cc (want))
merge_refuses folder remote now limit old new r sound (inl (why, is, told)) =
    let wrote = merge_wrote folder remote now old new (Err why) limit is in
    let later = (keeps_sound folder old new (keeps_parts folder old new wrote) sound).each new (last_moment _ old new wrote) in
    refused_as folder old r why told
    (λ path e. merge_not_damaged folder remote now old new path sound later (subst (λ (w : MergeStop). MergeAnswers folder remote now old new (Err w)) e is))
    (λ e. no_user folder remote now old new (subst (λ (w : MergeStop). MergeAnswers folder remote now old new (Err w)) e is))

-- and those of a pull
pull_refuses : (remote : RemoteName) (pair : FolderPair) (now : ℕ) → now < 2 ^ 64 → (old new : History) (r : Refusal) → IsSound pair.own (files_of old) → IsSound pair.own (files_of new)
    → (why : MergeStop) → PullAnswers pair.own pair.peer remote now old new (Err why) → stop.Refused r ≡ stop_of_merge why → MayRefuse pair.own old r
pull_refuses remote pair now limit old new r sound later why (inl none) told =
    refused_as pair.own old r why told
    (λ path e. let bad : NotBegun pair.own remote now (merge.Damaged path) old new = subst (λ (w : MergeStop). NotBegun pair.own remote now w old new) e none in sound part.User bad.0)
    (λ e. let is : NotBegun pair.own remote now merge.NoUser old new = subst (λ (w : MergeStop). NotBegun pair.own remote now w old new) e none in is.0)
pull_refuses remote pair now limit old new r sound later why (inr (inl is)) told =
    refused_as pair.own old r why told
    (λ path e. let damaged = read_damage is.stop path (sym is.is_why ∙ e) in
    fetch_not_damaged pair.own pair.peer remote old new path later (subst (λ (w : ReadStop). FetchAnswers pair.own pair.peer remote old new (Err w)) damaged is.ended))
    (λ e. absurd (read_has_user is.stop (sym is.is_why ∙ e)))
pull_refuses remote pair now limit old new r sound later why (inr (inr (fetched, both))) told =
    let wrote = exchange_wrote (Fetch remote) pair now limit old both.mid (Ok (answer_of fetched)) (fetched, both.first, refl) in
    let middle = own_stays_sound (Fetch remote) pair old both.mid sound wrote in
    refused_as pair.own old r why told
    (λ path e. merge_not_damaged pair.own remote now both.mid new path middle later (subst (λ (w : MergeStop). MergeAnswers pair.own remote now both.mid new (Err w)) e both.then))
    (λ e. sym (fetch_keeps_user pair.own pair.peer remote old both.mid (sound part.User) wrote) ∙ no_user pair.own remote now both.mid new (subst (λ (w : MergeStop). MergeAnswers pair.own remote now both.mid new (Err w)) e both.then))

-- why a command with a peer may be refused once it has begun
abbrev MayRefuseBegun : PeerCommand → FolderPair → History → Refusal → Type 0
MayRefuseBegun (Fetch remote) pair old r = ⊥
MayRefuseBegun (Pull remote) pair old r = MayRefuse pair.own old r
MayRefuseBegun Push pair old r = ⊥

-- the refusals of a command with a peer, in a folder that was sound
peer_refuses : (command : PeerCommand) (pair : FolderPair) (now : ℕ) → now < 2 ^ 64 → (old new : History) (r : Refusal) → IsSound pair.own (files_of old)
    → ExchangeAnswers command pair now old new (Err (stop.Refused r)) → MayRefuseBegun command pair old r
peer_refuses (Fetch remote) pair now limit old new r sound (inr (want, (lines, is))) = absurd (cc (want))
peer_refuses (Fetch remote) pair now limit old new r sound (inl (why, is, told)) =
    let damaged = read_refuses r why told in
    let ended = subst (λ (w : ReadStop). FetchAnswers pair.own pair.peer remote old new (Err w)) damaged.1 is in
    let wrote = exchange_wrote (Fetch remote) pair now limit old new (Err (stop.Refused r)) (inl (why, is, told)) in
    fetch_not_damaged pair.own pair.peer remote old new damaged.0 (own_stays_sound (Fetch remote) pair old new sound wrote) ended
peer_refuses Push pair now limit old new r sound (inr (want, (lines, is))) = absurd (cc (want))
peer_refuses Push pair now limit old new r sound (inl (why, is, told)) =
    let damaged = read_refuses r why told in
    push_not_damaged pair.own pair.peer old new damaged.0 sound (subst (λ (w : ReadStop). PushAnswers pair.own pair.peer old new (Err w)) damaged.1 is)
peer_refuses (Pull remote) pair now limit old new r sound (inr (want, (lines, is))) = absurd (cc (want))
peer_refuses (Pull remote) pair now limit old new r sound (inl (why, is, told)) =
    let wrote = exchange_wrote (Pull remote) pair now limit old new (Err (stop.Refused r)) (inl (why, is, told)) in
    pull_refuses remote pair now limit old new r sound (own_stays_sound (Pull remote) pair old new sound wrote) why is told

-- a refusal before that is of the peer's packed refs
pair_refuses : (command : PeerCommand) (pair : FolderPair) (old : History) (r : Refusal) → IsPeerUnread pair old r ⊎ MayRefuseBegun command pair old r → MayRefusePeer command pair old r
pair_refuses (Fetch remote) pair old r (inl unread) = unread
pair_refuses (Pull remote) pair old r (inl unread) = inr unread
pair_refuses Push pair old r (inl unread) = unread
pair_refuses (Fetch remote) pair old r (inr may) = absurd may
pair_refuses (Pull remote) pair old r (inr may) = inl may
pair_refuses Push pair old r (inr may) = absurd may

guarded_refuses : (command : PeerCommand) (pair : FolderPair) (now : ℕ) → now < 2 ^ 64 → (old new : History) (r : Refusal) → IsSound pair.own (files_of old)
    → Guarded (first_unread (files_of old) (pair_looks command pair (files_of old))) (ExchangeAnswers command pair now old new) old new (Err (stop.Refused r)) → MayRefusePeer command pair old r
guarded_refuses command pair now limit old new r sound (inr is) = pair_refuses command pair old r (inr (peer_refuses command pair now limit old new r sound is.1))
guarded_refuses command pair now limit old new r sound (inl ((folder, unread, told), same)) =
    let files = files_of old in
    let peer = peer_unread command pair files (look_done files pair.own (sound part.Packed)) folder unread in
    pair_refuses command pair old r (inl (peer.0, told ∙ ap (λ (f : List ℕ). refusal.Damaged (joined f packed_place)) peer.1))

pub exchange_has_lines : (call : Call) (old new : History) (before after : List ℕ) (answer : Status) (request : PeerRequest) → IsTrue call.store_tells
    → call.asked ≡ asked.Exchange request → IsSound request.pair.own (files_of old) → RunAnswers call old new before after answer
    → IsAnsweredBut (MayRefusePeer request.command request.pair old) answer
exchange_has_lines call old new before after answer request tells asks sound is =
    let e = exchanged call request old new before after answer asks is in
    answered_told (MayRefusePeer request.command request.pair old) e.result answer
    (λ r refused. guarded_refuses request.command request.pair call.moment.now (in_time call.moment) old new r sound
    (subst (Guarded (first_unread (files_of old) (pair_looks request.command request.pair (files_of old))) (ExchangeAnswers request.command request.pair call.moment.now old new) old new) refused (e.done tells)))
    (printed_told call (text_of e.result) before after (status_of e.result) answer e.printed)

pub merge_has_lines : (call : Call) (old new : History) (before after : List ℕ) (answer : Status) (request : MergeRequest) → IsTrue call.store_tells
    → call.asked ≡ asked.Merge request → IsSound request.folder (files_of old) → RunAnswers call old new before after answer
    → IsAnsweredBut (MayRefuse request.folder old) answer
merge_has_lines call old new before after answer request tells asks sound is =
    let m = merged call request old new before after answer asks is in
    answered_told (MayRefuse request.folder old) m.result answer
    (λ r refused.
    let first = first_unread (files_of old) (request.folder ∷ []) in
    merge_refuses request.folder request.remote call.moment.now (in_time call.moment) old new r sound
    (refused_by first (MergeTold request call.moment.now old new) old new (look_done (files_of old) request.folder (sound part.Packed)) r
    (subst (Guarded first (MergeTold request call.moment.now old new) old new) refused (m.done tells))))
    (printed_told call (text_of m.result) before after (status_of m.result) answer m.printed)

-- ---- the output fails

pub lines_cut : (call : Call) (old new : History) (before after : List ℕ) (request : PeerRequest) → call.asked ≡ asked.Exchange request → RunAnswers call old new before after status.OutFault
    → (result : Result Answer Stop) × (count : ℕ) × PeerRequestAnswers call.store_tells request call.moment old new result × (count < length (text_of result))
    × (IsTrue call.sink_tells → after ≡ before ++ take count (text_of result))
lines_cut call old new before after request asks is =
    let e = exchanged call request old new before after status.OutFault asks is in
    let cut = cut_of call (text_of e.result) before after (status_of e.result) (never_by_words e.result).2 e.printed in
    (e.result, cut.0, e.done, cut.1, cut.2)

pub merge_lines_cut : (call : Call) (old new : History) (before after : List ℕ) (request : MergeRequest) → call.asked ≡ asked.Merge request → RunAnswers call old new before after status.OutFault
    → (result : Result Answer Stop) × (count : ℕ) × MergeRequestAnswers call.store_tells request call.moment old new result × (count < length (text_of result))
    × (IsTrue call.sink_tells → after ≡ before ++ take count (text_of result))
merge_lines_cut call old new before after request asks is =
    let m = merged call request old new before after status.OutFault asks is in
    let cut = cut_of call (text_of m.result) before after (status_of m.result) (never_by_words m.result).2 m.printed in
    (m.result, cut.0, m.done, cut.1, cut.2)

-- A run of an exchange or of a merge is refused exactly where the cause of its refusal holds.
use Rattle.std.proofs.Common.{◌≡◌, ◌⊎◌, inl, inr, ℕ, true, IsTrue, List, [], ◌∷◌, Some, None, Result, Ok, Err, refl, sym, ◌∙◌, ap, subst}
use Rattle.gb_text.specs.Folder.{joined}
use Rattle.gb_store.specs.Files.{History, files_of}
use Rattle.merge_steps.specs.Pulling.{PullAnswers}
use Rattle.merge_steps.specs.Stops.{stop_of_read as merge_stop_of_read}
use Rattle.merge_steps.specs.declared.stop.MergeStop.{MergeStop}
use Rattle.merge_steps.proofs.MergeWriteLemmas.{not_begun_same}
use Rattle.ref_store.specs.Refs.{packed_place, packed_reads}
use Rattle.remote_name.specs.declared.remote.RemoteName.{RemoteName}
use Rattle.repo_state.specs.Users.{NoUser, user_at}
use Rattle.repo_state.specs.declared.stop.ReadStop.{ReadStop}
use Rattle.repo_state.specs.declared.stop.ReadStop.TheVariants as read
use Rattle.repo_steps.specs.Stops.{stop_of_read}
use Rattle.repo_steps.specs.declared.refusal.Refusal.{Refusal}
use Rattle.repo_steps.specs.declared.refusal.Refusal.TheVariants as refusal
use Rattle.repo_steps.specs.declared.refusal.Stop.{Stop}
use Rattle.repo_steps.specs.declared.refusal.Stop.TheVariants as stop
use Rattle.sync_steps.specs.Fetching.{FetchAnswers}
use Rattle.sync_steps.specs.Pushing.{PushAnswers}
use Rattle.sync_steps.specs.declared.line.EntityWord.{EntityWord}
use Rattle.sync_steps.specs.declared.line.Line.{Line}
use Rattle.sync_writes.proofs.FetchKindLemmas.{fetch_writes}
use Rattle.bug_run.specs.Answer.{Answer}
use Rattle.bug_run.specs.Exchanges.{ExchangeAnswers, MergeTold, stop_of_merge}
use Rattle.bug_run.specs.Headline.{IsFault}
use Rattle.bug_run.specs.Looks.{Guarded, first_unread, looks_at_peer, pair_looks}
use Rattle.bug_run.specs.Printed.{IsTold}
use Rattle.bug_run.specs.Run.{Call, RunAnswers, status_of, text_of}
use Rattle.bug_run.specs.declared.status.Refused.TheVariants.{ByCommand}
use Rattle.bug_run.specs.declared.status.Status.{Status}
use Rattle.bug_run.specs.declared.status.Status.TheVariants as status
use Rattle.bug_run.proofs.ExchangeLemmas.{apart}
use Rattle.bug_run.proofs.LookLemmas.{look_done, own_looked, refused_by}
use Rattle.bug_run.proofs.UserStayLemmas.{fetch_keeps_user}
use Rattle.bug_run.proofs.WordLemmas.{exchanged, merged, printed_told}
use Rattle.words.specs.declared.pair.FolderPair.{FolderPair}
use Rattle.words.specs.declared.words.Asked.TheVariants as asked
use Rattle.words.specs.declared.words.MergeRequest.{MergeRequest}
use Rattle.words.specs.declared.words.PeerCommand.{PeerCommand}
use Rattle.words.specs.declared.words.PeerCommand.TheVariants.{Fetch, Pull, Push}
use Rattle.words.specs.declared.words.PeerRequest.{PeerRequest}
use Rattle.refusal_causes.specs.Alike.{AreAlike}
use Rattle.refusal_causes.specs.Causes.{IsRefusedOrFault, IsRefusedSo}
use Rattle.refusal_causes.specs.ExchangeCauses.{BegunCause, BothRead, HasUser, IsFetched, IsMergedFrom, MergeCause, PackedCause, PeerCause, PullBarred, UserCause}
use Rattle.refusal_causes.specs.TurnCauses.{FetchBarred, IsTakenSooner, MergeBarred, PushBarred, RefBarred}
use Rattle.refusal_causes.proofs.BadRefLemmas.{refs_barred, refs_told, refs_unbarred}
use Rattle.refusal_causes.proofs.ExchangeLemmas.{looked_both, looked_own, looked_pair, no_file, none_unread, one_told, one_user, packed_told, some_file, unread_told, user_clears}
use Rattle.refusal_causes.proofs.FetchTurnLemmas.{fetch_barred, fetch_unbarred, one_fetch_barred}
use Rattle.refusal_causes.proofs.MergeCauseLemmas.{barred_had_user, barred_merged, merge_alike, merge_barred, merge_unbarred, user_stop}
use Rattle.refusal_causes.proofs.PushTurnLemmas.{one_push_barred, push_barred, push_unbarred}
use Rattle.refusal_causes.proofs.RequestLemmas.{looked_cause, refused_told, refused_was, unread_first}

-- ---- packed refs

module _ (pair : FolderPair) (old : History) (r : Refusal) (at : List ℕ) (told : r ≡ refusal.Damaged (joined at packed_place)) where
  told_in : (folder : List ℕ) → at ≡ folder → r ≡ refusal.Damaged (joined folder packed_place)
  told_in folder same = told ∙ ap (λ (f : List ℕ). refusal.Damaged (joined f packed_place)) same

  packed_cause : (command : PeerCommand) → first_unread (files_of old) (pair_looks command pair (files_of old)) ≡ Some at → PackedCause command pair (files_of old) r
  packed_cause (Fetch remote) first = elim (looked_pair (files_of old) pair.own pair.peer true at first) [
    | inl own ↦ inl (own.0, told_in pair.own own.1)
    | inr peer ↦ inr (peer.1, (peer.2, told_in pair.peer peer.3))
  ]
  packed_cause Push first = elim (looked_pair (files_of old) pair.own pair.peer true at first) [
    | inl own ↦ inl (own.0, told_in pair.own own.1)
    | inr peer ↦ inr (peer.1, (peer.2, told_in pair.peer peer.3))
  ]
  packed_cause (Pull remote) first = elim (looked_pair (files_of old) pair.own pair.peer (looks_at_peer (Pull remote) pair (files_of old)) at first) [
    | inl own ↦ inl (own.0, told_in pair.own own.1)
    | inr peer ↦ inr (peer.1, ((λ none. cc (sym peer.0 ∙ no_file (files_of old) pair.own none)), (peer.2, told_in pair.peer peer.3)))
  ]

-- ---- fetches and pushes

module _ (own peer : List ℕ) (old new : History) where
  -- what ended a fetch, whichever command it is of
  module _ (remote : RemoteName) where
    fetch_stop : (s : Refusal) (why : ReadStop) → FetchAnswers own peer remote old new (Err why) → stop.Refused s ≡ stop_of_read why
        → (path : List ℕ) × (s ≡ refusal.Damaged path) × FetchAnswers own peer remote old new (Err (read.Damaged path))
    fetch_stop s read.Memory is e = absurd (cc e)
    fetch_stop s read.Disk is e = absurd (cc e)
    fetch_stop s (read.Damaged path) is e = (path, (let same : s ≡ refusal.Damaged path = cc e in same), is)

    fetch_cause : (s : Refusal) (why : ReadStop) → FetchAnswers own peer remote old new (Err why) → stop.Refused s ≡ stop_of_read why → FetchBarred own peer remote (files_of old) s
    fetch_cause s why is e =
        let at = fetch_stop s why is e in
        subst (FetchBarred own peer remote (files_of old)) (sym at.1) (fetch_barred own peer remote old new at.0 at.2)

    same_stop_of : (why : ReadStop) → stop_of_merge (merge_stop_of_read why) ≡ stop_of_read why
    same_stop_of read.Memory = refl
    same_stop_of read.Disk = refl
    same_stop_of (read.Damaged path) = refl

  push_stop : (s : Refusal) (why : ReadStop) → PushAnswers own peer old new (Err why) → stop.Refused s ≡ stop_of_read why
      → (path : List ℕ) × (s ≡ refusal.Damaged path) × PushAnswers own peer old new (Err (read.Damaged path))
  push_stop s read.Memory is e = absurd (cc e)
  push_stop s read.Disk is e = absurd (cc e)
  push_stop s (read.Damaged path) is e = (path, (let same : s ≡ refusal.Damaged path = cc e in same), is)

  push_cause : (s : Refusal) (why : ReadStop) → PushAnswers own peer old new (Err why) → stop.Refused s ≡ stop_of_read why → PushBarred own peer old s
  push_cause s why is e =
      let at = push_stop s why is e in
      subst (PushBarred own peer old) (sym at.1) (push_barred own peer old new at.0 at.2)

-- ---- a pull that began

module _ (pair : FolderPair) (remote : RemoteName) (now : ℕ) (old new : History) where
  abbrev Begun : Refusal → Type 0
  Begun s = BegunCause (Pull remote) pair old s

  abbrev looks : Type 0
  looks = first_unread (files_of old) (pair_looks (Pull remote) pair (files_of old)) ≡ None

  -- where there is a user file both folders were looked at
  both_read : looks → (user_at (files_of old) pair.own ≡ NoUser → ⊥) → BothRead pair (files_of old)
  both_read none some = looked_both (files_of old) pair.own pair.peer (looks_at_peer (Pull remote) pair (files_of old)) (some_file (files_of old) pair.own some) none

  has_file : HasUser pair.own (files_of old) → user_at (files_of old) pair.own ≡ NoUser → ⊥
  has_file user none = cc (sym user.1 ∙ none)

  user_begun : (s : Refusal) → looks → UserCause pair.own (files_of old) s → Begun s
  user_begun s none (inl lacks) = inl (looked_own (files_of old) pair.own pair.peer (looks_at_peer (Pull remote) pair (files_of old)) none, lacks)
  user_begun s none (inr bad) = inr (both_read none (λ lacks. cc (sym bad.0 ∙ lacks)), inl bad)

  -- the user is there when its merge begins
  user_then : (mid : History) (lines : List Line) → HasUser pair.own (files_of old) → FetchAnswers pair.own pair.peer remote old mid (Ok lines) → HasUser pair.own (files_of mid)
  user_then mid lines user fetched =
      (user.0, fetch_keeps_user pair.own pair.peer remote old mid (λ bad. cc (sym user.1 ∙ bad)) (fetch_writes pair.own pair.peer remote (apart pair) old mid (Ok lines) fetched) ∙ user.1)

  pull_cause : looks → (s : Refusal) (why : MergeStop) → PullAnswers pair.own pair.peer remote now old new (Err why) → stop.Refused s ≡ stop_of_merge why → Begun s ⊎ PullBarred (Pull remote) pair now old new s
  pull_cause none s why (inl not) e = inl (user_begun s none (user_stop pair.own remote now old new s why not e))
  pull_cause none s why (inr (inl is)) e =
      let user : HasUser pair.own (files_of old) = (is.user, is.is_user) in
      inl (inr (both_read none (has_file user), inr (user, fetch_cause pair.own pair.peer old new remote s is.stop is.ended (e ∙ ap stop_of_merge is.is_why ∙ same_stop_of pair.own pair.peer old new remote is.stop))))
  pull_cause none s why (inr (inr (fetched, m))) e = elim (merge_barred pair.own remote now m.mid new s why m.then e) [
    | inl user ↦ absurd (user_clears (files_of m.mid) pair.own s (user_then m.mid fetched (m.user, m.is_user) m.first) user)
    | inr barred ↦ inr (m.mid, (fetched, m.first), barred)
  ]

  -- what is told of a pull that has a cause before its merge
  abbrev Early : Refusal → Type 0
  Early r = UserCause pair.own (files_of old) r ⊎ (HasUser pair.own (files_of old) × FetchBarred pair.own pair.peer remote (files_of old) r)

  early_never : (r : Refusal) (lines : List Line) (mid : History) → Early r → HasUser pair.own (files_of old) → FetchAnswers pair.own pair.peer remote old mid (Ok lines) → ⊥
  early_never r lines mid (inl cause) user fetched = user_clears (files_of old) pair.own r user cause
  early_never r lines mid (inr barred) user fetched = fetch_unbarred pair.own pair.peer remote old mid lines r fetched barred.1

  early_one : (r s : Refusal) → Early r → Early s → r ≡ s
  early_one r s (inl one) (inl two) = one_user (files_of old) pair.own r s one two
  early_one r s (inl one) (inr two) = absurd (user_clears (files_of old) pair.own r two.0 one)
  early_one r s (inr one) (inl two) = absurd (user_clears (files_of old) pair.own s one.0 two)
  early_one r s (inr one) (inr two) = one_fetch_barred pair.own pair.peer remote (files_of old) r s one.1 two.1

  early_refused : (r s : Refusal) (why : MergeStop) → Early r → PullAnswers pair.own pair.peer remote now old new (Err why) → stop.Refused s ≡ stop_of_merge why → r ≡ s
  early_refused r s why early (inl not) e = early_one r s early (inl (user_stop pair.own remote now old new s why not e))
  early_refused r s why early (inr (inl is)) e =
      early_one r s early
      (inr ((is.user, is.is_user), fetch_cause pair.own pair.peer old new remote s is.stop is.ended (e ∙ ap stop_of_merge is.is_why ∙ same_stop_of pair.own pair.peer old new remote is.stop)))
  early_refused r s why early (inr (inr (fetched, m))) e = absurd (early_never r fetched m.mid early (m.user, m.is_user) m.first)

  -- one without a user writes nothing
  pull_still : (r : Refusal) → UserCause pair.own (files_of old) r → (result : Result Answer Stop) → ExchangeAnswers (Pull remote) pair now old new result → new ≡ old
  pull_still r cause (Ok said) (pulled, m, is) = absurd (user_clears (files_of old) pair.own r (m.user, m.is_user) cause)
  pull_still r cause (Err s) (inl (why, inl not, told)) = not_begun_same pair.own remote now why old new not
  pull_still r cause (Err s) (inl (why, inr (inl is), told)) = absurd (user_clears (files_of old) pair.own r (is.user, is.is_user) cause)
  pull_still r cause (Err s) (inl (why, inr (inr (fetched, m)), told)) = absurd (user_clears (files_of old) pair.own r (m.user, m.is_user) cause)
  pull_still r cause (Err s) (inr (memory, (pulled, m))) = absurd (user_clears (files_of old) pair.own r (m.user, m.is_user) cause)

-- ---- the causes of what was told

peer_cause : (command : PeerCommand) (pair : FolderPair) (now : ℕ) (old new : History) (r : Refusal)
    → Guarded (first_unread (files_of old) (pair_looks command pair (files_of old))) (ExchangeAnswers command pair now old new) old new (Err (stop.Refused r))
    → PeerCause command pair old r ⊎ PullBarred command pair now old new r
peer_cause command pair now old new r (inl ((at, first, told), same)) = inl (inl (packed_cause pair old r at told command first))
peer_cause (Fetch remote) pair now old new r (inr (none, inl ended)) =
    inl (inr (looked_both (files_of old) pair.own pair.peer true refl none, fetch_cause pair.own pair.peer old new remote r ended.0 ended.1 ended.2))
peer_cause Push pair now old new r (inr (none, inl ended)) = inl (inr (looked_both (files_of old) pair.own pair.peer true refl none, push_cause pair.own pair.peer old new r ended.0 ended.1 ended.2))
peer_cause (Pull remote) pair now old new r (inr (none, inl ended)) = elim (pull_cause pair remote now old new none r ended.0 ended.1 ended.2) [
  | inl begun ↦ inl (inr begun)
  | inr barred ↦ inr barred
]
peer_cause (Fetch remote) pair now old new r (inr (none, inr memory)) = absurd (cc (memory.0))
peer_cause Push pair now old new r (inr (none, inr memory)) = absurd (cc (memory.0))
peer_cause (Pull remote) pair now old new r (inr (none, inr memory)) = absurd (cc (memory.0))

module _ (request : MergeRequest) (now : ℕ) (old new : History) where
  abbrev Stopped : History → Refusal → Type 0
  Stopped end s = UserCause request.folder (files_of old) s ⊎ MergeBarred request.folder request.remote now old end s

  abbrev MergeGuards : Result Answer Stop → Type 0
  MergeGuards = Guarded (first_unread (files_of old) (request.folder ∷ [])) (MergeTold request now old new) old new

  merge_stopped : (r : Refusal) → MergeTold request now old new (Err (stop.Refused r)) → Stopped new r
  merge_stopped r (inl ended) = merge_barred request.folder request.remote now old new r ended.0 ended.1 ended.2
  merge_stopped r (inr memory) = absurd (cc (memory.0))

  merge_cause : (r : Refusal) → MergeGuards (Err (stop.Refused r)) → MergeCause request.folder request.remote now old new r
  merge_cause r guarded = looked_cause (files_of old) request.folder (MergeTold request now old new) (Stopped new) old new merge_stopped r guarded

  -- ---- and what the causes of a merge tell

  module _ (end : History) (r : Refusal) where
    stopped_alike : (s : Refusal) → Stopped end r → Stopped new s → AreAlike r s
    stopped_alike s (inl one) (inl two) = inl (one_user (files_of old) request.folder r s one two)
    stopped_alike s (inl one) (inr two) =
        let lists = barred_had_user request.folder request.remote now old new s two in
        absurd (user_clears (files_of old) request.folder r (lists.user, lists.is_user) one)
    stopped_alike s (inr one) (inl two) =
        let lists = barred_had_user request.folder request.remote now old end r one in
        absurd (user_clears (files_of old) request.folder s (lists.user, lists.is_user) two)
    stopped_alike s (inr one) (inr two) = merge_alike request.folder request.remote now old end new r s one two

    stopped_never : Stopped end r → (said : Answer) → MergeGuards (Ok said) → ⊥
    stopped_never cause said (inl none) = none.0
    stopped_never (inl user) said (inr done) = user_clears (files_of old) request.folder r (done.1.1.tracked.user, done.1.1.tracked.is_user) user
    stopped_never (inr barred) said (inr done) = merge_unbarred request.folder request.remote now old end new done.1.0 r barred done.1.1

    merge_by : MergeCause request.folder request.remote now old end r → (result : Result Answer Stop) (answer : Status) → MergeGuards result → IsTold (status_of result) answer → IsRefusedSo (AreAlike r) answer
    merge_by (inl unread) result answer guarded told =
        elim (unread_told (first_unread (files_of old) (request.folder ∷ [])) (MergeTold request now old new) old new request.folder (unread_first (files_of old) request.folder unread.0) r unread.1 result answer guarded told) [
          | inl is ↦ inl (is.0, is.1, inl is.2)
          | inr fault ↦ inr fault
        ]
    merge_by (inr (reads, cause)) result answer guarded told =
        refused_told (AreAlike r) result answer (λ said e. stopped_never cause said (subst MergeGuards e guarded))
        (λ s e. stopped_alike s cause (merge_stopped s (refused_by (first_unread (files_of old) (request.folder ∷ [])) (MergeTold request now old new) old new (look_done (files_of old) request.folder reads) s (subst MergeGuards e guarded)))) told

-- ---- what the causes of an exchange tell

module _ (pair : FolderPair) (now : ℕ) (old new : History) (r : Refusal) where
  abbrev Guards : PeerCommand → Result Answer Stop → Type 0
  Guards command = Guarded (first_unread (files_of old) (pair_looks command pair (files_of old))) (ExchangeAnswers command pair now old new) old new

  -- where the packed refs read, the answer is that of the command
  by_command : (command : PeerCommand) → first_unread (files_of old) (pair_looks command pair (files_of old)) ≡ None → ((said : Answer) → ExchangeAnswers command pair now old new (Ok said) → ⊥)
      → ((s : Refusal) → ExchangeAnswers command pair now old new (Err (stop.Refused s)) → r ≡ s) → (result : Result Answer Stop) (answer : Status) → Guards command result → IsTold (status_of result) answer
      → IsRefusedSo (λ s. r ≡ s) answer
  by_command command none never so result answer guarded told =
      refused_told (λ s. r ≡ s) result answer (λ said e. done said (subst (Guards command) e guarded))
      (λ s e. so s (refused_by (first_unread (files_of old) (pair_looks command pair (files_of old))) (ExchangeAnswers command pair now old new) old new none s (subst (Guards command) e guarded))) told
    where
      done : (said : Answer) → Guards command (Ok said) → ⊥
      done said (inl unbegun) = unbegun.0
      done said (inr is) = never said is.1

  early_told : (remote : RemoteName) → first_unread (files_of old) (pair_looks (Pull remote) pair (files_of old)) ≡ None → Early pair remote now old new r → (result : Result Answer Stop) (answer : Status) → Guards (Pull remote) result
      → IsTold (status_of result) answer → IsRefusedSo (λ s. r ≡ s) answer
  early_told remote none early = by_command (Pull remote) none (λ said is. early_never pair remote now old new r is.0.fetched is.1.mid early (is.1.user, is.1.is_user) is.1.first) so
    where
      so : (s : Refusal) → ExchangeAnswers (Pull remote) pair now old new (Err (stop.Refused s)) → r ≡ s
      so s (inl ended) = early_refused pair remote now old new r s ended.0 early ended.1 ended.2
      so s (inr memory) = absurd (cc (memory.0))

  begun_told : (command : PeerCommand) → BegunCause command pair old r → (result : Result Answer Stop) (answer : Status) → Guards command result → IsTold (status_of result) answer → IsRefusedSo (λ s. r ≡ s) answer
  begun_told (Fetch remote) (both, barred) = by_command (Fetch remote) (none_unread (files_of old) pair.own pair.peer true both.0 both.1)
      (λ said is. fetch_unbarred pair.own pair.peer remote old new is.0 r is.1 barred) so
    where
      so : (s : Refusal) → ExchangeAnswers (Fetch remote) pair now old new (Err (stop.Refused s)) → r ≡ s
      so s (inl ended) = one_fetch_barred pair.own pair.peer remote (files_of old) r s barred (fetch_cause pair.own pair.peer old new remote s ended.0 ended.1 ended.2)
      so s (inr memory) = absurd (cc (memory.0))
  begun_told Push (both, barred) = by_command Push (none_unread (files_of old) pair.own pair.peer true both.0 both.1)
      (λ said is. push_unbarred pair.own pair.peer (apart pair) old new is.0 r is.1 barred) so
    where
      so : (s : Refusal) → ExchangeAnswers Push pair now old new (Err (stop.Refused s)) → r ≡ s
      so s (inl ended) = one_push_barred pair.own pair.peer old r s barred (push_cause pair.own pair.peer old new s ended.0 ended.1 ended.2)
      so s (inr memory) = absurd (cc (memory.0))
  begun_told (Pull remote) (inl (reads, lacks)) =
      early_told remote (own_looked (Pull remote) pair (files_of old) (look_done (files_of old) pair.own reads) (no_file (files_of old) pair.own lacks.0)) (inl (inl lacks))
  begun_told (Pull remote) (inr (both, inl bad)) = early_told remote (none_unread (files_of old) pair.own pair.peer (looks_at_peer (Pull remote) pair (files_of old)) both.0 both.1) (inl (inr bad))
  begun_told (Pull remote) (inr (both, inr barred)) = early_told remote (none_unread (files_of old) pair.own pair.peer (looks_at_peer (Pull remote) pair (files_of old)) both.0 both.1) (inr barred)

-- a pull that has no cause before its merge has the causes of the merge of what its fetch left
module _ (pair : FolderPair) (remote : RemoteName) (now : ℕ) (old new : History) (free : (r : Refusal) → PeerCause (Pull remote) pair old r → ⊥) where
  abbrev MergesThen : Status → Type 0
  MergesThen answer = (mid : History) × IsFetched pair remote old mid × IsMergedFrom pair remote now mid new × ((end : History) (r : Refusal) → MergeBarred pair.own remote now mid end r → IsRefusedSo (AreAlike r) answer)

  pull_then : (result : Result Answer Stop) (answer : Status) → Guards pair now old new refusal.NoUser (Pull remote) result → IsTold (status_of result) answer → IsFault answer ⊎ MergesThen answer
  pull_then result answer guarded (inr (inl fault)) = inl (inr (inr fault))
  pull_then result answer guarded (inr (inr memory)) = inl (inl memory)
  pull_then (Ok said) answer (inl none) (inl is) = absurd none.0
  pull_then (Ok said) answer (inr (none, (pulled, m, e))) (inl is) =
      inr (m.mid, (pulled.fetched, m.first), (Ok pulled.merged, m.then), λ end r barred. absurd (merge_unbarred pair.own remote now m.mid end new pulled.merged r barred m.then))
  pull_then (Err stop.Memory) answer guarded (inl is) = inl (inl is)
  pull_then (Err stop.Disk) answer guarded (inl is) = inl (inr (inl is))
  pull_then (Err (stop.Refused s)) answer guarded (inl is) = elim (peer_cause (Pull remote) pair now old new s guarded) [
    | inl cause ↦ absurd (free s cause)
    | inr late ↦ inr (late.0, late.1, barred_merged pair.own remote now late.0 new s late.2, λ end r barred. inl (s, is, merge_alike pair.own remote now late.0 end new r s barred late.2))
  ]

-- ---- runs

module _ (call : Call) (old new : History) (before after : List ℕ) (tells : IsTrue call.store_tells) where
  -- ---- what was refused

  module _ (r : Refusal) (is : RunAnswers call old new before after (status.Refused (ByCommand r))) where
    -- the answer that was told
    peer_was : (request : PeerRequest) → call.asked ≡ asked.Exchange request → Guards request.pair call.moment.now old new r request.command (Err (stop.Refused r))
    peer_was request asks =
        let e = exchanged call request old new before after (status.Refused (ByCommand r)) asks is in
        subst (Guards request.pair call.moment.now old new r request.command) (refused_was call.sink_tells call.takes_memory before after e.result r e.printed) (e.done tells)

    pub peer_has_cause : (request : PeerRequest) → call.asked ≡ asked.Exchange request → PeerCause request.command request.pair old r ⊎ PullBarred request.command request.pair call.moment.now old new r
    peer_has_cause request asks = peer_cause request.command request.pair call.moment.now old new r (peer_was request asks)

    pub merge_has_cause : (request : MergeRequest) → call.asked ≡ asked.Merge request → MergeCause request.folder request.remote call.moment.now old new r
    merge_has_cause request asks =
        let m = merged call request old new before after (status.Refused (ByCommand r)) asks is in
        merge_cause request call.moment.now old new r (subst (MergeGuards request call.moment.now old new) (refused_was call.sink_tells call.takes_memory before after m.result r m.printed) (m.done tells))

    -- with a user it is in the refs of the first entity that bars
    pub merge_names_ref : (request : MergeRequest) (path : List ℕ) → call.asked ≡ asked.Merge request → packed_reads (files_of old) request.folder ≡ true → HasUser request.folder (files_of old) → r ≡ refusal.Damaged path
        → (kind : EntityWord) × RefBarred request.folder request.remote (files_of old) kind (refusal.Damaged path)
    merge_names_ref request path asks reads user told = by (merge_has_cause request asks)
      where
        by : MergeCause request.folder request.remote call.moment.now old new r → (kind : EntityWord) × RefBarred request.folder request.remote (files_of old) kind (refusal.Damaged path)
        by (inl unread) = absurd (cc (sym reads ∙ unread.0))
        by (inr (read, inl cause)) = absurd (user_clears (files_of old) request.folder r user cause)
        by (inr (read, inr barred)) = refs_barred request.folder request.remote call.moment.now old new path (subst (MergeBarred request.folder request.remote call.moment.now old new) told barred)

    -- where the packed refs read, the turns before were had
    module _ (pair : FolderPair) (both : BothRead pair (files_of old)) where
      command_was : (command : PeerCommand) → looks_at_peer command pair (files_of old) ≡ true → call.asked ≡ asked.Exchange (record { pair = pair; command = command })
          → ExchangeAnswers command pair call.moment.now old new (Err (stop.Refused r))
      command_was command at asks =
          refused_by (first_unread (files_of old) (pair_looks command pair (files_of old))) (ExchangeAnswers command pair call.moment.now old new) old new
          (none_unread (files_of old) pair.own pair.peer (looks_at_peer command pair (files_of old)) both.0 both.1) r (peer_was (record { pair = pair; command = command }) asks)

      pub fetch_had : (remote : RemoteName) → call.asked ≡ asked.Exchange (record { pair = pair; command = Fetch remote })
          → (path : List ℕ) × (r ≡ refusal.Damaged path) × FetchAnswers pair.own pair.peer remote old new (Err (read.Damaged path))
      fetch_had remote asks = elim (command_was (Fetch remote) refl asks) [
        | inl ended ↦ fetch_stop pair.own pair.peer old new remote r ended.0 ended.1 ended.2
        | inr memory ↦ absurd (cc (memory.0))
      ]

      pub push_had : call.asked ≡ asked.Exchange (record { pair = pair; command = Push }) → (path : List ℕ) × (r ≡ refusal.Damaged path) × PushAnswers pair.own pair.peer old new (Err (read.Damaged path))
      push_had asks = elim (command_was Push refl asks) [
        | inl ended ↦ push_stop pair.own pair.peer old new r ended.0 ended.1 ended.2
        | inr memory ↦ absurd (cc (memory.0))
      ]

  -- ---- what refuses

  module _ (answer : Status) (is : RunAnswers call old new before after answer) where
    pub peer_told : (request : PeerRequest) (r : Refusal) → call.asked ≡ asked.Exchange request → PeerCause request.command request.pair old r → IsRefusedOrFault r answer
    peer_told request r asks cause =
        let e = exchanged call request old new before after answer asks is in
        let told = printed_told call (text_of e.result) before after (status_of e.result) answer e.printed in
        one_told r answer (elim cause [
          | inl packed ↦ packed_told request.command request.pair call.moment.now old new r packed e.result answer (e.done tells) told
          | inr begun ↦ begun_told request.pair call.moment.now old new r request.command begun e.result answer (e.done tells) told
        ])

    pub merge_told : (request : MergeRequest) (end : History) (r : Refusal) → call.asked ≡ asked.Merge request → MergeCause request.folder request.remote call.moment.now old end r → IsRefusedSo (AreAlike r) answer
    merge_told request end r asks cause =
        let m = merged call request old new before after answer asks is in
        merge_by request call.moment.now old new end r cause m.result answer (m.done tells) (printed_told call (text_of m.result) before after (status_of m.result) answer m.printed)

    pub merge_tells_ref : (request : MergeRequest) (kind : EntityWord) (r : Refusal) → call.asked ≡ asked.Merge request → packed_reads (files_of old) request.folder ≡ true → HasUser request.folder (files_of old)
        → RefBarred request.folder request.remote (files_of old) kind r → IsRefusedSo (λ s. (r ≡ s) ⊎ IsTakenSooner kind s) answer
    merge_tells_ref request kind r asks reads user barred =
        let m = merged call request old new before after answer asks is in
        let Guarding = MergeGuards request call.moment.now old new in
        refused_told (λ s. (r ≡ s) ⊎ IsTakenSooner kind s) m.result answer (λ said e. never said (subst Guarding e (m.done tells)))
        (λ s e. so s (refused_by (first_unread (files_of old) (request.folder ∷ [])) (MergeTold request call.moment.now old new) old new (look_done (files_of old) request.folder reads) s (subst Guarding e (m.done tells))))
        (printed_told call (text_of m.result) before after (status_of m.result) answer m.printed)
      where
        never : (said : Answer) → MergeGuards request call.moment.now old new (Ok said) → ⊥
        never said (inl unbegun) = unbegun.0
        never said (inr done) = refs_unbarred request.folder request.remote call.moment.now old new done.1.0 kind r barred done.1.1

        so : (s : Refusal) → MergeTold request call.moment.now old new (Err (stop.Refused s)) → (r ≡ s) ⊎ IsTakenSooner kind s
        so s told = elim (merge_stopped request call.moment.now old new s told) [
          | inl cause ↦ absurd (user_clears (files_of old) request.folder s user cause)
          | inr at ↦ refs_told request.folder request.remote call.moment.now old new kind r s barred at
        ]

    pub pull_told : (pair : FolderPair) (remote : RemoteName) → call.asked ≡ asked.Exchange (record { pair = pair; command = Pull remote }) → (free : (r : Refusal) → PeerCause (Pull remote) pair old r → ⊥)
        → IsFault answer ⊎ MergesThen pair remote call.moment.now old new free answer
    pull_told pair remote asks free =
        let e = exchanged call (record { pair = pair; command = Pull remote }) old new before after answer asks is in
        pull_then pair remote call.moment.now old new free e.result answer (e.done tells) (printed_told call (text_of e.result) before after (status_of e.result) answer e.printed)

    pub pull_writes_nothing : (pair : FolderPair) (remote : RemoteName) (r : Refusal) → call.asked ≡ asked.Exchange (record { pair = pair; command = Pull remote }) → UserCause pair.own (files_of old) r → new ≡ old
    pull_writes_nothing pair remote r asks cause =
        let e = exchanged call (record { pair = pair; command = Pull remote }) old new before after answer asks is in
        by e.result (e.done tells)
      where
        by : (result : Result Answer Stop) → Guards pair call.moment.now old new r (Pull remote) result → new ≡ old
        by result (inl unbegun) = unbegun.1
        by result (inr began) = pull_still pair remote call.moment.now old new r cause result began.1

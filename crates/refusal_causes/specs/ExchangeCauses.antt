-- The cause of each refusal of an exchange or of a merge as a whole.
use Rattle.std.specs.Prelude.{◌≡◌, ◌⊎◌, ℕ, true, List, Result, Ok}
use Rattle.gb_text.specs.Folder.{joined}
use Rattle.gb_text.specs.declared.id.Id.{Id}
use Rattle.gb_store.specs.Files.{Files, History, files_of}
use Rattle.merge_steps.specs.Turns.{MergeAnswers}
use Rattle.merge_steps.specs.declared.line.MergeLine.{MergeLine}
use Rattle.merge_steps.specs.declared.stop.MergeStop.{MergeStop}
use Rattle.ref_store.specs.Refs.{packed_reads}
use Rattle.remote_name.specs.declared.remote.RemoteName.{RemoteName}
use Rattle.repo_state.specs.Users.{BadUser, NoUser, User, user_at, user_place}
use Rattle.repo_steps.specs.declared.refusal.Refusal.{Refusal}
use Rattle.repo_steps.specs.declared.refusal.Refusal.TheVariants as refusal
use Rattle.sync_steps.specs.Fetching.{FetchAnswers}
use Rattle.sync_steps.specs.declared.line.Line.{Line}
use Rattle.words.specs.declared.pair.FolderPair.{FolderPair}
use Rattle.words.specs.declared.words.PeerCommand.{PeerCommand}
use Rattle.words.specs.declared.words.PeerCommand.TheVariants.{Fetch, Pull, Push}
use Rattle.refusal_causes.specs.Causes.{IsUnread, LooksFirst}
use Rattle.refusal_causes.specs.TurnCauses.{FetchBarred, MergeBarred, PushBarred}

-- ---- the user

-- there is no user
abbrev pub LacksUser : List ℕ → Files → Refusal → Type 0
LacksUser folder files r = (user_at files folder ≡ NoUser) × (r ≡ refusal.NoUser)

-- or the user file names no local identity
abbrev pub HasBadUser : List ℕ → Files → Refusal → Type 0
HasBadUser folder files r = (user_at files folder ≡ BadUser) × (r ≡ refusal.Damaged (joined folder user_place))

abbrev pub UserCause : List ℕ → Files → Refusal → Type 0
UserCause folder files r = LacksUser folder files r ⊎ HasBadUser folder files r

-- there is a user
abbrev pub HasUser : List ℕ → Files → Type 0
HasUser folder files = (user : Id) × (user_at files folder ≡ User user)

-- ---- the packed refs

-- of a command with a peer: the packed refs of the own folder do not read, or those of the peer; a pull looks at the peer only where a
-- user file stands
abbrev pub PairCause : FolderPair → Files → Refusal → Type 0
PairCause pair files r = LooksFirst files pair.own (IsUnread files pair.peer) r

abbrev pub PackedCause : PeerCommand → FolderPair → Files → Refusal → Type 0
PackedCause (Fetch remote) pair files r = PairCause pair files r
PackedCause (Pull remote) pair files r = LooksFirst files pair.own (λ s. (user_at files pair.own ≡ NoUser → ⊥) × IsUnread files pair.peer s) r
PackedCause Push pair files r = PairCause pair files r

-- those of both folders read
abbrev pub BothRead : FolderPair → Files → Type 0
BothRead pair files = (packed_reads files pair.own ≡ true) × (packed_reads files pair.peer ≡ true)

-- ---- of a whole call, at entry

-- where the packed refs read: a ref bars a fetch or a push; or, of a pull, there is no user or a bad one, or there is one and a ref bars
-- its fetch
abbrev pub BegunCause : PeerCommand → FolderPair → History → Refusal → Type 0
BegunCause (Fetch remote) pair old r = BothRead pair (files_of old) × FetchBarred pair.own pair.peer remote (files_of old) r
BegunCause (Pull remote) pair old r =
    ((packed_reads (files_of old) pair.own ≡ true) × LacksUser pair.own (files_of old) r)
    ⊎ (BothRead pair (files_of old)
    × (HasBadUser pair.own (files_of old) r ⊎ (HasUser pair.own (files_of old) × FetchBarred pair.own pair.peer remote (files_of old) r)))
BegunCause Push pair old r = BothRead pair (files_of old) × PushBarred pair.own pair.peer old r

abbrev pub PeerCause : PeerCommand → FolderPair → History → Refusal → Type 0
PeerCause command pair old r = PackedCause command pair (files_of old) r ⊎ BegunCause command pair old r

-- of a merge: the packed refs do not read; or there is no user, or a bad one; or a turn fails, once those before it were had
abbrev pub MergeCause : List ℕ → RemoteName → ℕ → History → History → Refusal → Type 0
MergeCause folder remote now old new r =
    LooksFirst (files_of old) folder (λ s. UserCause folder (files_of old) s ⊎ MergeBarred folder remote now old new s) r

-- ---- the merge of a pull

-- the fetch of a pull was done, and left this
abbrev pub IsFetched : FolderPair → RemoteName → History → History → Type 0
IsFetched pair remote old mid = (lines : List Line) × FetchAnswers pair.own pair.peer remote old mid (Ok lines)

-- a merge that began there led to this, however it answered
abbrev pub IsMergedFrom : FolderPair → RemoteName → ℕ → History → History → Type 0
IsMergedFrom pair remote now mid new = (result : Result (List MergeLine) MergeStop) × MergeAnswers pair.own remote now mid new result

-- a turn of the merge of a pull fails, which began with what its fetch left
abbrev pub PullBarred : PeerCommand → FolderPair → ℕ → History → History → Refusal → Type 0
PullBarred (Fetch remote) pair now old new r = ⊥
PullBarred (Pull remote) pair now old new r = (mid : History) × IsFetched pair remote old mid × MergeBarred pair.own remote now mid new r
PullBarred Push pair now old new r = ⊥

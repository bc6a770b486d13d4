-- Where a command looks before all else: at the packed refs of its folders.
use Rattle.std.specs.Prelude.{◌≡◌, ◌⊎◌, ⊤, ℕ, Bool, true, if◌then◌else◌, is_some, List, [], ◌∷◌, Option, Some, None, Result, Ok, Err}
use Rattle.gb_text.specs.Folder.{joined}
use Rattle.gb_store.specs.Files.{Files, History}
use Rattle.ref_store.specs.Refs.{packed_place, packed_reads}
use Rattle.repo_state.specs.Users.{user_place}
use Rattle.repo_steps.specs.declared.refusal.Refusal.TheVariants as refusal
use Rattle.repo_steps.specs.declared.refusal.Stop.{Stop}
use Rattle.repo_steps.specs.declared.refusal.Stop.TheVariants as stop
use Rattle.words.specs.declared.pair.FolderPair.{FolderPair}
use Rattle.words.specs.declared.words.PeerCommand.{PeerCommand}
use Rattle.words.specs.declared.words.PeerCommand.TheVariants.{Fetch, Pull, Push}

-- the first of some folders whose packed refs do not read
abbrev pub first_unread : Files → List (List ℕ) → Option (List ℕ)
first_unread files [] = None
first_unread files (folder ∷ more) = if packed_reads files folder then first_unread files more else Some folder

-- the folders of a command with a peer, in the order in which it looks: a pull asks for the user before it looks at the peer
abbrev pub looks_at_peer : PeerCommand → FolderPair → Files → Bool
looks_at_peer (Fetch remote) pair files = true
looks_at_peer (Pull remote) pair files = is_some (files (joined pair.own user_place))
looks_at_peer Push pair files = true

abbrev pub pair_looks : PeerCommand → FolderPair → Files → List (List ℕ)
pair_looks command pair files = pair.own ∷ (if looks_at_peer command pair files then pair.peer ∷ [] else [])

-- nothing was done: the packed refs of this folder do not read, which is the refusal; or memory ran out, or the disk failed, before
-- that was known
abbrev pub NotBegun : {A : Type 0} → Option (List ℕ) → Result A Stop → Type 0
NotBegun first (Ok answer) = ⊥
NotBegun first (Err stop.Memory) = ⊤
NotBegun first (Err stop.Disk) = ⊤
NotBegun first (Err (stop.Refused r)) = (folder : List ℕ) × (first ≡ Some folder) × (r ≡ refusal.Damaged (joined folder packed_place))

-- what is asked is done exactly where the packed refs of each folder read, and else nothing is
abbrev pub Guarded : {A : Type 0} → Option (List ℕ) → (Result A Stop → Type 0) → History → History → Result A Stop → Type 0
Guarded first Answers old new result = (NotBegun first result × (new ≡ old)) ⊎ ((first ≡ None) × Answers result)

-- the answer to the look
abbrev pub LookAnswers : Option (List ℕ) → Result Unit Stop → Type 0
LookAnswers first (Ok done) = first ≡ None
LookAnswers first (Err s) = NotBegun {A = Unit} first (Err s)

-- what was read: no object where nothing was done
abbrev pub ReadsGuarded : Type 0 → Type 0 → ℕ → ℕ → Type 0
ReadsGuarded IsDone Reads before after = ((IsDone → ⊥) × (after ≡ before)) ⊎ Reads

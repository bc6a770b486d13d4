-- What is to be merged, and by whom.
use Rattle.std.specs.Prelude.{◌≡◌, ⊤, ℕ, List, Result, Ok, Err}
use Rattle.gb_store.specs.Files.{Files, History, files_of}
use Rattle.remote_name.specs.declared.remote.RemoteName.{RemoteName}
use Rattle.repo_state.specs.Answers.{IsBadUser}
use Rattle.repo_state.specs.Listed.{AreRefs}
use Rattle.repo_state.specs.Sides.{AreIds}
use Rattle.repo_state.specs.Users.{NoUser, User, user_at}
use Rattle.repo_state.specs.declared.side.Side.TheVariants as side
use Rattle.merge_steps.specs.declared.stop.MergeStop.{MergeStop}
use Rattle.merge_steps.specs.declared.stop.MergeStop.TheVariants as stop
use Rattle.repo_merge.specs.declared.listing.Listing.{Listing}
use Rattle.repo_merge.specs.declared.listing.Locals.{Locals}

-- the user, the refs that stand on the tracking sides of a remote, and those of the local identities
pub record IsListing (files : Files) (folder : List ℕ) (remote : RemoteName) (listing : Listing) : Type 0 where
  pub is_user : user_at files folder ≡ User listing.user
  pub people_side : listing.people_side ≡ side.RemoteIdentities remote
  pub are_people : AreRefs files folder (side.RemoteIdentities remote) listing.people
  pub bugs_side : listing.bugs_side ≡ side.RemoteBugs remote
  pub are_bugs : AreRefs files folder (side.RemoteBugs remote) listing.bugs
  pub here_side : listing.people_here.side ≡ side.Identities
  pub are_here : AreRefs files folder side.Identities listing.people_here.refs

-- the answer to what they are
abbrev pub ListAnswers : List ℕ → RemoteName → History → Result Listing MergeStop → Type 0
ListAnswers folder remote old (Ok listing) = IsListing (files_of old) folder remote listing
ListAnswers folder remote old (Err stop.Memory) = ⊤
ListAnswers folder remote old (Err stop.Disk) = ⊤
ListAnswers folder remote old (Err stop.NoUser) = user_at (files_of old) folder ≡ NoUser
ListAnswers folder remote old (Err (stop.Damaged path)) = IsBadUser (files_of old) folder path
ListAnswers folder remote old (Err (stop.Taken name)) = ⊥

-- the local identities, and the refs that stand on the side of the local bugs
pub record HasLocals (files : Files) (folder : List ℕ) (locals : Locals) : Type 0 where
  pub are_authors : AreIds files folder side.Identities locals.authors
  pub bugs_side : locals.bugs.side ≡ side.Bugs
  pub are_bugs : AreRefs files folder side.Bugs locals.bugs.refs

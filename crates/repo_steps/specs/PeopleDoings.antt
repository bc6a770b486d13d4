-- What each command on people does: when it is refused, what it writes, and the id that it
-- returns.
use Rattle.std.specs.Prelude.{◌≡◌, ◌<◌, ◌⊎◌, ◌+◌, ℕ, List, [], ◌∷◌, ◌++◌, length, Option, Some, None}
use Rattle.std.specs.Option.{option_map}
use Rattle.gb_text.specs.Folder.{joined}
use Rattle.gb_text.specs.declared.id.Id.{Id}
use Rattle.gb_text.specs.declared.id.Name.{Name}
use Rattle.gb_text.specs.declared.ruled.Line.{Line}
use Rattle.gb_text.specs.declared.ruled.Title.{Title}
use Rattle.gb_store.specs.Files.{Files, History, files_of}
use Rattle.gb_store.specs.declared.store.Change.{Change}
use Rattle.object_store.specs.Held.{objects_in}
use Rattle.commit_walk.specs.declared.below.TheConstants.{MOST_COMMITS}
use Rattle.object_batch.specs.Batches.{missing_writes}
use Rattle.ref_store.specs.Refs.{Head, Bad}
use Rattle.ref_store.specs.Setting.{ref_write}
use Rattle.identity.specs.Making.{made_of, version_objects}
use Rattle.identity.specs.Persons.{IdentityFaultHolds, IsChain}
use Rattle.identity.specs.Version.{version_text_of}
use Rattle.identity.specs.declared.fault.IdentityFault.{IdentityFault}
use Rattle.identity.specs.declared.making.Made.{Made}
use Rattle.bug_edits.specs.NewOps.{nonce_from}
use Rattle.repo_state.specs.Finds.{person_finder}
use Rattle.repo_state.specs.Sides.{head_at, ref_place}
use Rattle.repo_state.specs.Users.{UserFound, BadUser, NoUser, User, user_at, user_entry, user_write}
use Rattle.repo_steps.specs.declared.env.Env.{Env}
use Rattle.repo_steps.specs.declared.refusal.Refusal.TheVariants as refusal
use Rattle.repo_state.specs.declared.side.HeadEntry.{HeadEntry}
use Rattle.repo_state.specs.declared.side.Side.TheVariants as side
use Rattle.repo_steps.specs.Checks.{Check}
use Rattle.repo_steps.specs.Doing.{Doing, HeadSet, user_file, some_user, sizes, fresh, names, found}

-- ---- checks

-- the user, whose head has a chain without a fault
pub record HasUser (folder : List ℕ) (files : Files) : Type 0 where
  pub id : Id
  pub is_user : user_at files folder ≡ User id
  pub head : Name
  pub has_head : head_at files folder side.Identities id ≡ Head head
  pub chain : IsChain (objects_in files folder) id head

-- an identity's ref is no ref text, or the chain from its head has a fault
abbrev pub HasBadChain : List ℕ → Files → Id → Type 0
HasBadChain folder files id =
    (head_at files folder side.Identities id ≡ Bad)
    ⊎ ((head : Name) × (head_at files folder side.Identities id ≡ Head head) × (fault : IdentityFault) × IdentityFaultHolds (objects_in files folder) id head fault)

-- the chain of the user has no fault
abbrev pub user_chain : List ℕ → Files → Check
user_chain folder files = record {
  Fails = λ r. (id : Id) × (user_at files folder ≡ User id) × HasBadChain folder files id × (r ≡ refusal.Damaged (joined folder (ref_place side.Identities id)));
  Passes = HasUser folder files;
}

-- it has room for one version more
abbrev pub user_room : List ℕ → Files → Check
user_room folder files = record {
  Fails = λ r. (user : HasUser folder files) × (length user.chain.walk ≡ MOST_COMMITS) × (r ≡ refusal.TooLarge (MOST_COMMITS + 1));
  Passes = (user : HasUser folder files) × (length user.chain.walk < MOST_COMMITS);
}

-- ---- versions

-- the text of the version of a name and an email that a command makes
abbrev pub new_text : Env → Title → Line → List ℕ
new_text env name email = version_text_of name.text email.text (nonce_from env.moment.seed) env.moment.now

-- what it makes of it
abbrev pub new_made : Env → Title → Line → Option Name → Made
new_made env name email parent = made_of (new_text env name email) parent env.moment.now

-- the texts of its objects
abbrev pub new_objects : Env → Title → Line → Option Name → List (List ℕ)
new_objects env name email parent = version_objects (new_text env name email) parent env.moment.now

-- the objects of a version that don't stand yet, then its head
abbrev pub version_writes : Env → Title → Line → Id → Option Name → Files → List Change
version_writes env name email id parent files =
    missing_writes env.folder (new_objects env name email parent) files
    ++ ref_write env.folder (ref_place side.Identities id) (new_made env name email parent).head ∷ []

-- behind the head of the user
abbrev pub user_writes : Env → Title → Line → Files → Option HeadEntry → List Change
user_writes env name email files None = []
user_writes env name email files (Some user) = version_writes env name email user.id (Some user.name) files

-- ---- the user file

-- the user file, where there was no user
abbrev pub first_user_write : List ℕ → UserFound → Id → List Change
first_user_write folder NoUser id = user_write folder id ∷ []
first_user_write folder (User other) id = []
first_user_write folder BadUser id = []

-- ---- heads

-- the first version of a new person, which has no parent
abbrev pub person_set : Env → Title → Line → HeadSet
person_set env name email =
    record { of = side.Identities; id = (new_made env name email None).id; head = (new_made env name email None).head; parents = [] }

-- the next version of the user, over the present head
abbrev pub version_set : Env → Title → Line → HeadEntry → HeadSet
version_set env name email user =
    record { of = side.Identities; id = user.id; head = (new_made env name email (Some user.name)).head; parents = user.name ∷ [] }

-- ---- the commands

-- a new identity of one version, which becomes the user where no user file stands
abbrev pub new_user : Env → Title → Line → History → Doing
new_user env name email old = record {
  checks =
      user_file env.folder (files_of old) ∷
      sizes (new_objects env name email None) ∷
      fresh env.folder (files_of old) side.Identities (new_made env name email None).id ∷
      names env.folder (new_objects env name email None) old ∷ [];
  objects = new_objects env name email None;
  sets = Some (person_set env name email);
  shows = [];
  writes =
      version_writes env name email (new_made env name email None).id None (files_of old)
      ++ first_user_write env.folder (user_at (files_of old) env.folder) (new_made env name email None).id;
  told = Some (new_made env name email None).id;
}

-- a new version of the user, behind the others
abbrev pub edited_user : Env → Title → Line → History → Doing
edited_user env name email old =
    let user = user_entry (files_of old) env.folder in
    let parent = option_map (λ (e : HeadEntry). e.name) user in
    record {
      checks =
          user_file env.folder (files_of old) ∷
          some_user env.folder (files_of old) ∷
          user_chain env.folder (files_of old) ∷
          user_room env.folder (files_of old) ∷
          sizes (new_objects env name email parent) ∷
          names env.folder (new_objects env name email parent) old ∷ [];
      objects = new_objects env name email parent;
      sets = option_map (version_set env name email) user;
      shows = [];
      writes = user_writes env name email (files_of old) user;
      told = option_map (λ (e : HeadEntry). e.id) user;
    }

-- the person that the word finds becomes the user
abbrev pub set_user : Env → List ℕ → Id → History → Doing
set_user env word person old = record {
  checks = found (person_finder (files_of old) env.folder word) person ∷ [];
  objects = [];
  sets = None;
  shows = [];
  writes = user_write env.folder person ∷ [];
  told = Some person;
}

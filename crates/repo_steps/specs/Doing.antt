-- What a command that edits does, and the checks and values that several of them share.
use Rattle.std.specs.Prelude.{◌≡◌, ◌+◌, ℕ, List, All, false, IsTrue, Option}
use Rattle.gb_text.specs.Folder.{joined}
use Rattle.gb_text.specs.declared.id.Id.{Id}
use Rattle.gb_text.specs.declared.id.Name.{Name}
use Rattle.gb_store.specs.Files.{Files, History}
use Rattle.gb_store.specs.declared.store.Change.{Change}
use Rattle.object_store.specs.declared.read.TheConstants.{MOST_BYTES}
use Rattle.object_batch.specs.Batches.{CannotHave, HasLong, MayBePut}
use Rattle.object_store.specs.Texts.{IsShort}
use Rattle.repo_state.specs.Finds.{Finder}
use Rattle.repo_state.specs.Sides.{has_ref}
use Rattle.repo_state.specs.Users.{BadUser, NoUser, user_at, user_place}
use Rattle.repo_state.specs.declared.clocks.ClockFile.{ClockFile}
use Rattle.repo_steps.specs.declared.refusal.Refusal.TheVariants as refusal
use Rattle.repo_state.specs.declared.side.Side.{Side}
use Rattle.repo_state.specs.declared.stop.Missed.{Missed}
use Rattle.repo_steps.specs.Checks.{Check}
use Rattle.repo_steps.specs.Stops.{of_missed}

-- a head that a command sets: of which side and id, and the parents of its commit
pub record HeadSet : Type 0 where
  pub of : Side
  pub id : Id
  pub head : Name
  pub parents : List Name

-- a clock that is shown to a clock file
pub record Shown : Type 0 where
  pub which : ClockFile
  pub number : ℕ

-- What a command does: its checks in their order; the texts of the objects that it makes, the head that it sets if it sets one,
-- and the clocks that it shows; its writes in their order, which are of these and perhaps of the user; and the id that it tells.
pub record Doing : Type 1 where
  pub checks : List Check
  pub objects : List (List ℕ)
  pub sets : Option HeadSet
  pub shows : List Shown
  pub writes : List Change
  pub told : Option Id

-- ---- checks

-- a user file that stands names a local identity
abbrev pub user_file : List ℕ → Files → Check
user_file folder files = record {
  Fails = λ r. (user_at files folder ≡ BadUser) × (r ≡ refusal.Damaged (joined folder user_place));
  Passes = user_at files folder ≡ BadUser → ⊥;
}

-- there is a user
abbrev pub some_user : List ℕ → Files → Check
some_user folder files = record { Fails = λ r. (user_at files folder ≡ NoUser) × (r ≡ refusal.NoUser); Passes = user_at files folder ≡ NoUser → ⊥ }

-- no object is too large
abbrev pub sizes : List (List ℕ) → Check
sizes texts = record { Fails = λ r. HasLong texts × (r ≡ refusal.TooLarge (MOST_BYTES + 1)); Passes = All IsShort texts }

-- no ref of this id stands
abbrev pub fresh : List ℕ → Files → Side → Id → Check
fresh folder files of id = record {
  Fails = λ r. IsTrue (has_ref files folder of id) × (r ≡ refusal.EntityExists id);
  Passes = has_ref files folder of id ≡ false;
}

-- no name of an object is taken by another text
abbrev pub names : List ℕ → List (List ℕ) → History → Check
names folder texts old = record { Fails = λ r. (name : Name) × CannotHave folder texts old name × (r ≡ refusal.NameTaken name); Passes = MayBePut folder texts old }

-- a word finds this
abbrev pub found : {T : Type 0} → Finder T → T → Check
found finder value = record { Fails = λ r. (why : Missed) × finder.Fails why × (r ≡ of_missed why); Passes = finder.Found value }

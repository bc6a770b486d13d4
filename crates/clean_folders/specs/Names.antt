-- The texts that a merge names in its folder, each with its own name.
use Rattle.std.specs.Prelude.{◌≡◌, ◌⊎◌, ℕ, List, Contains, Option, Some}
use Rattle.gb_text.specs.declared.id.Id.{Id}
use Rattle.gb_text.specs.declared.id.Name.{Name}
use Rattle.gb_store.specs.Files.{History, files_of}
use Rattle.git_object.specs.Grammar.{object_name}
use Rattle.object_store.specs.Held.{objects_after}
use Rattle.entity_merge.specs.declared.word.Merged.TheVariants as merged
use Rattle.repo_state.specs.Users.{User, user_at}
use Rattle.merge_steps.specs.Merging.{HasPlan}

-- an object's text of the commit that would join two heads of a bug that the folder has, by its user of before, at this time
pub record IsOfAJoin (folder : List ℕ) (now : ℕ) (old new : History) (text : List ℕ) : Type 0 where
  pub user : Id
  pub is_user : user_at (files_of old) folder ≡ User user
  pub id : Id
  pub local : Option Name
  pub tracked : Name
  pub authors : List Id
  pub head : Name
  pub edit : ℕ
  pub create : ℕ
  pub texts : List (List ℕ)
  pub plan : HasPlan folder user authors now id local tracked (merged.Joined head) edit create texts new
  pub member : Contains texts text

-- a text that a merge may name: one that stands in the folder under its name, or one of such a commit
abbrev pub MayBeNamed : List ℕ → ℕ → History → History → List ℕ → Type 0
MayBeNamed folder now old new text = (objects_after new folder (object_name text) ≡ Some text) ⊎ IsOfAJoin folder now old new text

-- each of these texts has its own name: no two that differ have one SHA-1
abbrev pub HaveOneNameEach : List ℕ → ℕ → History → History → Type 0
HaveOneNameEach folder now old new = (one two : List ℕ) → MayBeNamed folder now old new one → MayBeNamed folder now old new two → object_name one ≡ object_name two → one ≡ two

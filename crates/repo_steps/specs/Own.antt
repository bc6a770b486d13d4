-- What each write of a command is, in plain words: an object that it makes, the head that it sets, a clock that has seen the one of its commit, or the user.
use Rattle.std.specs.Prelude.{◌≡◌, ℕ, List, Contains, Some}
use Rattle.gb_text.specs.declared.id.Id.{Id}
use Rattle.gb_store.specs.Files.{History, files_of}
use Rattle.gb_store.specs.declared.store.Change.{Change}
use Rattle.object_store.specs.Puts.{object_write}
use Rattle.ref_store.specs.Setting.{ref_write}
use Rattle.lamport.specs.Clock.{seen_by}
use Rattle.repo_state.specs.Clocks.{clock_at, clock_write}
use Rattle.repo_state.specs.Sides.{ref_place}
use Rattle.repo_state.specs.Users.{user_write}
use Rattle.repo_steps.specs.declared.env.Env.{Env}
use Rattle.repo_steps.specs.Doing.{Doing, HeadSet, Shown}

-- what a change is that a command makes, by what it does and the files at entry
pub data IsOwn (env : Env) (doing : Doing) (entry : History) (change : Change) : Type 0 where
  an_object : (text : List ℕ) → Contains doing.objects text → change ≡ object_write env.folder text → IsOwn env doing entry change
  a_head : (set : HeadSet) → doing.sets ≡ Some set → change ≡ ref_write env.folder (ref_place set.of set.id) set.head → IsOwn env doing entry change
  a_clock : (shown : Shown) → Contains doing.shows shown
      → change ≡ clock_write env.folder shown.which (seen_by (clock_at (files_of entry) env.folder shown.which) shown.number) → IsOwn env doing entry change
  the_user : (id : Id) → doing.told ≡ Some id → change ≡ user_write env.folder id → IsOwn env doing entry change

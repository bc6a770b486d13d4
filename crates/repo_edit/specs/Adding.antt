-- The writes that put objects and then set a head.
use Rattle.std.specs.Prelude.{◌≡◌, ◌+◌, ⊤, ℕ, List, [], ◌∷◌, ◌++◌, All, Vec, Option, Some, None, Result, Ok, Err}
use Rattle.std.specs.declared.alloc.Global.{Global}
use Rattle.gb_text.specs.declared.id.Id.{Id}
use Rattle.gb_text.specs.declared.id.Name.{Name}
use Rattle.gb_store.specs.Files.{History, files_of}
use Rattle.gb_store.specs.declared.store.Change.{Change}
use Rattle.object_store.specs.Texts.{IsShort}
use Rattle.object_store.specs.declared.fault.PutFault.{PutFault}
use Rattle.object_store.specs.declared.fault.PutFault.TheVariants as fault
use Rattle.object_store.specs.declared.read.TheConstants.{MOST_BYTES}
use Rattle.object_batch.specs.Batches.{CannotHave, HasLong, MayBePut, missing_writes}
use Rattle.ref_store.specs.Setting.{ref_write}
use Rattle.repo_state.specs.Sides.{ref_place}
use Rattle.repo_state.specs.Users.{user_write}
use Rattle.repo_state.specs.declared.side.Side.{Side}

-- the objects of these texts that are missing, and then the head of an id; or why one of the objects is refused
abbrev pub AddsHead : List ℕ → Side → Id → Name → List (List ℕ) → History → Result (Vec Change Global) PutFault → Type 0
AddsHead folder of id head texts old (Ok writes) = MayBePut folder texts old × (writes.items ≡ missing_writes folder texts (files_of old) ++ ref_write folder (ref_place of id) head ∷ [])
AddsHead folder of id head texts old (Err fault.Memory) = ⊤
AddsHead folder of id head texts old (Err fault.Disk) = ⊤
AddsHead folder of id head texts old (Err (fault.Large count)) = (count ≡ MOST_BYTES + 1) × HasLong texts
AddsHead folder of id head texts old (Err (fault.Taken name)) = All IsShort texts × CannotHave folder texts old name

-- the write of the user, where none was found
abbrev pub first_write : List ℕ → Option Id → Id → List Change
first_write folder None id = user_write folder id ∷ []
first_write folder (Some user) id = []

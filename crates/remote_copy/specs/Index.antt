-- What a copy has met, as marks by name and kind.
use Rattle.std.specs.Prelude.{◌≡◌, ◌≢◌, ◌⊎◌, ◌≤◌, IsTrue, ℕ, List, Contains, Option, Some}
use Rattle.std.specs.BTreeMap.{BTreeMap, get}
use Rattle.std.specs.BTreeSet.{contains}
use Rattle.std.specs.Cmp.Lexicographic.{slice_cmp}
use Rattle.std.specs.Ordering.{nat_cmp}
use Rattle.std.specs.declared.cmp.Ordering.{Ordering}
use Rattle.gb_text.specs.declared.id.Name.{Name}
use Rattle.gb_store.specs.Counts.{raised}
use Rattle.git_object.specs.declared.frame.Kind.{Kind}
use Rattle.git_object.specs.declared.frame.Kind.TheVariants as kinds
use Rattle.remote_copy.specs.declared.index.Index.{Index}
use Rattle.remote_copy.specs.declared.index.Mark.{Mark}
use Rattle.remote_copy.specs.declared.index.Mark.TheVariants as mark
use Rattle.remote_copy.specs.declared.need.Need.{Need}

-- names are in the order of their bytes
abbrev pub by_bytes : Name → Name → Ordering
by_bytes one two = slice_cmp nat_cmp one.bytes two.bytes

-- the marks of the objects of a kind
abbrev pub marks_of : Index → Kind → BTreeMap Name Mark
marks_of index kinds.Blob = index.blobs
marks_of index kinds.Tree = index.trees
marks_of index kinds.Commit = index.commits

-- how far an object has come, if it was met
abbrev pub mark_of : Index → Kind → Name → Option Mark
mark_of index kind name = get by_bytes (marks_of index kind) name

-- the object of this name was opened, as one of some kind
abbrev pub WasOpened : Index → Name → Type 0
WasOpened index name = IsTrue (contains by_bytes index.opened name)

-- the name of an object that is open was opened, and no other was but those before
pub record Opens (old new : Index) (need : Need) (set : Mark) : Type 0 where
  pub opens : set ≡ mark.Open → WasOpened new need.name
  pub stays : (name : Name) → WasOpened old name → WasOpened new name
  pub back : (name : Name) → WasOpened new name → WasOpened old name ⊎ ((set ≡ mark.Open) × (name ≡ need.name))

-- the same, and all marks are as before
pub record Notes (old new : Index) (need : Need) (set : Mark) : Type 0 where
  pub names : Opens old new need set
  pub blobs : new.blobs ≡ old.blobs
  pub trees : new.trees ≡ old.trees
  pub commits : new.commits ≡ old.commits

-- the index has this mark, and all others as before
pub record Sets (old new : Index) (need : Need) (set : Mark) : Type 0 where
  pub here : mark_of new need.kind need.name ≡ Some set
  pub others : (other : Need) → other ≢ need → mark_of new other.kind other.name ≡ mark_of old other.kind other.name
  pub names : Opens old new need set

-- an object is done, with so many trees below it
abbrev pub IsDoneAt : Index → Need → ℕ → Type 0
IsDoneAt index need height = mark_of index need.kind need.name ≡ Some (mark.Done height)

-- an object is done
abbrev pub IsDone : Index → Need → Type 0
IsDone index need = (height : ℕ) × IsDoneAt index need height

-- an object was met
abbrev pub IsMet : Index → Need → Type 0
IsMet index need = (set : Mark) × (mark_of index need.kind need.name ≡ Some set)

-- how many trees there are from a tree down that is done; none from another object
abbrev pub level_at : Kind → Option Mark → ℕ
level_at kinds.Tree (Some (mark.Done height)) = raised height
level_at _ _ = 0

abbrev pub level_of : Index → Need → ℕ
level_of index need = level_at need.kind (mark_of index need.kind need.name)

-- the greatest of their levels
pub record IsHeight (index : Index) (needs : List Need) (height : ℕ) : Type 0 where
  pub above : (need : Need) → Contains needs need → level_of index need ≤ height
  pub some : (height ≡ 0) ⊎ ((need : Need) × Contains needs need × (level_of index need ≡ height))

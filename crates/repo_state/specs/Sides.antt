-- The refs of a folder: where those of each side are stored, and what they read as.
use Rattle.std.specs.Prelude.{◌≡◌, ◌↔◌, ℕ, List, ◌++◌, codes, map, Contains, Bool, IsTrue}
use Rattle.std.specs.declared.cmp.Ordering.TheVariants.{Less}
use Rattle.std.specs.Cmp.Lexicographic.{slice_cmp}
use Rattle.std.specs.List.Sorted.{IsStrictlySortedBy}
use Rattle.std.specs.Ordering.{nat_cmp}
use Rattle.gb_text.specs.Digits.{IsId}
use Rattle.gb_text.specs.Folder.{joined}
use Rattle.gb_text.specs.declared.id.Id.{Id}
use Rattle.gb_store.specs.Files.{Files}
use Rattle.ref_store.specs.Listing.{id_place}
pub use Rattle.ref_store.specs.Refs.{is_there}
use Rattle.ref_store.specs.Refs.{Ref, Head, Bad, ref_at}
use Rattle.repo_state.specs.declared.side.Side.{Side}
use Rattle.repo_state.specs.declared.side.Side.TheVariants as side
use Rattle.repo_state.specs.declared.side.HeadEntry.{HeadEntry}

-- the dir of a side's refs, below its folder
abbrev pub dir_of : Side → List ℕ
dir_of side.Bugs = codes "refs/bugs"
dir_of side.Identities = codes "refs/identities"
dir_of (side.RemoteBugs remote) = codes "refs/remotes/" ++ remote.text ++ codes "/bugs"
dir_of (side.RemoteIdentities remote) = codes "refs/remotes/" ++ remote.text ++ codes "/identities"

-- where the ref of an id stands, below its folder
abbrev pub ref_place : Side → Id → List ℕ
ref_place of id = id_place (dir_of of) id

-- the ref of an id
abbrev pub head_at : Files → List ℕ → Side → Id → Ref
head_at files folder of id = ref_at files folder (ref_place of id)

-- a ref of the id stands
abbrev pub has_ref : Files → List ℕ → Side → Id → Bool
has_ref files folder of id = is_there (head_at files folder of id)

-- the ids whose refs stand, each once, in the order of their bytes
pub record AreIds (files : Files) (folder : List ℕ) (of : Side) (ids : List Id) : Type 0 where
  pub rising : IsStrictlySortedBy (slice_cmp nat_cmp) (map (λ (id : Id). id.bytes) ids)
  pub members : (id : Id) → Contains ids id ↔ (IsId id × IsTrue (has_ref files folder of id))

-- every ref of a side reads
abbrev pub AllRead : Files → List ℕ → Side → Type 0
AllRead files folder of = (id : Id) → IsId id → head_at files folder of id ≡ Bad → ⊥

-- the heads of all refs, each with its id and once, in the order of the ids' bytes; every ref reads
pub record AreHeads (files : Files) (folder : List ℕ) (of : Side) (heads : List HeadEntry) : Type 0 where
  pub rising : IsStrictlySortedBy (slice_cmp nat_cmp) (map (λ (e : HeadEntry). e.id.bytes) heads)
  pub members : (e : HeadEntry) → Contains heads e ↔ (IsId e.id × (head_at files folder of e.id ≡ Head e.name))
  pub none_bad : AllRead files folder of

-- an id stands before another in the order of their bytes
abbrev pub IsBefore : Id → Id → Type 0
IsBefore one other = slice_cmp nat_cmp one.bytes other.bytes ≡ Less

-- the first id, in that order, of which something is so
pub record IsFirst (IsSo : Id → Type 0) (id : Id) : Type 0 where
  pub is_id : IsId id
  pub is_so : IsSo id
  pub none_before : (other : Id) → IsId other → IsSo other → IsBefore other id → ⊥

-- the ref of this id, at this path, is no ref text
abbrev pub IsBadRef : Files → List ℕ → Side → Id → List ℕ → Type 0
IsBadRef files folder of id path = (path ≡ joined folder (ref_place of id)) × (head_at files folder of id ≡ Bad)

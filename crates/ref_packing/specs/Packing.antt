-- Which refs a pack takes, and what it makes of them.
use Rattle.std.specs.Prelude.{◌≡◌, ◌↔◌, ℕ, List, [], ◌∷◌, ◌++◌, codes, map, Contains, Some}
use Rattle.std.specs.declared.cmp.Ordering.TheVariants.{Less}
use Rattle.std.specs.Cmp.Lexicographic.{slice_cmp}
use Rattle.std.specs.List.Sorted.{IsStrictlySortedBy}
use Rattle.std.specs.Ordering.{nat_cmp}
use Rattle.gb_text.specs.Digits.{IsId}
use Rattle.gb_text.specs.Folder.{joined}
use Rattle.gb_text.specs.declared.id.Id.{Id}
use Rattle.gb_store.specs.Files.{Files, Put, Removed}
use Rattle.gb_store.specs.declared.store.Change.{Change}
use Rattle.packed_refs.specs.Packed.{PackedRef, head_of}
use Rattle.packed_refs.specs.Written.{packed_text}
use Rattle.ref_store.specs.Listing.{id_place}
use Rattle.ref_store.specs.Refs.{Head, Bad, packed_at, packed_place, ref_of}

-- the dirs whose refs are packed, in byte order
abbrev pub packed_dirs : List (List ℕ)
packed_dirs = codes "refs/bugs" ∷ codes "refs/identities" ∷ []

-- the name of the ref of an id in one of these dirs
pub record IsPlace (name : List ℕ) : Type 0 where
  pub dir : List ℕ
  pub of : Contains packed_dirs dir
  pub id : Id
  pub is_id : IsId id
  pub is_place : name ≡ id_place dir id

-- a loose ref with such a name, which reads
pub record IsLoose (files : Files) (folder : List ℕ) (one : PackedRef) : Type 0 where
  pub place : IsPlace one.name
  pub is_head : ref_of (files (joined folder one.name)) ≡ Head one.head

-- one that is no ref text
pub record IsBadLoose (files : Files) (folder name : List ℕ) : Type 0 where
  pub place : IsPlace name
  pub is_bad : ref_of (files (joined folder name)) ≡ Bad

-- the first of those, in byte order of names
pub record IsFirstBad (files : Files) (folder name : List ℕ) : Type 0 where
  pub is_bad : IsBadLoose files folder name
  pub none_before : (other : List ℕ) → IsBadLoose files folder other → slice_cmp nat_cmp other name ≡ Less → ⊥

-- the loose refs, each once, in byte order of names; none is bad
pub record AreLoose (files : Files) (folder : List ℕ) (taken : List PackedRef) : Type 0 where
  pub rising : IsStrictlySortedBy (slice_cmp nat_cmp) (map (λ (one : PackedRef). one.name) taken)
  pub members : (one : PackedRef) → Contains taken one ↔ IsLoose files folder one
  pub none_bad : (name : List ℕ) → IsBadLoose files folder name → ⊥

-- the last of refs with each name, in byte order of names
pub record AreLast (refs last : List PackedRef) : Type 0 where
  pub rising : IsStrictlySortedBy (slice_cmp nat_cmp) (map (λ (one : PackedRef). one.name) last)
  pub members : (one : PackedRef) → Contains last one ↔ (head_of one.name refs ≡ Some one.head)

-- what is taken, and the refs that are packed then: those taken, and the last of each other name
pub record ArePacked (files : Files) (folder : List ℕ) (taken packed : List PackedRef) : Type 0 where
  pub are_loose : AreLoose files folder taken
  pub are_last : AreLast (packed_at files folder ++ taken) packed

-- the writes: the packed text, and then the removal of each ref that was taken
abbrev pub removals : List ℕ → List PackedRef → List Change
removals folder taken = map (λ (one : PackedRef). Removed (joined folder one.name)) taken

abbrev pub pack_writes : List ℕ → List PackedRef → List PackedRef → List Change
pack_writes folder [] packed = []
pack_writes folder (one ∷ taken) packed = Put (joined folder packed_place) (packed_text packed) ∷ removals folder (one ∷ taken)

-- The two kinds of write of a pack, each described by the files at that time. Neither changes a ref.
use Rattle.std.specs.Prelude.{◌≡◌, ◌⊎◌, ℕ, true, List, Some}
use Rattle.gb_text.specs.Folder.{joined}
use Rattle.gb_text.specs.declared.id.Name.{Name}
use Rattle.gb_store.specs.Files.{Files, Put, Removed}
use Rattle.gb_store.specs.declared.store.Change.{Change}
use Rattle.packed_refs.specs.Packed.{head_of, refs_in}
use Rattle.ref_store.specs.Refs.{Head, packed_at, packed_place, packed_reads, reads_as_packed, ref_at, ref_of}
use Rattle.ref_packing.specs.Packing.{IsPlace}

-- The packed refs are put, as a text that reads. Each name that they had, they have; the head of each name is that of its ref, or the one
-- that they gave it before.
pub record IsPackedPut (folder : List ℕ) (files : Files) (change : Change) : Type 0 where
  pub text : List ℕ
  pub before : packed_reads files folder ≡ true
  pub reads : reads_as_packed (Some text) ≡ true
  pub kept : (name : List ℕ) (head : Name) → head_of name (packed_at files folder) ≡ Some head → (now : Name) × (head_of name (refs_in text) ≡ Some now)
  pub heads : (name : List ℕ) (head : Name) → head_of name (refs_in text) ≡ Some head
      → (ref_at files folder name ≡ Head head) ⊎ (head_of name (packed_at files folder) ≡ Some head)
  pub write : change ≡ Put (joined folder packed_place) text

-- A loose ref is removed, to which the packed refs give the head that it has.
pub record IsLooseRemoval (folder : List ℕ) (files : Files) (change : Change) : Type 0 where
  pub name : List ℕ
  pub place : IsPlace name
  pub head : Name
  pub is_loose : ref_of (files (joined folder name)) ≡ Head head
  pub is_packed : head_of name (packed_at files folder) ≡ Some head
  pub write : change ≡ Removed (joined folder name)

-- a write of a pack is of one of these kinds
pub data IsPackWrite (folder : List ℕ) (files : Files) (change : Change) : Type 0 where
  a_packed_put : IsPackedPut folder files change → IsPackWrite folder files change
  a_loose_removal : IsLooseRemoval folder files change → IsPackWrite folder files change

-- All refs of a side that stand, those that are no ref text too.
use Rattle.std.specs.Prelude.{◌≡◌, ◌↔◌, ℕ, List, map, Contains, Option, Some, None}
use Rattle.std.specs.Cmp.Lexicographic.{slice_cmp}
use Rattle.std.specs.List.Sorted.{IsStrictlySortedBy}
use Rattle.std.specs.Ordering.{nat_cmp}
use Rattle.gb_text.specs.Digits.{IsId}
use Rattle.gb_text.specs.declared.id.Name.{Name}
use Rattle.gb_store.specs.Files.{Files}
use Rattle.ref_store.specs.Listing.{IsRefList}
use Rattle.ref_store.specs.Refs.{Ref, Head, Bad}
use Rattle.ref_store.specs.declared.listing.RefEntry.{RefEntry}
use Rattle.ref_store.specs.declared.listing.RefFound.{RefFound}
use Rattle.ref_store.specs.declared.listing.RefFound.TheVariants as found
use Rattle.repo_state.specs.Sides.{dir_of, head_at}
use Rattle.repo_state.specs.declared.refs.EntityRef.{EntityRef}
use Rattle.repo_state.specs.declared.side.Side.{Side}
use Rattle.repo_state.specs.declared.side.Side.TheVariants as side

-- the ref that stands with this head, or with none
abbrev pub ref_with : Option Name → Ref
ref_with None = Bad
ref_with (Some name) = Head name

-- the head of what was found of a ref, if it reads
abbrev pub head_in : RefFound → Option Name
head_in (found.Head name) = Some name
head_in found.Bad = None

-- an entry of a listing, as the ref of an id
abbrev pub ref_in : RefEntry → EntityRef
ref_in e = record { id = e.id; head = head_in e.found }

-- the refs of all ids whose refs stand, each once, in the order of the ids' bytes, and each with its head if it reads
pub record AreRefs (files : Files) (folder : List ℕ) (of : Side) (refs : List EntityRef) : Type 0 where
  pub rising : IsStrictlySortedBy (slice_cmp nat_cmp) (map (λ (e : EntityRef). e.id.bytes) refs)
  pub members : (e : EntityRef) → Contains refs e ↔ (IsId e.id × (head_at files folder of e.id ≡ ref_with e.head))

-- the refs of the local identities, as a listing finds them
abbrev pub AreIdentityRefs : Files → List ℕ → List RefEntry → Type 0
AreIdentityRefs files folder entries = IsRefList files folder (dir_of side.Identities) entries

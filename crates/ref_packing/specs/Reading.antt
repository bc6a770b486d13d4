-- What is read before a pack: the packed refs, and the loose refs of each dir.
use Rattle.std.specs.Prelude.{◌≡◌, ◌≢◌, ⊤, ℕ, true, false, List, ◌∷◌, ◌++◌, All, Option, Some, None, option_and_then, Result, Ok, Err}
use Rattle.std.specs.List.{filter_map}
use Rattle.gb_text.specs.Digits.{id_of}
use Rattle.gb_text.specs.Folder.{joined}
use Rattle.gb_text.specs.declared.id.Id.{Id}
use Rattle.gb_store.specs.Files.{Files, IsListing}
use Rattle.packed_refs.specs.Packed.{PackedRef}
use Rattle.ref_store.specs.Listing.{id_place}
use Rattle.ref_store.specs.Refs.{Ref, Absent, Head, Bad, packed_at, packed_place, packed_reads, ref_at}
use Rattle.ref_packing.specs.Packing.{AreLoose, IsFirstBad}
use Rattle.ref_packing.specs.declared.fault.PackFault.{PackFault}
use Rattle.ref_packing.specs.declared.fault.PackFault.TheVariants as fault

-- the refs of the packed file, if it reads
abbrev pub OldAnswers : Files → List ℕ → Result (List PackedRef) PackFault → Type 0
OldAnswers files folder (Ok refs) = (packed_reads files folder ≡ true) × (refs ≡ packed_at files folder)
OldAnswers files folder (Err fault.Memory) = ⊤
OldAnswers files folder (Err fault.Disk) = ⊤
OldAnswers files folder (Err (fault.BadRef at)) = (at ≡ joined folder packed_place) × (packed_reads files folder ≡ false)
OldAnswers files folder (Err (fault.TooLarge bytes)) = ⊥

-- the line of a ref at a place, if it is a head
abbrev pub line_at : List ℕ → Ref → Option PackedRef
line_at place Absent = None
line_at place (Head head) = Some (record { name = place; head = head })
line_at place Bad = None

-- the line of the ref at a place, or that the place is bad
abbrev pub PlaceAnswers : Files → List ℕ → List ℕ → Result (Option PackedRef) PackFault → Type 0
PlaceAnswers files folder place (Ok line) = (line ≡ line_at place (ref_at files folder place)) × (ref_at files folder place ≢ Bad)
PlaceAnswers files folder place (Err fault.Memory) = ⊤
PlaceAnswers files folder place (Err fault.Disk) = ⊤
PlaceAnswers files folder place (Err (fault.BadRef at)) = (at ≡ joined folder place) × (ref_at files folder place ≡ Bad)
PlaceAnswers files folder place (Err (fault.TooLarge bytes)) = ⊥

-- the line of an id's ref in a dir
abbrev pub id_line : Files → List ℕ → List ℕ → Id → Option PackedRef
id_line files folder dir id = line_at (id_place dir id) (ref_at files folder (id_place dir id))

-- the line of a file's name, if that is an id with a head
abbrev pub named_line : Files → List ℕ → List ℕ → List ℕ → Option PackedRef
named_line files folder dir name = option_and_then (id_line files folder dir) (id_of name)

-- the name is an id with a bad ref, at this place
pub record IsBadName (files : Files) (folder dir name place : List ℕ) : Type 0 where
  pub id : Id
  pub is_id : id_of name ≡ Some id
  pub is_place : place ≡ id_place dir id
  pub is_bad : ref_at files folder place ≡ Bad

-- the name is no id with a bad ref
abbrev pub IsGoodName : Files → List ℕ → List ℕ → List ℕ → Type 0
IsGoodName files folder dir name = (place : List ℕ) → IsBadName files folder dir name place → ⊥

-- the line of a name, or that it is bad
abbrev pub NameAnswers : Files → List ℕ → List ℕ → List ℕ → Result (Option PackedRef) PackFault → Type 0
NameAnswers files folder dir name (Ok line) = (line ≡ named_line files folder dir name) × IsGoodName files folder dir name
NameAnswers files folder dir name (Err fault.Memory) = ⊤
NameAnswers files folder dir name (Err fault.Disk) = ⊤
NameAnswers files folder dir name (Err (fault.BadRef at)) = (place : List ℕ) × (at ≡ joined folder place) × IsBadName files folder dir name place
NameAnswers files folder dir name (Err (fault.TooLarge bytes)) = ⊥

-- the first bad one of some names
pub record IsFirstBadName (files : Files) (folder dir : List ℕ) (names : List (List ℕ)) (place : List ℕ) : Type 0 where
  pub before : List (List ℕ)
  pub name : List ℕ
  pub after : List (List ℕ)
  pub are : names ≡ before ++ name ∷ after
  pub good : All (IsGoodName files folder dir) before
  pub bad : IsBadName files folder dir name place

-- the lines of some names come to those before them, or the first bad name is told
abbrev pub NamesAnswer : Files → List ℕ → List ℕ → List (List ℕ) → List PackedRef → List PackedRef → Result Unit PackFault → Type 0
NamesAnswer files folder dir names old new (Ok done) =
    (new ≡ old ++ filter_map (named_line files folder dir) names) × All (IsGoodName files folder dir) names
NamesAnswer files folder dir names old new (Err fault.Memory) = ⊤
NamesAnswer files folder dir names old new (Err fault.Disk) = ⊤
NamesAnswer files folder dir names old new (Err (fault.BadRef at)) = (place : List ℕ) × (at ≡ joined folder place) × IsFirstBadName files folder dir names place
NamesAnswer files folder dir names old new (Err (fault.TooLarge bytes)) = ⊥

-- the lines of the names of a dir come to those before them
pub record DirTaken (files : Files) (folder dir : List ℕ) (old new : List PackedRef) : Type 0 where
  pub names : List (List ℕ)
  pub listing : IsListing files (joined folder dir) names
  pub lines : new ≡ old ++ filter_map (named_line files folder dir) names
  pub good : All (IsGoodName files folder dir) names

-- the first bad name of a dir is of this place
pub record IsFirstInDir (files : Files) (folder dir place : List ℕ) : Type 0 where
  pub names : List (List ℕ)
  pub listing : IsListing files (joined folder dir) names
  pub first : IsFirstBadName files folder dir names place

abbrev pub DirAnswers : Files → List ℕ → List ℕ → List PackedRef → List PackedRef → Result Unit PackFault → Type 0
DirAnswers files folder dir old new (Ok done) = DirTaken files folder dir old new
DirAnswers files folder dir old new (Err fault.Memory) = ⊤
DirAnswers files folder dir old new (Err fault.Disk) = ⊤
DirAnswers files folder dir old new (Err (fault.BadRef at)) = (place : List ℕ) × (at ≡ joined folder place) × IsFirstInDir files folder dir place
DirAnswers files folder dir old new (Err (fault.TooLarge bytes)) = ⊥

-- the loose refs, or the first bad one
abbrev pub LooseAnswers : Files → List ℕ → Result (List PackedRef) PackFault → Type 0
LooseAnswers files folder (Ok taken) = AreLoose files folder taken
LooseAnswers files folder (Err fault.Memory) = ⊤
LooseAnswers files folder (Err fault.Disk) = ⊤
LooseAnswers files folder (Err (fault.BadRef at)) = (name : List ℕ) × (at ≡ joined folder name) × IsFirstBad files folder name
LooseAnswers files folder (Err (fault.TooLarge bytes)) = ⊥

-- Members in byte order of their names.
use Rattle.std.specs.Prelude.{◌≡◌, ⊤, ℕ, suc, ◌&&◌, Bool, true, not, List, [], ◌∷◌, ◌++◌, codes, decimal}
use Rattle.std.specs.List.{AllByRecursion, list_all}
use Rattle.std.specs.Str.{bytes_eq}
use Rattle.std.specs.Cmp.Lexicographic.{slice_cmp}
use Rattle.std.specs.Ordering.{nat_cmp, match_ordering}
use Rattle.std.specs.declared.cmp.Ordering.TheVariants.{Less}
use Rattle.op_kind.specs.Members.{Fields}
use Rattle.op_kind.specs.Pairs.{pairs_text}
use Rattle.op_kind.specs.Written.{nonce_text}
use Rattle.op_kind.specs.declared.place.Common.{Common}
use Rattle.op_kind.specs.declared.place.Pair.{Pair}

-- a member among others: behind those whose names come before its own in byte order
abbrev pub with_written : List ℕ × List ℕ → Fields → Fields
with_written f [] = f ∷ []
with_written f (g ∷ gs) = match_ordering (slice_cmp nat_cmp g.0 f.0) (g ∷ with_written f gs) (f ∷ g ∷ gs) (f ∷ g ∷ gs)

-- the place of a name among members: behind the names that come before it
abbrev pub place_among : List ℕ → Fields → ℕ
place_among name [] = 0
place_among name (g ∷ gs) = match_ordering (slice_cmp nat_cmp g.0 name) (suc (place_among name gs)) 0 0

-- others with further members, each in its place
abbrev pub put_all : Fields → Fields → Fields
put_all fs [] = fs
put_all fs (g ∷ gs) = put_all (with_written g fs) gs

-- The names ascend in byte order, and none stands twice.
abbrev pub NamesAscend : Fields → Type 0
NamesAscend [] = ⊤
NamesAscend (f ∷ fs) = AllByRecursion (λ g. slice_cmp nat_cmp f.0 g.0 ≡ Less) fs × NamesAscend fs

-- the name is none of these
abbrev pub is_apart : List ℕ → List (List ℕ) → Bool
is_apart name names = list_all (λ other. not (bytes_eq other name) && not (bytes_eq name other)) names

-- no name stands twice
abbrev pub are_apart : List (List ℕ) → Bool
are_apart [] = true
are_apart (name ∷ names) = is_apart name names && are_apart names

-- ---- the members that every operation has

-- their names
abbrev pub common_names : List (List ℕ)
common_names = codes "metadata" ∷ codes "nonce" ∷ codes "timestamp" ∷ codes "type" ∷ []

-- the metadata as a member, where it is not empty
abbrev pub metadata_members : List Pair → Fields
metadata_members [] = []
metadata_members (p ∷ ps) = (codes "metadata", pairs_text (p ∷ ps)) ∷ []

-- the nonce as a member
abbrev pub nonce_member : Common → List ℕ × List ℕ
nonce_member c = (codes "nonce", nonce_text c.nonce)

-- the time as a member
abbrev pub time_member : Common → List ℕ × List ℕ
time_member c = (codes "timestamp", decimal c.time)

-- the number of the type as a member
abbrev pub type_member : Common → List ℕ × List ℕ
type_member c = (codes "type", decimal c.kind)

-- The members that every operation has, as they are written.
abbrev pub common_members : Common → Fields
common_members c = metadata_members c.metadata ++ nonce_member c ∷ time_member c ∷ type_member c ∷ []

-- What a look-up of a prefix among ids answers.
use Rattle.std.specs.Prelude.{◌≡◌, ◌<◌, Bool, false, List, [], ◌∷◌, length, take, drop, filter, ⊤}
use Rattle.std.specs.List.{All}
use Rattle.std.specs.List.Sorted.{IsPermutation}
use Rattle.std.specs.Cmp.Lexicographic.{slice_cmp}
use Rattle.std.specs.Ordering.{is_lt, nat_cmp}
use Rattle.gb_text.specs.Prefix.{fits}
use Rattle.gb_text.specs.declared.id.Id.{Id}
use Rattle.gb_text.specs.declared.prefix.Prefix.{Prefix}
use Rattle.combined_id.specs.declared.lookup.Lookup.{Lookup}
use Rattle.combined_id.specs.declared.lookup.Lookup.TheVariants.{One, NotFound, Ambiguous}

-- the first id is less than the second
abbrev pub is_below : Id → Id → Bool
is_below one two = is_lt (slice_cmp nat_cmp one.bytes two.bytes)

-- the ids that the prefix fits, each as often as it is listed
abbrev pub fitting : Prefix → List Id → List Id
fitting prefix ids = filter (fits prefix) ids

-- two ids of a list, the first not greater than the second, and no other less than the second
pub record IsLeastTwo (ids : List Id) (least next : Id) : Type 0 where
  pub others : List Id
  pub are : IsPermutation ids (least ∷ next ∷ others)
  pub ordered : is_below next least ≡ false
  pub above : All (λ other. is_below other next ≡ false) others

-- the answer, by the ids that fit: the position of the only one, none, or the two least
abbrev pub Answers : List Id → List Id → Lookup → Type 0
Answers ids fit (One place) = (place < length ids) × (fit ≡ take 1 (drop place ids))
Answers ids fit NotFound = fit ≡ []
Answers ids fit (Ambiguous least next) = IsLeastTwo fit least next

-- the answer to a prefix
abbrev pub Finds : Prefix → List Id → Lookup → Type 0
Finds prefix ids found = Answers ids (fitting prefix ids) found

-- a position is one of the list
abbrev pub IsWithin : List Id → Lookup → Type 0
IsWithin ids (One place) = place < length ids
IsWithin ids NotFound = ⊤
IsWithin ids (Ambiguous least next) = ⊤

-- the ids that an answer names
abbrev pub named : List Id → Lookup → List Id
named ids (One place) = take 1 (drop place ids)
named ids NotFound = []
named ids (Ambiguous least next) = least ∷ next ∷ []

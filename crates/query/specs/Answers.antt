-- The answer to a query: the rows that match, in its order.
use Rattle.std.specs.Prelude.{◌≡◌, ℕ, ◌+◌, Bool, true, false, if◌then◌else◌, List, [], ◌∷◌, map, Some, slice_get, IsPermutation}
use Rattle.std.specs.List.Sorted.{IsSorted}
use Rattle.std.specs.Ordering.{nat_cmp, ordering_then}
use Rattle.std.specs.declared.cmp.Ordering.{Ordering}
use Rattle.std.specs.Cmp.Lexicographic.{slice_cmp}
use Rattle.gb_text.specs.declared.id.Id.{Id}
use Rattle.bug_ops.specs.declared.snapshot.Excerpt.{Excerpt}
use Rattle.identity.specs.declared.chain.Person.{Person}
use Rattle.query.specs.declared.order.Placed.{Placed}
use Rattle.query.specs.declared.query.Query.{Query}
use Rattle.query.specs.declared.query.SortKey.{SortKey}
use Rattle.query.specs.declared.query.SortKey.TheVariants.{ById, ByCreation, ByEdit}
use Rattle.query.specs.Matching.{matches}

-- ids by their bytes
abbrev pub id_cmp : Id → Id → Ordering
id_cmp a b = slice_cmp nat_cmp a.bytes b.bytes

-- the clock that the order looks at, none for that by id
abbrev pub clock_of : SortKey → Excerpt → ℕ
clock_of ById row = 0
clock_of ByCreation row = row.create
clock_of ByEdit row = row.edit

-- by descending id
abbrev pub by_id_down : Placed → Placed → Ordering
by_id_down a b = id_cmp b.id a.id

-- by ascending clock, and if that is equal by ascending id
abbrev pub by_clock : Placed → Placed → Ordering
by_clock a b = ordering_then (nat_cmp a.clock b.clock) (id_cmp a.id b.id)

-- by descending clock, and if that is equal by ascending id
abbrev pub by_clock_down : Placed → Placed → Ordering
by_clock_down a b = ordering_then (nat_cmp b.clock a.clock) (id_cmp a.id b.id)

-- the order that is asked for
abbrev pub placed_cmp : SortKey → Bool → Placed → Placed → Ordering
placed_cmp ById true = by_id_down
placed_cmp ById false = by_clock
placed_cmp ByCreation true = by_clock_down
placed_cmp ByCreation false = by_clock
placed_cmp ByEdit true = by_clock_down
placed_cmp ByEdit false = by_clock

-- a row and its place
abbrev pub placed_of : SortKey → ℕ → Excerpt → Placed
placed_of key place row = record { clock = clock_of key row; id = row.id; place = place }

-- the rows that pass a test, from a place on
abbrev pub matching_by : (Excerpt → Bool) → SortKey → ℕ → List Excerpt → List Placed
matching_by test key place [] = []
matching_by test key place (row ∷ rows) =
    if test row then placed_of key place row ∷ matching_by test key (place + 1) rows
    else matching_by test key (place + 1) rows

-- the rows that match, from a place on
abbrev pub matching : List Person → Query → ℕ → List Excerpt → List Placed
matching names q place rows = matching_by (matches names q) q.key place rows

-- the places of the rows that match, each once, in the order of the query
pub record IsAnswer (names : List Person) (q : Query) (rows : List Excerpt) (places : List ℕ) : Type 0 where
  pub placed : List Placed
  pub each : IsPermutation (matching names q 0 rows) placed
  pub ordered : IsSorted (placed_cmp q.key q.down) placed
  pub are : places ≡ map (λ p. p.place) placed

-- a row that matches is at the place
abbrev pub MatchesAt : List Person → Query → List Excerpt → ℕ → Type 0
MatchesAt names q rows place = (row : Excerpt) × (slice_get rows place ≡ Some row) × (matches names q row ≡ true)

-- Metadata: objects whose members are texts with distinct names.
use Rattle.std.specs.Prelude.{ℕ, List, [], ◌∷◌, map, Option, Some, None, option_and_then, is_some, if◌then◌else◌}
use Rattle.std.specs.Option.{option_map}
use Rattle.std.specs.Map.{lookup}
use Rattle.std.specs.BTreeMap.{insert_entry, is_at}
use Rattle.std.specs.Ordering.{nat_cmp}
use Rattle.std.specs.Cmp.Lexicographic.{slice_cmp}
use Rattle.json_span.specs.Parts.{members_of}
use Rattle.op_kind.specs.Members.{text_at}
use Rattle.op_kind.specs.declared.place.Pair.{Pair}

-- texts by their keys, in byte order of the keys
abbrev pub Entries : Type 0
Entries = List (List ℕ × List ℕ)

-- one more entry in its place, whose key is new
abbrev pub with_entry : Entries → List ℕ → List ℕ → Option Entries
with_entry es k v = if is_some (lookup (is_at (slice_cmp nat_cmp k)) es) then None else Some (insert_entry (slice_cmp nat_cmp) es k v)

-- one more entry, if its key and its value read
abbrev pub with_texts : Entries → Option (List ℕ) → Option (List ℕ) → Option Entries
with_texts es None value = None
with_texts es (Some k) None = None
with_texts es (Some k) (Some v) = with_entry es k v

-- some entries, and those of further members
abbrev pub entries_from : Entries → List (List ℕ × List ℕ) → Option Entries
entries_from es [] = Some es
entries_from es (m ∷ ms) = option_and_then (λ more. entries_from more ms) (with_texts es (text_at m.0) (text_at m.1))

-- the entries of an object text
abbrev pub entries_at : List ℕ → Option Entries
entries_at json = option_and_then (entries_from []) (members_of json)

-- an entry as a pair
abbrev pub pair_of : List ℕ × List ℕ → Pair
pair_of e = record { key = e.0; value = e.1 }

-- The pairs of an object of texts with distinct keys, in byte order of the keys.
unfoldable pub pairs_at : List ℕ → Option (List Pair)
pairs_at json = option_map (map pair_of) (entries_at json)

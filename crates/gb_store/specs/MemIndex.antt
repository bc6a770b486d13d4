-- The index by path of a list of writes.
use Rattle.std.specs.Prelude.{◌≡◌, ◌==◌, ℕ, List, [], ◌∷◌, ◌++◌, length, reverse, Option, Some, None, is_some, slice_get, String, string_bytes, if◌then◌else◌}
use Rattle.std.specs.List.{list_any}
use Rattle.std.specs.Option.{option_and_then, option_to_list}
use Rattle.std.specs.BTreeMap.{BTreeMap, get_by_text}
use Rattle.std.specs.declared.alloc.Global.{Global}
use Rattle.std.specs.Str.{bytes_eq}
use Rattle.gb_store.specs.declared.store.Change.{Change}

-- what follows a prefix of a list; none where the list does not begin with it
abbrev pub after_prefix : List ℕ → List ℕ → Option (List ℕ)
after_prefix [] text = Some text
after_prefix (c ∷ cs) [] = None
after_prefix (c ∷ cs) (d ∷ ds) = if c == d then after_prefix cs ds else None

-- a name, which has no slash
abbrev pub name_only : Option (List ℕ) → Option (List ℕ)
name_only None = None
name_only (Some name) = if list_any (λ c. c == 47) name then None else Some name

-- the name of a path that is right in a folder
abbrev pub name_below : List ℕ → List ℕ → Option (List ℕ)
name_below dir path = name_only (after_prefix (dir ++ 47 ∷ []) path)

-- the bytes of the write at an index
abbrev pub bytes_at : List Change → ℕ → Option (List ℕ)
bytes_at changes at = option_and_then (λ (change : Change). change.bytes) (slice_get changes at)

-- where the last write of a path is, counted from the oldest; none where no write is of it
abbrev pub newest_in : List Change → List ℕ → Option ℕ
newest_in [] path = None
newest_in (change ∷ earlier) path = if bytes_eq change.path path then Some (length earlier) else newest_in earlier path

-- the index tells where the last write of each path is, of writes with the oldest first
abbrev pub IsIndex : BTreeMap (String Global) ℕ → List Change → Type 0
IsIndex latest changes = (path : List ℕ) → get_by_text latest path ≡ newest_in (reverse changes) path

-- the name of an entry of the index that is right in a folder, and whose file stands
abbrev pub entry_name : List Change → List ℕ → String Global × ℕ → Option (List ℕ)
entry_name changes dir entry = if is_some (bytes_at changes entry.1) then name_below dir (string_bytes entry.0) else None

-- the names of such entries
abbrev pub listed : List Change → List ℕ → List (String Global × ℕ) → List (List ℕ)
listed changes dir [] = []
listed changes dir (entry ∷ entries) = option_to_list (entry_name changes dir entry) ++ listed changes dir entries
